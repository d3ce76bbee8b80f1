-- READING BACK: for every admitted list of statements, reading its printed lines gives that list. Hence for every design that memory holds, with the
-- names it has now: what writing gives, if it gives a text, reading accepts, and it defines the same design.
-- Assumes nothing.
use Rattle.std.specs.Prelude.{ℕ, ◌≤◌, ◌≡◌, Bool, true, false, cond, List, [], reverse, ltb}
use Rattle.std.proofs.Math.ListN.{length}
use borrow.Author.Tests.{ltb-false}
use Rattle.rules.specs.Limits.{longest_file}
use Rattle.rules.specs.Statements.{Statement}
use Rattle.rules.specs.Judgement.{Verdict}
use Rattle.rules.specs.Reading.{Answer, accepted, refused, read_any, read}
use Rattle.rules.specs.Design.{Design, design, flatten}
use Rattle.rules.specs.Session.{Rename, now}
use Rattle.rules.specs.Layout.{Memory}
use Rattle.rules.specs.Text.{text_from, text, write_text, write}
use Rattle.lists.specs.Tests.{or-false-left}
use Rattle.admitted.specs.Admitted.{admitted, closes}
use Rattle.admitted.specs.Holds.{Holds}
use Rattle.admitted.specs.JudgeLaws.{no-tests}
use Rattle.canonical.specs.DesignLaws.{design-flatten}
use Rattle.canonical.specs.Canonical.{Whole, now-balanced, now-whole}
use Rattle.written.specs.TextLaws.{any-read, text-read}

-- a list of statements, in any order that is admitted, and of any length
pub lines-back : (ss : List Statement) → admitted (reverse ss) ≡ true → closes (reverse ss) ≡ true → read_any (text_from [] ss) ≡ accepted ss
lines-back = any-read

-- a file that is read has no more than 32,768 bytes
any-accepted : (b : Bool) (a : Answer) (ss : List Statement) → cond b (refused 2 0) a ≡ accepted ss → a ≡ accepted ss
any-accepted true a ss e = cc
any-accepted false a ss e = e

pub read-any : (file : List ℕ) (ss : List Statement) → read file ≡ accepted ss → read_any file ≡ accepted ss
unfolding read
read-any file ss e = any-accepted (ltb longest_file (length file)) (read_any file) ss e

-- a file that reading accepts as this design
pub record ReadsAs (file : List ℕ) (d : Design) : Type 0 where
  pub statements : List Statement
  pub reads : read file ≡ accepted statements
  pub defines : design statements ≡ d

module _ {m : Memory} {ss : List Statement} {rs : List Rename} (h : Holds m ss rs) where
  -- the design that the memory holds, with the names now
  abbrev held : Design
  held = now (design ss) rs

  canonical : Whole (flatten held)
  canonical = now-whole ss rs (record { admitted = h.admitted; closes = h.closes }) h.allowed

  -- its text, of any length, is accepted as the statements in canonical order
  pub text-back : read_any (text held) ≡ accepted (flatten held)
  unfolding text
  text-back = any-read (flatten held) canonical.admitted canonical.closes

  pub file-back : length (text held) ≤ longest_file → read (text held) ≡ accepted (flatten held)
  unfolding text
  file-back few = text-read (flatten held) canonical.admitted canonical.closes few

  -- which have that design
  pub same-design : design (flatten held) ≡ held
  same-design = design-flatten held (now-balanced ss rs (record { admitted = h.admitted; closes = h.closes }) h.allowed)

  -- WRITE, THEN READ: a text that writing gives, whatever the room lent
  pub write_read : (room : ℕ) (t : List ℕ) → write room held ≡ Verdict.accepted t → ReadsAs t held
  unfolding write write_text
  write_read room t e =
      let w = no-tests (text held) t _ e in
      let few : length (text held) ≤ longest_file = ltb-false longest_file (length (text held)) (or-false-left (ltb longest_file (length (text held))) _ w.1.0) in
      record { statements = flatten held; reads = rw (← w.0) (file-back few); defines = same-design }
