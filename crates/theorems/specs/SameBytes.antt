-- SAME DESIGN, SAME BYTES. Document 02, request 13: "For two accepted files whose texts can both be written, the designs are equal exactly when the written texts
-- are equal byte for byte, and writing, reading and writing again gives the first text. With processes it holds as well. Renamed designs are compared with the names
-- they have now, not those to show, their undo history left aside."
-- Assumes nothing.
use Rattle.std.specs.Prelude.{ℕ, ◌≡◌, refl, ◌↔◌}
use Rattle.std.proofs.Common.{sym, ap, ◌∙◌}
use mathlib.Core.List.{List, []}
use Rattle.rules.specs.Limits.{longest_file}
use Rattle.rules.specs.Statements.{Statement}
use Rattle.rules.specs.Judgement.{Verdict}
use Rattle.rules.specs.Reading.{accepted, read}
use Rattle.rules.specs.Design.{Design, design}
use Rattle.rules.specs.Session.{Rename, Call, now, plain_session}
use Rattle.rules.specs.Layout.{layout}
use Rattle.rules.specs.Text.{write, printed, program_by, program}
use Rattle.admitted.specs.Holds.{Holds, no-renames}
use Rattle.soundness.specs.ReadLaws.{read-admitted}
use Rattle.theorems.specs.StandingLaws.{allowed-session}
use Rattle.theorems.specs.ReadingBack.{read-any}
use Rattle.theorems.specs.OneText.{written-text, one-text, one-design}

-- the renames that stand after any calls, refused ones included
abbrev pub standing_after : List Statement → List Call → List Rename
standing_after ss cs = (plain_session (design ss) [] cs).1

-- the design of an accepted file after these calls: the names now, and no history
abbrev pub after : List Statement → List Call → Design
after ss cs = now (design ss) (standing_after ss cs)

pub after_holds : (f : List ℕ) {ss : List Statement} → read f ≡ accepted ss → (cs : List Call) → Holds (layout ss (standing_after ss cs)) ss (standing_after ss cs)
after_holds f {ss} a cs =
    let q = read-admitted f ss (read-any f ss a) in
    record { admitted = q.0; closes = q.1; allowed = allowed-session (design ss) cs [] no-renames; is = refl }

-- what the program writes for a file that is accepted, and whose text it can write
pub program-text : (f : List ℕ) {ss : List Statement} {t : List ℕ} → read f ≡ accepted ss → write longest_file (design ss) ≡ Verdict.accepted t → program f ≡ t
unfolding program program_by printed
program-text f a w = ap program_by a ∙ ap printed w

-- "FOR TWO ACCEPTED FILES"
module _ (f g : List ℕ) {ss ts : List Statement} (a : read f ≡ accepted ss) (b : read g ≡ accepted ts) where
  -- with the names now after any calls, "WHOSE TEXTS CAN BOTH BE WRITTEN", each into a room of its own
  module _
      (cs es : List Call) (room more : ℕ) {t u : List ℕ} (w : write room (after ss cs) ≡ Verdict.accepted t)
      (v : write more (after ts es) ≡ Verdict.accepted u) where
    pub same_bytes : (after ss cs ≡ after ts es) ↔ (t ≡ u)
    same_bytes = (
      one-text room more (after ss cs) (after ts es) t u w v,
      λ e. one-design (after_holds f a cs) (after_holds g b es) (written-text room (after ss cs) t w ∙ e ∙ sym (written-text more (after ts es) u v)),
    )

-- "WRITING, READING AND WRITING AGAIN GIVES THE FIRST TEXT": a text that is accepted and written as itself
pub record Again (room : ℕ) (t : List ℕ) : Type 0 where
  pub statements : List Statement
  pub reads : read t ≡ accepted statements
  pub writes : write room (design statements) ≡ Verdict.accepted t
