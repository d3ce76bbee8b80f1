-- Reading a file: its statements, or the number and place of its first refused line.
-- Source: document 01, "Numbers given back", and document 02's request 8 for the place of 4. Stricter than 004: a last
-- line with tokens needs its line end, and a file is at most 32,768 bytes.
use Rattle.std.specs.Prelude.{ℕ, ◌+◌, ◌-◌, List, [], ◌∷◌, reverse, Bool, true, false, not, cond, ◌&&◌, length, ltb}
use Rattle.std.proofs.Math.Option.{Option, none, some}
use Rattle.rules.specs.Limits.{longest_file}
use Rattle.rules.specs.Lines.{Line, lines, place}
use Rattle.rules.specs.Tokens.{Token, Lexed, bad, good, tokens}
use Rattle.rules.specs.Statements.{Statement, Shape}
use Rattle.rules.specs.Shapes.{Scope, top, in_module, in_cell, in_process, in_tail, in_sync, in_switch, in_case, shape}
use Rattle.rules.specs.Judgement.{Past, context, Verdict, judge}

-- what a line gives: nothing, since it has no token; a statement; or a refusal with its number and place
pub data Outcome : Type 0 where
  skipped : Outcome
  states : Statement → Outcome
  refused : (number place : ℕ) → Outcome

-- 5: line has no permitted shape here; bundle too deep
unfoldable pub shaped : Past → Option Shape → Verdict Statement
shaped ss none = Verdict.refused 5
shaped ss (some sh) = judge ss sh

-- A line without its line end is 5
unfoldable pub stated : Past → Bool → List Token → Verdict Statement
stated ss ended ts = cond ended (shaped ss (shape (context ss) ts)) (Verdict.refused 5)

unfoldable pub judged : ℕ → Verdict Statement → Outcome
judged p (Verdict.accepted s) = states s
judged p (Verdict.refused n) = refused n p

-- 4: bad token; on any line. The place is the first byte of the leftmost bad token, which `left` starts with; an
-- unfinished string or a token wrongly followed is itself the bad one. A line without tokens is skipped
unfoldable pub lexed : Past → Line → Lexed → Outcome
lexed ss l (bad left) = refused 4 (l.start + (length l.text - length left))
lexed ss l (good []) = skipped
lexed ss l (good (t ∷ ts)) = judged (place l) (stated ss l.ended (t ∷ ts))

unfoldable pub outcome : Past → Line → Outcome
outcome ss l = lexed ss l (tokens l.text)

pub data Answer : Type 0 where
  accepted : List Statement → Answer
  refused : (number place : ℕ) → Answer

-- 5: file ends inside a module or after attributes; place: file length
unfoldable pub is_top : Scope → Bool
is_top top = true
is_top in_module = false
is_top in_cell = false
is_top in_process = false
is_top in_tail = false
is_top in_sync = false
is_top (in_switch k) = false
is_top (in_case k) = false

unfoldable pub finish : ℕ → Past → Answer
finish size ss = cond (is_top (context ss).scope && not (context ss).attributed) (accepted (reverse ss)) (refused 5 size)

-- The first refused line decides; a line without tokens is only skipped
unfoldable pub next : (Past → Answer) → Past → Outcome → Answer
next more ss skipped = more ss
next more ss (states s) = more (s ∷ ss)
next more ss (Outcome.refused n p) = refused n p

unfoldable pub read_lines : ℕ → List Line → Past → Answer
read_lines size [] ss = finish size ss
read_lines size (l ∷ ls) ss = next (read_lines size ls) ss (outcome ss l)

-- a text of any length
unfoldable pub read_any : List ℕ → Answer
read_any file = read_lines (length file) (lines file) []

-- 2: file over 32,768 bytes; place: 0
unfoldable pub read : List ℕ → Answer
read file = cond (ltb longest_file (length file)) (refused 2 0) (read_any file)

-- Request 3: the check gives the number and place that reading gives, 0 and 0 of an accepted file
unfoldable pub checked : Answer → ℕ × ℕ
checked (accepted ss) = (0, 0)
checked (refused n p) = (n, p)

unfoldable pub reading_open : Unit {0}
unfolding shaped stated judged lexed outcome is_top finish next read_lines read_any read checked
reading_open = tt
