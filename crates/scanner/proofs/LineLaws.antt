-- The lines of a file, by positions.
-- Assumes nothing.
use mathlib.Core.Path.{◌≡◌, refl, sym, ◌∙◌}
use mathlib.Core.Bool.{Bool, true, false, not, cond}
use mathlib.Core.List.{List, [], ◌∷◌}
use Prim.Native.Nat.{ℕ, suc, ◌+◌, ◌<◌, ◌≤◌}
use native.Mathlib.Numerals.{add-one}
use native.Mathlib.Omega.{arith}
use lib.Dec.{ltb}
use lib.ListN.{length, drop, drop_of_length-le}
use lib.Seq.{slice, drop-cons}
use borrow.Author.Tests.{ltb-true, ltb-false}
use Rattle.rules.specs.Bytes.{is_line_end, run, rest}
use Rattle.rules.specs.Lines.{lines_from, longer}
use Rattle.rules.specs.Lines as rules
use Rattle.rules.specs.Tokens.{tokens, tokens_from}
use Rattle.rules.specs.Judgement.{Past}
use Rattle.rules.specs.Reading.{lexed, outcome, finish, next, read_lines}
use Rattle.scanner.specs.Class.{in_class}
use Rattle.scanner.specs.Runs.{end_of}
use Rattle.scanner.specs.Lines.{line_from}
use Rattle.lists.specs.Tests.{by-test, by-lt}
use Rattle.scanner.proofs.ClassLaws.{class-in-line}
use Rattle.scanner.proofs.RunLaws.{end_of-low, end_of-high, end_of-slice, end_of-rest}

-- a byte of a line
abbrev pub in_line : ℕ → Bool
in_line b = not (is_line_end b)

-- a line that starts at a position, its bytes, and the lines in what is left from its line end on
unfoldable led : ℕ → List ℕ → List ℕ → List rules.Line
led at t [] = record { start = at; text = t; ended = false } ∷ []
led at t (b ∷ bs) = record { start = at; text = t; ended = true } ∷ lines_from (at + length t + 1) bs

led-longer : (at b : ℕ) (t l : List ℕ) → longer at b (led (at + 1) t l) ≡ led at (b ∷ t) l
unfolding led longer
led-longer at b t [] = refl
led-longer at b t (x ∷ xs) = let q : at + 1 + length t + 1 ≡ at + suc (length t) + 1 = omega arith in rw q

lines-led : (at : ℕ) (l : List ℕ) → lines_from at l ≡ led at (run in_line l) (rest in_line l)
unfolding lines_from led run rest
lines-led at [] = refl
lines-led at (b ∷ bs) =
    by-test (is_line_end b)
    (λ e. let q : at + 0 + 1 ≡ at + 1 = omega arith in rw (e, q))
    (λ e. rw (e, lines-led (at + 1) bs) (led-longer at b (run in_line bs) (rest in_line bs)))

-- the lines behind a line, by whether it has its line end
following : (e : ℕ) (s : List ℕ) → List rules.Line
following e s = cond (ltb e (length s)) (lines_from (cond (ltb e (length s)) (e + 1) e) (drop (cond (ltb e (length s)) (e + 1) e) s)) []

led-at : (at e : ℕ) (t s : List ℕ) → at + length t ≡ e → led at t (drop e s) ≡ record { start = at; text = t; ended = ltb e (length s) } ∷ following e s
unfolding led following
led-at at e t s q =
    by-test (ltb e (length s))
    (λ h. let k : e < length s = ltb-true e (length s) h in rw (drop-cons s e 0, h, q, add-one))
    (λ h. let k : length s ≤ e = ltb-false e (length s) h in rw (drop_of_length-le s k, h))

module _ (s : List ℕ) (at : ℕ) where
  pub line_low : at ≤ (line_from s at).end
  unfolding line_from
  line_low = end_of-low (in_class 1 14) s at

  pub line-high : at ≤ length s → (line_from s at).end ≤ length s
  unfolding line_from
  line-high h = end_of-high (in_class 1 14) s at h

  pub line-next : at ≤ length s → (line_from s at).next ≤ length s
  unfolding line_from
  line-next h =
      by-lt (λ (n : ℕ). n ≤ length s) (end_of (in_class 1 14) s at) (length s) (λ e. omega arith) (λ e. end_of-high (in_class 1 14) s at h)

  text : slice at (line_from s at).end s ≡ run in_line (drop at s)
  unfolding line_from
  text = rw class-in-line (end_of-slice (in_class 1 14) s at)

  size : at + length (slice at (line_from s at).end s) ≡ (line_from s at).end
  unfolding line_from end_of
  size = rw (end_of-slice (in_class 1 14) s at)

  pub lines-from :
      lines_from at (drop at s) ≡
      record { start = at; text = slice at (line_from s at).end s; ended = (line_from s at).ended } ∷
      cond (line_from s at).ended (lines_from (line_from s at).next (drop (line_from s at).next s)) []
  unfolding line_from following
  lines-from =
      let e : ℕ = end_of (in_class 1 14) s at in
      let left : rest in_line (drop at s) ≡ drop e s = rw class-in-line (sym (end_of-rest (in_class 1 14) s at)) in
      lines-led at (drop at s) ∙ rw (← text, left) (led-at at e (slice at e s) s size)

-- behind the last byte stands a line without a token
pub last_line : (size at : ℕ) (ss : Past) → read_lines size (lines_from at []) ss ≡ finish size ss
unfolding read_lines lines_from outcome tokens tokens_from lexed next
last_line size at ss = refl
