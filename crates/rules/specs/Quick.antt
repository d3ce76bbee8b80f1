-- One wire of a file, read no further than the line that settles it: how wide it is, and its author's index of a bit.
-- Source: document 02, request 10.
use Rattle.std.specs.Prelude.{ℕ, ◌+◌, List, [], ◌∷◌, reverse, Bool, false, cond, ◌&&◌, ◌||◌, ltb, eqb, ℤ, length}
use Rattle.std.proofs.Math.Option.{Option, none, some}
use Rattle.rules.specs.Limits.{longest_file}
use Rattle.rules.specs.Bytes.{same}
use Rattle.rules.specs.Lines.{Line, lines}
use Rattle.rules.specs.Tokens.{Name}
use Rattle.rules.specs.Statements.{Wire, a_module, a_wire, an_end, is, contents, own_name}
use Rattle.rules.specs.Judgement.{Past, sum, count, scope, Verdict}
use Rattle.rules.specs.Reading.{outcome, Answer, accepted, refused, is_top, finish, next}
use Rattle.rules.specs.Design.{Object, design}
use Rattle.rules.specs.Session.{wires_at, index_in}

-- Stopping at the line that declares the wire: reading that ends behind the first line after which a test of the
-- statements so far holds. If a line is refused earlier or there, that refusal
unfoldable pub read_until : (Past → Bool) → ℕ → List Line → Past → Answer
read_until stop size [] ss = finish size ss
read_until stop size (l ∷ ls) ss =
    next (λ q. let more = read_until stop size ls q in cond (stop q) (accepted (reverse q)) more) ss (outcome ss l)

-- the last statement declares wire n of module m, or ends that module
unfoldable pub settles : ℕ → Name → Past → Bool
settles m n [] = false
settles m n (s ∷ ss) =
    eqb (sum (count (a_module ∷ [])) (s ∷ ss)) (m + 1)
    && ((is a_wire s && same n (own_name (contents s).names)) || (is an_end s && is_top (scope (s ∷ ss))))

-- the first wire of this name
unfoldable pub wire_named : Name → List (Object Wire) → Option Wire
wire_named n [] = none
wire_named n (w ∷ ws) = let r = wire_named n ws in cond (same w.name n) (some w.body) r

-- what is asked of the wire; or a refusal with its number and place
pub data Sought (A : Type 0) : Type 0 where
  gives : A → Sought A
  stops : (number place : ℕ) → Sought A

-- 10 comes last, with place 0
unfoldable pub of_verdict : {A : Type 0} → Verdict A → Sought A
of_verdict (Verdict.accepted a) = gives a
of_verdict (Verdict.refused k) = stops k 0

-- If the module ends without it, or the file ends properly without the module, 8; its place is 0
unfoldable pub of_wire : {A : Type 0} → (Wire → Verdict A) → Option Wire → Sought A
of_wire f none = stops 8 0
of_wire f (some w) = of_verdict (f w)

-- If no line up to that one is refused, the answer is the wire's
unfoldable pub sought : {A : Type 0} → (Wire → Verdict A) → ℕ → Name → Answer → Sought A
sought f m n (accepted ss) = of_wire f (wire_named n (wires_at (design ss) m))
sought f m n (refused k p) = stops k p

-- Refusal 2 comes first
unfoldable pub seek : {A : Type 0} → (Wire → Verdict A) → List ℕ → ℕ → Name → Sought A
seek f file m n =
    let r = sought f m n (read_until (settles m n) (length file) (lines file) []) in
    cond (ltb longest_file (length file)) (stops 2 0) r

unfoldable pub quick_width : List ℕ → ℕ → Name → Sought ℕ
quick_width file m n = seek (λ w. Verdict.accepted w.width) file m n

unfoldable pub quick_index : List ℕ → ℕ → Name → ℕ → Sought ℤ
quick_index file m n i = seek (λ w. index_in w i) file m n

unfoldable pub quick_open : Unit {0}
unfolding read_until settles wire_named of_verdict of_wire sought seek quick_width quick_index
quick_open = tt
