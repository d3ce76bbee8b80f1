-- The lowest number that a signal's parts are refused with.
use Rattle.std.specs.Prelude.{ℕ, List, [], ◌∷◌, Bool, not, cond, ◌||◌, leb, ltb, eqb}
use Rattle.std.proofs.Math.Option.{get_or}
use Rattle.rules.specs.Limits.{most_width}
use Rattle.rules.specs.Bytes.{all}
use Rattle.rules.specs.Statements.{Sig}
use Rattle.rules.specs.Signals.{Wires, width, declared_wire, good_slice, parts}
use Rattle.rules.specs.Numbers.{good_numbers}
use Rattle.rules.specs.Judgement.{lowest}

-- the first rule that one of these parts breaks: numbers, declared wires, slices inside, at most 2,048 bits; 0 if none
unfoldable pub faults : Wires → List Sig → ℕ
faults ws ps =
    get_or
    (lowest
    ((7, not (all good_numbers ps))
    ∷ (8, not (all (declared_wire ws) ps))
    ∷ (10, not (all (good_slice ws) ps))
    ∷ (11, not (all (λ p. leb (width ws p) most_width) ps))
    ∷ []))
    0

unfoldable pub fault : Wires → Sig → ℕ
fault ws s = faults ws (parts s)

-- the lower of two such numbers, of which 0 is none
unfoldable pub merge : ℕ → ℕ → ℕ
merge a b = cond (eqb a 0) b (cond (eqb b 0) a (cond (ltb a b) a b))

-- the number of a part of this width
unfoldable pub too_wide : ℕ → ℕ
too_wide w = cond (ltb most_width w) 11 0

-- no rule is broken but that of the width, so that the signal has a width
unfoldable pub mild : ℕ → Bool
mild n = eqb n 0 || ltb 10 n
