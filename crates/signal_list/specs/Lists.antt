-- The signals up to a line's end, by the grammar's parser of one signal, and the lowest number that they are refused with.
use Rattle.std.specs.Prelude.{ℕ, zero, suc, Bool, not, cond, ◌&&◌, ◌||◌, leb, ltb, length}
use mathlib.Core.List.{List, [], ◌∷◌, ◌++◌, map, flat_map}
use Rattle.std.proofs.Math.Option.{Option, none, some, get_or}
use Rattle.rules.specs.Limits.{most_width, most_signal_bits}
use Rattle.rules.specs.Bytes.{all}
use Rattle.rules.specs.Tokens.{Token}
use Rattle.rules.specs.Statements.{Sig, Shape, Step, step-stmt}
use Rattle.rules.specs.Shapes.{Parse, is_mark, either, nowhere, sigspec}
use Rattle.rules.specs.Signals.{Wires, width, declared_wire, good_slice, parts}
use Rattle.rules.specs.Numbers.{good_numbers}
use Rattle.rules.specs.Judgement.{sum, equal, lowest}

-- a signal, with `,` before it or without
unfoldable pub further : Bool → Parse Sig
further comma ts = cond comma (either (is_mark ",") sigspec nowhere ts) (sigspec ts)

unfoldable pub onward : Option (Sig × List Token) → (Sig → List Token → Option (List Sig)) → Option (List Sig)
onward none g = none
onward (some p) g = g p.0 p.1

-- the signals ss, and those behind them up to the line's end (each takes a token or more)
unfoldable pub list_on : Bool → ℕ → List Sig → List Token → Option (List Sig)
list_on comma zero ss [] = some ss
list_on comma zero ss (t ∷ ts) = none
list_on comma (suc k) ss [] = some ss
list_on comma (suc k) ss (t ∷ ts) = onward (further comma (t ∷ ts)) (λ s us. list_on comma k (ss ++ s ∷ []) us)

-- signals up to the line's end, one behind another or with `,` between
unfoldable pub listed : Bool → List Token → Option (List Sig)
listed comma [] = some []
listed comma (t ∷ ts) = onward (sigspec (t ∷ ts)) (λ s us. list_on comma (length us) (s ∷ []) us)

-- a step of these signals, where it takes so many
unfoldable pub step_with : Step → (ℕ → Bool) → Option (List Sig) → Option Shape
step_with p takes none = none
step_with p takes (some ss) = cond (takes (length ss)) (some (step-stmt p ss)) none

-- the first rule that signals break, but for those of the lines before: numbers, declared wires, slices inside and equal widths, at most 2,048
-- bits in a part and 8,192 in all; 0 if none
unfoldable pub list_fault : Wires → List Sig → ℕ
list_fault ws ss =
    let ps = flat_map parts ss in
    get_or
    (lowest
    ((7, not (all good_numbers ps))
    ∷ (8, not (all (declared_wire ws) ps))
    ∷ (10, not (all (good_slice ws) ps && equal (map (width ws) ss)))
    ∷ (11, not (all (λ p. leb (width ws p) most_width) ps) || ltb most_signal_bits (sum (width ws) ss))
    ∷ []))
    0
