-- The digits of a value, one after the other.
-- Assumes nothing.
use mathlib.Core.Path.{◌≡◌, sym, ap, ◌∙◌}
use mathlib.Core.List.{List, [], ◌∷◌, ◌++◌, map, reverse, reverse-cons, map-append}
use Prim.Native.Nat.{ℕ, ◌+◌, ◌<◌}
use native.Mathlib.Numerals.{add-one}
use lib.ListN.{length, drop, get_or}
use lib.Seq.{drop-cons}
use Rattle.rules.specs.Text.{digit_byte}
use Rattle.rules.specs.Tokens.{Digit}
use Rattle.numbers.specs.Kinds.{digit_of}

-- the digits from i on, the highest first: one more below them is one more at the end
pub digits_more : (s : List ℕ) (i j b : ℕ) → j < length s → i ≡ j + 1 → b ≡ digit_byte (digit_of (get_or s j 0)) → map digit_byte (reverse (map digit_of (drop i s))) ++ b ∷ [] ≡ map digit_byte (reverse (map digit_of (drop j s)))
digits_more s i j b h ei eb =
    let d : Digit = digit_of (get_or s j 0) in
    let ds : List Digit = map digit_of (drop i s) in
    sym
    (ap (λ (l : List ℕ). map digit_byte (reverse (map digit_of l))) (drop-cons s j 0 h ∙ ap (λ (k : ℕ). get_or s j 0 ∷ drop k s) (sym (ei ∙ add-one j)))
    ∙ ap (map digit_byte) (reverse-cons d ds)
    ∙ map-append digit_byte (reverse ds) (d ∷ [])
    ∙ ap (λ (k : ℕ). map digit_byte (reverse ds) ++ k ∷ []) (sym eb))
