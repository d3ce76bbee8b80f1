-- The codes of bits, and of a wire from the top; words moved down.
-- Assumes nothing.
use mathlib.Core.Path.{◌≡◌, sym, ap, ◌∙◌}
use mathlib.Core.List.{List, ◌++◌, map, reverse, append_assoc, reverse-append, map-append}
use Prim.Native.Nat.{ℕ, zero, suc, ◌+◌, ◌-◌, ◌<◌, ◌≤◌}
use native.Mathlib.Omega.{arith}
use lib.ListN.{length, take, drop, get_or, set, length-drop, length-reverse, length-map, take-append-drop}
use lib.Seq.{slice, length-slice, take_at, drop_at}
use Rattle.rules.specs.Statements.{Bit, bit, Signal}
use Rattle.rules.specs.Signals.{wire_bits}
use Rattle.rules.specs.Layout.{bit_code}
use Rattle.std.specs.List.{copy_within}
use Rattle.tables.specs.Store.{store, store-eq, filled}
use Rattle.lists.specs.Lists.{length-wire, map_at, get_d_reverse}
use Rattle.lists.specs.Parts.{length_part, slice-span}
use Rattle.signals.specs.Held.{codes}

-- ---- codes

pub length-codes : (xs : Signal) → length (codes xs) ≡ length xs
unfolding codes
length-codes xs = length-reverse (map bit_code xs) ∙ length-map xs bit_code

pub codes-append : (xs ys : Signal) → codes (xs ++ ys) ≡ codes ys ++ codes xs
unfolding codes
codes-append xs ys = ap reverse (map-append bit_code xs ys) ∙ reverse-append (map bit_code xs) (map bit_code ys)

-- n bits from bit l on stand above those below and below those above
pub codes-part : (xs : Signal) (l n : ℕ) → l + n ≤ length xs → take n (drop (length xs - (l + n)) (codes xs)) ≡ codes (take n (drop l xs))
codes-part xs l n h =
    let A : Signal = take l xs in
    let B : Signal = take n (drop l xs) in
    let C : Signal = drop n (drop l xs) in
    let e : xs ≡ A ++ (B ++ C) = sym (ap (λ (y : Signal). A ++ y) (take-append-drop n (drop l xs)) ∙ take-append-drop l xs) in
    let c : codes xs ≡ codes C ++ (codes B ++ codes A) = ap codes e ∙ codes-append A (B ++ C) ∙ ap (λ (y : List ℕ). y ++ codes A) (codes-append B C) ∙ append_assoc (codes C) (codes B) (codes A) in
    let lc : length (codes C) ≡ length xs - (l + n) = length-codes C ∙ length-drop n (drop l xs) ∙ ap (λ (k : ℕ). k - n) (length-drop l xs) ∙ omega arith in
    let lb : length (codes B) ≡ n = length-codes B ∙ length_part xs l n h in
    ap (λ (y : List ℕ). take n (drop (length xs - (l + n)) y)) c
    ∙ ap (take n) (drop_at (codes C) (codes B ++ codes A) (length xs - (l + n)) lc)
    ∙ take_at (codes B) (codes A) n lb

-- ---- a wire's bits from the top

wire-at : (n i w k : ℕ) (d : Bit) → k < w → get_or (wire_bits n i w) k d ≡ bit n (i + k)
unfolding wire_bits
wire-at n i zero k d h = absurd (omega arith)
wire-at n i (suc w) zero d h = ap (bit n) (omega arith)
wire-at n i (suc w) (suc k) d h = wire-at n (i + 1) w k d (omega arith) ∙ ap (bit n) (omega arith)

wire-code-at : (n w k : ℕ) → k < w → get_or (codes (wire_bits n 0 w)) k 0 ≡ bit_code (bit n (w - 1 - k))
unfolding codes
wire-code-at n w k h =
    let bs : Signal = wire_bits n 0 w in
    get_d_reverse (map bit_code bs) k (w - 1 - k) 0 (omega (arith, length-map bs bit_code, length-wire n 0 w))
    ∙ map_at bit_code bs (w - 1 - k) 0 (bit n 0) (omega (arith, length-wire n 0 w))
    ∙ ap bit_code (wire-at n 0 w (w - 1 - k) (bit n 0) (omega arith) ∙ ap (bit n) (omega arith))

pub length-wire-codes : (n w : ℕ) → length (codes (wire_bits n 0 w)) ≡ w
length-wire-codes n w = length-codes (wire_bits n 0 w) ∙ length-wire n 0 w

-- one bit of a wire more
pub wire-put : (d l : List ℕ) (o n w k v : ℕ) → l ≡ store d o (take k (codes (wire_bits n 0 w))) → k < w → v ≡ bit_code (bit n (w - 1 - k)) → set l (o + k) v ≡ store d o (take (k + 1) (codes (wire_bits n 0 w)))
wire-put d l o n w k v e h ev =
    filled d l (codes (wire_bits n 0 w)) o k e v (omega (arith, length-wire-codes n w)) (ev ∙ sym (wire-code-at n w k h))

-- words copied down are stored there
pub words-moved : (d : List ℕ) (from count o : ℕ) → o ≤ from → from + count ≤ length d → copy_within d from (from + count) o ≡ store d o (slice from (from + count) d)
words-moved d from count o h room =
    let s : List ℕ = slice from (from + count) d in
    let e : from + count - from ≡ count = omega arith in
    let l : length s ≡ count = length-slice from (from + count) d room ∙ e in
    rw e (ap (λ (x : List ℕ). take o d ++ x ++ drop (o + count) d) (sym (slice-span from count d)) ∙ sym (store-eq d o s (omega (arith, l)) ∙ rw l))
