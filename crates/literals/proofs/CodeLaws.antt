-- The codes of a constant's bits.
-- Assumes nothing.
use mathlib.Core.Path.{◌≡◌, refl, sym, ap, ap₂, ◌∙◌}
use mathlib.Core.Bool.{true}
use mathlib.Core.List.{List, [], ◌∷◌, ◌++◌, map, map-append, flat_map, reverse, reverse-cons, reverse-append, reverse-reverse, map-map}
use Prim.Native.Nat.{ℕ, ◌+◌, ◌-◌, ◌*◌, ◌/◌, ◌%◌, ◌^◌, ◌≤◌, ◌<◌}
use native.Mathlib.Omega.{arith}
use lib.ListN.{length, get_or, take, replicate, length-append, length-map, length-replicate, length-reverse, get_or-replicate, get_or-append}
use lib.Seq.{length-take-le, take_all, get_or-append-add}
use lib.IntN.{ℤ}
use Rattle.std.proofs.lemmas.Slice.{put_mid-paste}
use borrow.Rule.Slice.PartMut.{put_mid}
use Rattle.tables.specs.Store.{store, store-eq, store-store}
use Rattle.rules.specs.Bytes.{byte}
use Rattle.rules.specs.Tokens.{Digit, S0, S1, Sx, Sz, Sm, Sa, Literal, value, integer, string, digit}
use Rattle.rules.specs.Numbers.{good_literal}
use Rattle.rules.specs.Signals.{filler, top_filler, fill, value_bits, twos_complement, binary, literal_bits, literal_width}
use Rattle.rules.specs.Layout.{digit_code}
use Rattle.numbers.specs.SignedLaws.{binary-length, binary-at}
use Rattle.literal_rules.proofs.ReadLaws.{literal-long}
use Rattle.literals.specs.Codes.{codes, word_codes, filled_codes, filler_code}
use Rattle.lists.specs.Lists.{flat_map-snoc, get_d_reverse, map_at, map-replicate, map-reverse, flat_map-more}
use Rattle.lists.specs.Sums.{length-equal}
use Rattle.lists.specs.Elements.{each_all}

pub codes-long : (l : Literal) → good_literal l ≡ true → length (codes l) ≡ literal_width l
codes-long l h = length-reverse (map digit_code (literal_bits l)) ∙ length-map (literal_bits l) digit_code ∙ literal-long l h

-- ---- integers

module _ (k w : ℕ) where
  pub word-long : length (word_codes k w) ≡ k
  unfolding word_codes
  word-long = length-reverse (map digit_code (binary k w)) ∙ length-map (binary k w) digit_code ∙ binary-length k w

  -- the code at place j, from the highest
  pub word_at : (j : ℕ) → j < k → w / 2 ^ (k - 1 - j) % 2 ≡ get_or (word_codes k w) j 0
  unfolding word_codes
  word_at j h =
      let n : length (map digit_code (binary k w)) ≡ k = length-map (binary k w) digit_code ∙ binary-length k w in
      sym (get_d_reverse (map digit_code (binary k w)) j (k - 1 - j) 0 (omega arith) ∙ binary-at k w (k - 1 - j) (omega arith))

pub integer-codes : (w : ℕ) (i : ℤ) → w ≡ twos_complement i → word_codes 32 w ≡ codes (integer i)
unfolding literal_bits word_codes
integer-codes w i e = rw e

-- ---- values

module _ (x fills : ℕ) (bs : List ℕ) where
  pub filled-long : length (filled_codes x fills bs) ≡ fills + length bs
  unfolding filled_codes
  filled-long = rw (length-append, length-replicate, length-map)

  pub filled-front : (j : ℕ) → j < fills → x ≡ get_or (filled_codes x fills bs) j 0
  unfolding filled_codes
  filled-front j h =
      let z : List ℕ = replicate fills x in
      let l : j < length z = rw length-replicate h in
      sym (get_or-append z (map (λ b. digit_code (digit b)) bs) 0 j l ∙ get_or-replicate fills j x 0 h)

  pub filled-digit : (j : ℕ) → fills ≤ j → j < fills + length bs → digit_code (digit (get_or bs (j - fills) 0)) ≡ get_or (filled_codes x fills bs) j 0
  unfolding filled_codes
  filled-digit j h l =
      let z : List ℕ = replicate fills x in
      let e : j ≡ length z + (j - fills) = rw length-replicate (omega arith) in
      let ds : List ℕ = map (λ b. digit_code (digit b)) bs in
      sym (ap (λ (n : ℕ). get_or (z ++ ds) n 0) e ∙ get_or-append-add z ds (j - fills) 0 ∙ map_at (λ b. digit_code (digit b)) bs (j - fills) 0 0 (omega arith))

  -- what fills is stored, and then the digits behind it
  pub stored-filled :
      (l ys : List ℕ) (at k n : ℕ) → ys ≡ replicate n x → n ≡ fills → k ≡ fills → at + fills ≤ length l →
      store (put_mid at k l ys) (at + fills) (map (λ b. digit_code (digit b)) bs) ≡ store l at (filled_codes x fills bs)
  unfolding filled_codes
  stored-filled l ys at k n e m q h =
      let z : List ℕ = replicate fills x in
      let w : length z ≡ fills = length-replicate fills x in
      let p : put_mid at k l ys ≡ store l at z =
      put_mid-paste at k l ys z fills (rw (e, m)) (sym q) (sym w) ∙ rw (take_all fills z (omega (arith, w))) (sym (rw w at (store-eq l at z (omega (arith, w))))) in
      rw p (rw w at (store-store l at z (map (λ b. digit_code (digit b)) bs)))

-- what fills it up to the width, and the digits as they stand
pub value-codes : (w : ℕ) (bs : List ℕ) → codes (value w (map digit bs)) ≡ filled_codes (filler_code bs) (w - length bs) bs
unfolding literal_bits value_bits fill filled_codes filler_code
value-codes w bs =
    let ds : List Digit = map digit bs in
    let z : List Digit = replicate (w - length ds) (top_filler ds) in
    let e : w - length ds ≡ w - length bs = rw length-map in
    ap reverse (map-reverse digit_code (z ++ ds))
    ∙ reverse-reverse (map digit_code (z ++ ds))
    ∙ map-append digit_code z ds
    ∙ ap₂ (λ (x y : List ℕ). x ++ y) (map-replicate digit_code (w - length ds) (top_filler ds) ∙ ap (λ (n : ℕ). replicate n (digit_code (top_filler ds))) e) (map-map digit_code digit bs)

-- 0 and 1 fill with 0, any other digit with itself
filler-one : (d : Digit) → digit_code d ≡ 1 → digit_code (filler d) ≡ 0
unfolding digit_code filler
filler-one S0 e = refl
filler-one S1 e = refl
filler-one Sx e = cc
filler-one Sz e = cc
filler-one Sm e = cc
filler-one Sa e = cc

filler-other : (d : Digit) → (digit_code d ≡ 1 → ⊥) → digit_code (filler d) ≡ digit_code d
unfolding digit_code filler
filler-other S0 h = refl
filler-other S1 h = absurd (h refl)
filler-other Sx h = refl
filler-other Sz h = refl
filler-other Sm h = refl
filler-other Sa h = refl

-- without digits; and by the first of them, a 1 or another
pub filler-none : (bs : List ℕ) → length bs ≡ 0 → digit_code (digit (byte "x")) ≡ filler_code bs
unfolding filler_code top_filler digit_code digit
filler-none [] e = refl
filler-none (b ∷ bs) e = cc

pub filler-zero : (bs : List ℕ) → (length bs ≡ 0 → ⊥) → digit_code (digit (get_or bs 0 0)) ≡ digit_code (digit (byte "1")) → digit_code (digit (byte "0")) ≡ filler_code bs
unfolding filler_code top_filler digit_code digit
filler-zero [] h e = absurd (h refl)
filler-zero (b ∷ bs) h e = sym (filler-one (digit b) e)

pub filler-same : (bs : List ℕ) → (length bs ≡ 0 → ⊥) → (digit_code (digit (get_or bs 0 0)) ≡ digit_code (digit (byte "1")) → ⊥) → digit_code (digit (get_or bs 0 0)) ≡ filler_code bs
unfolding filler_code top_filler digit_code digit
filler-same [] h n = absurd (h refl)
filler-same (b ∷ bs) h n = sym (filler-other (digit b) n)

-- ---- strings

-- 8 bits a byte, the first byte highest
pub string-codes : (s : List ℕ) → codes (string s) ≡ flat_map (word_codes 8) s
unfolding literal_bits flat_map word_codes
string-codes [] = refl
string-codes (b ∷ s) =
    let bits : List ℕ = map digit_code (flat_map (binary 8) (reverse s)) in
    ap (λ (l : List ℕ). reverse (map digit_code (flat_map (binary 8) l))) (reverse-cons b s)
    ∙ ap (λ (l : List Digit). reverse (map digit_code l)) (flat_map-snoc (binary 8) (reverse s) b)
    ∙ ap reverse (map-append digit_code (flat_map (binary 8) (reverse s)) (binary 8 b))
    ∙ reverse-append bits (map digit_code (binary 8 b))
    ∙ ap (λ (l : List ℕ). word_codes 8 b ++ l) (string-codes s)

-- a turn of a loop that stores the next byte's bits
module _ (s : List ℕ) (j : ℕ) where
  bytes-long : j ≤ length s → 8 * j ≡ length (flat_map (word_codes 8) (take j s))
  bytes-long h = sym (length-equal (word_codes 8) 8 (take j s) (each_all _ (word-long 8) (take j s)) ∙ ap (λ (n : ℕ). 8 * n) (length-take-le j s h))

  pub bytes-more :
      (d l l' : List ℕ) (at : ℕ) → j < length s →
      l ≡ store d at (flat_map (word_codes 8) (take j s)) →
      l' ≡ store l (at + 8 * j) (word_codes 8 (get_or s j 0)) →
      l' ≡ store d at (flat_map (word_codes 8) (take (j + 1) s))
  bytes-more d l l' at h e g =
      rw (g, e, bytes-long (omega arith))
      (store-store d at (flat_map (word_codes 8) (take j s)) (word_codes 8 (get_or s j 0)) ∙ ap (store d at) (flat_map-more (word_codes 8) s j 0 h))

  pub bytes-all : length s ≤ j → flat_map (word_codes 8) (take j s) ≡ codes (string s)
  bytes-all h = ap (flat_map (word_codes 8)) (take_all j s h) ∙ sym (string-codes s)
