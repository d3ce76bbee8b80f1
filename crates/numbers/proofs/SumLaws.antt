-- Sums in 64 bits of a word's integer and a number of 32 bits, and what the machine reads back of them.
use Prim.Native.Nat.{ℕ, zero, suc, ◌+◌, ◌-◌, ◌≤◌, ◌<◌, ◌^◌}
use mathlib.Core.Path.{◌≡◌, refl, sym, ap}
use mathlib.Core.Bool.{Bool, true, false, cond}
use native.Mathlib.Omega.{arith}
use lib.IntN.{ℤ, pos, negsuc, sub_ℕ, ◌+ℤ◌}
use lib.Signed.{mag, lt_z}
use lib.Dec.{ltb, leb}
use mir.Syntax.{w64}
use mir.Val.{SFits, to_z, of_z}
use mir.Facts.{to_z-of_z}
use borrow.Author.Tests.{lt-ltb, le-ltb}
use Rattle.rules.specs.Numbers.{int32}
use Rattle.rules.specs.Signals.{twos_complement}
use Rattle.numbers.specs.Signed.{signed_of, integer_of}
use Rattle.numbers.specs.SignedLaws.{by-half, signed-mag}

mag-sub : (a b : ℕ) → mag (sub_ℕ a b) ≤ a + b
mag-sub a b = pick (ltb a b)
  where
    pick : (t : Bool) → mag (cond t (negsuc (b - suc a)) (pos (a - b))) ≤ a + b
    pick true = omega arith
    pick false = omega arith

mag-add : (x y : ℤ) → mag (x +ℤ y) ≤ mag x + mag y + 1
mag-add (pos a) (pos b) = omega arith
mag-add (pos a) (negsuc b) = omega (arith, mag-sub a (suc b))
mag-add (negsuc a) (pos b) = omega (arith, mag-sub b (suc a))
mag-add (negsuc a) (negsuc b) = omega arith

pub sum_fits : (x y : ℤ) → mag x + mag y + 1 < 2 ^ 63 → SFits w64 (x +ℤ y)
sum_fits x y h = record { sfits = omega (arith, mag-add x y, h) }

-- a small number is read back as it is
pub read_pos : (n : ℕ) → n < 2 ^ 63 → to_z w64 n ≡ pos n
read_pos n h = to_z-of_z {w = w64} {z = pos n} (record { sfits = h })

-- the machine's sum of a word's integer z, as it holds it, and a number of 32 bits
module _ (z : ℤ) (w n : ℕ) (e : z ≡ signed_of w) (h : n < 4294967296) where
  parts : to_z w64 (of_z w64 z) +ℤ to_z w64 n ≡ signed_of w +ℤ pos n
  parts = rw (e, to_z-of_z {w = w64} {z = signed_of w} (record { sfits = omega (arith, signed-mag w) }), read_pos n (omega arith))

  pub sum-fits-at : SFits w64 (to_z w64 (of_z w64 z) +ℤ to_z w64 n)
  sum-fits-at = rw parts (sum_fits (signed_of w) (pos n) (omega (arith, signed-mag w)))

  pub sum-at : to_z w64 (of_z w64 (to_z w64 (of_z w64 z) +ℤ to_z w64 n)) ≡ signed_of w +ℤ pos n
  sum-at = rw parts (to_z-of_z (sum_fits (signed_of w) (pos n) (omega (arith, signed-mag w))))

-- the upper half of the words, less 2 ^ 32
pub upper : (w : ℕ) → 2147483648 ≤ w → w < 4294967296 → pos w +ℤ negsuc 4294967295 ≡ signed_of w
unfolding signed_of
upper w l h = rw (lt-ltb w 4294967296 h, le-ltb w 2147483648 l) (ap negsuc (omega arith))

pub negative_fits : (n : ℕ) → leb n 2147483648 ≡ int32 (integer_of true n)
unfolding int32 integer_of
negative_fits zero = refl
negative_fits (suc n) = refl

-- no sum of an offset and a number is below the least integer, so one test is enough
pub sum-int32 : (w n : ℕ) → lt_z (signed_of w +ℤ pos n) (pos 2147483648) ≡ int32 (signed_of w +ℤ pos n)
unfolding int32
sum-int32 w n =
    by-half (λ z. lt_z (z +ℤ pos n) (pos 2147483648) ≡ int32 (z +ℤ pos n)) w (λ l. refl)
    (λ l. pick (4294967295 - w) (omega arith) (ltb n (suc (4294967295 - w))))
  where
    pick :
        (m : ℕ) → m < 2147483648 → (t : Bool) →
        lt_z (cond t (negsuc (suc m - suc n)) (pos (n - suc m))) (pos 2147483648) ≡ int32 (cond t (negsuc (suc m - suc n)) (pos (n - suc m)))
    pick m h true = sym (lt-ltb (suc m - suc n) 2147483648 (omega arith))
    pick m h false = refl

pub word-zero : (s : Bool) → 0 ≡ twos_complement (integer_of s 0)
unfolding twos_complement integer_of
word-zero true = refl
word-zero false = refl

pub word-negative : (n : ℕ) → (n ≡ 0 → ⊥) → 4294967295 - (n - 1) ≡ twos_complement (integer_of true n)
unfolding twos_complement integer_of
word-negative zero h = absurd (h refl)
word-negative (suc n) h = omega arith
