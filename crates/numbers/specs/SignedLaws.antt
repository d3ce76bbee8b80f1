-- A word and its integer, an integer and its cap, and the binary digits of a number.
use Rattle.std.specs.Prelude.{ℕ, zero, suc, min, ◌-◌, ◌/◌, ◌%◌, ◌^◌, ◌<◌, ◌≤◌, ◌≡◌, refl, map, Bool, true, false, cond, length, get_or, ℤ, pos, negsuc, eqb}
use Rattle.std.proofs.Common.{sym, ap, div-one, lt-ltb, le-ltb, ltb-true, eqb-true}
use native.Mathlib.Omega.{arith, min_cases}
use Rattle.std.proofs.Math.Nat.{pow-succ', div-div-eq-div-mul}
use Rattle.std.specs.Int.Signed.{mag}
use Rattle.std.proofs.lemmas.Bool.{eqb-false}
use Rattle.rules.specs.Tokens.{S0, S1}
use Rattle.rules.specs.Numbers.{int32}
use Rattle.rules.specs.Signals.{twos_complement, binary}
use Rattle.rules.specs.Layout.{digit_code}
use Rattle.lists.specs.Tests.{by_cond, by-lt}
use Rattle.numbers.specs.Signed.{signed_of, integer_of}

pub signed_word : (z : ℤ) → int32 z ≡ true → signed_of (twos_complement z) ≡ z
unfolding signed_of twos_complement int32
signed_word (pos n) h = rw h
signed_word (negsuc n) h =
    let l : n < 2147483648 = ltb-true n 2147483648 h in
    rw (le-ltb (4294967295 - n) 2147483648 (omega arith)) (ap negsuc (omega arith))

-- the integer of its word
pub number-back : (z : ℤ) (w : ℕ) → int32 z ≡ true → twos_complement z ≡ w → signed_of w ≡ z
number-back z w h e = rw e at (signed_word z h)

-- what holds of both halves of the words holds of each word's integer
pub by-half :
    (P : ℤ → Type 0) (w : ℕ) →
    (w < 2147483648 → P (pos w)) →
    (2147483648 ≤ w → P (negsuc (4294967295 - w))) →
    P (signed_of w)
unfolding signed_of
by-half P w = by-lt P w 2147483648

pub word-signed : (w : ℕ) → w < 4294967296 → twos_complement (signed_of w) ≡ w
unfolding twos_complement
word-signed w h = by-half (λ z. twos_complement z ≡ w) w (λ l. refl) (λ l. omega arith)

pub signed-int32 : (w : ℕ) → int32 (signed_of w) ≡ true
unfolding int32
signed-int32 w = by-half (λ z. int32 z ≡ true) w (λ l. lt-ltb w 2147483648 l) (λ l. lt-ltb (4294967295 - w) 2147483648 (omega arith))

pub signed-mag : (w : ℕ) → mag (signed_of w) < 2147483648
signed-mag w = by-half (λ z. mag z < 2147483648) w (λ l. l) (λ l. omega arith)

pub fits-size : (s : Bool) (n : ℕ) → int32 (integer_of s n) ≡ true → n ≤ 2147483648
unfolding int32 integer_of
fits-size true zero h = omega arith
fits-size true (suc n) h = omega (arith, ltb-true n 2147483648 h)
fits-size false n h = omega (arith, ltb-true n 2147483648 h)

-- From 2147483649 on no size fits, so a size may be cut to that
too_large : (s : Bool) (n : ℕ) → 2147483649 ≤ n → int32 (integer_of s n) ≡ false
unfolding int32 integer_of
too_large true zero h = absurd (omega arith)
too_large true (suc n) h = le-ltb n 2147483648 (omega arith)
too_large false n h = le-ltb n 2147483648 (omega arith)

pub capped-int32 : (s : Bool) (n : ℕ) → int32 (integer_of s (min n 2147483649)) ≡ int32 (integer_of s n)
capped-int32 s n =
    min_cases n 2147483649 _ (λ l e. rw e) (λ l e. rw (e, too_large s 2147483649 (omega arith), too_large s n l))

pub capped_same : (s : Bool) (n : ℕ) → int32 (integer_of s n) ≡ true → min n 2147483649 ≡ n
capped_same s n h = let l : n ≤ 2147483648 = fits-size s n h in omega arith

pub binary-length : (k n : ℕ) → length (binary k n) ≡ k
unfolding binary
binary-length zero n = refl
binary-length (suc k) n = ap suc (binary-length k (n / 2))

last-digit : (n : ℕ) → digit_code (cond (eqb (n % 2) 0) S0 S1) ≡ n % 2
unfolding digit_code
last-digit n = by_cond (λ d. digit_code d ≡ n % 2) (eqb (n % 2) 0) (λ e. sym (eqb-true (n % 2) 0 e)) (λ e. omega (arith, eqb-false (n % 2) 0 e))

pub binary-at : (k n i : ℕ) → i < k → get_or (map digit_code (binary k n)) i 0 ≡ n / 2 ^ i % 2
unfolding binary
binary-at zero n i h = absurd (omega arith)
binary-at (suc k) n zero h = rw last-digit (ap (λ (m : ℕ). m % 2) (sym (div-one n)))
binary-at (suc k) n (suc i) h = rw (pow-succ', ← div-div-eq-div-mul) (binary-at k (n / 2) i (omega arith))
