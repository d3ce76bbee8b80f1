-- Names and their plain forms (document 02, request 5).
-- Assumes nothing.
use Rattle.std.specs.Prelude.{◌≡◌, refl, Bool, true, cond, not, ◌&&◌, ◌||◌, ℕ, zero, suc, ◌+◌, ◌-◌, ◌*◌, ◌/◌, ◌%◌, ◌≤◌, ◌<◌, eqb, ltb, length}
use Rattle.std.proofs.Common.{sym, ap, ap₂, ◌∙◌, arith, eqb-true}
use Rattle.std.proofs.Math.Bool.{or-false}
use mathlib.Core.List.{List, [], ◌∷◌, ◌++◌, flat_map}
use Rattle.std.proofs.lemmas.Bool.{not-true}
use Rattle.rules.specs.Bytes.{byte, same, all, any, one_of, within, is_lower, is_digit, is_name_start, is_name_byte, legal}
use Rattle.rules.specs.Text.{escaped}
use Rattle.rules.specs.Plain.{is_plain, hex_digit, plain_byte, plain_form, hex_value, form_bytes, escaped_byte, name_of, is_form, low}
use Rattle.lists.specs.Tests.{by_cond, by-test, by_order, and-true-left, and-true-right}
use Rattle.lists.specs.Elements.{all_first, all-later, all_append}
use Rattle.lists.specs.Bytes.{same_refl, same-eq, legal-short, within-high}
use Rattle.plain.specs.Put.{flat_map-most}

-- letters, digits and underline
unfoldable pub is_printed : ℕ → Bool
is_printed b = is_plain b || eqb b (byte "_")

-- ONE BYTE. A kept byte is no underline, the two digits of any other give it back, and all of them are printed: one test of all 256
unfoldable comes_back : ℕ → Bool
comes_back b = cond (is_plain b) (not (eqb b (byte "_"))) (eqb ((16 * hex_value (hex_digit (b / 16)) + hex_value (hex_digit (b % 16))) % 256) b)

unfoldable good_byte : ℕ → Bool
good_byte b = comes_back b && all is_printed (plain_byte b)

unfoldable all_below : (ℕ → Bool) → ℕ → Bool
all_below f zero = true
all_below f (suc n) = let r = all_below f n in f n && r

below_each : (f : ℕ → Bool) (n : ℕ) → all_below f n ≡ true → (b : ℕ) → b < n → f b ≡ true
unfolding all_below
below_each f zero e b h = absurd (omega arith)
below_each f (suc n) e b h =
    by_order n b
    (λ k. let q : b ≡ n = omega arith in rw q (and-true-left (f n) (all_below f n) e))
    (λ k. below_each f n (and-true-right (f n) (all_below f n) e) b k)

bytes_good : all_below good_byte 256 ≡ true
unfolding all_below good_byte comes_back is_printed is_plain hex_digit plain_byte hex_value within is_lower is_digit all
bytes_good = refl

good : (b : ℕ) → is_name_byte b ≡ true → good_byte b ≡ true
unfolding is_name_byte
good b h = below_each good_byte 256 bytes_good b (omega (arith, within-high 33 255 b h))

byte-back : (b : ℕ) (l : List ℕ) → is_name_byte b ≡ true → form_bytes (plain_byte b ++ l) ≡ b ∷ form_bytes l
unfolding good_byte comes_back plain_byte form_bytes escaped_byte
byte-back b l h =
    let e : comes_back b ≡ true = and-true-left (comes_back b) (all is_printed (plain_byte b)) (good b h) in
    by-test (is_plain b)
    (λ p. rw (p, not-true (eqb b (byte "_")) (rw p at e)))
    (λ p. rw p (ap (λ (x : ℕ). x ∷ form_bytes l) (eqb-true _ b (rw p at e))))

byte-printed : (b : ℕ) → is_name_byte b ≡ true → all is_printed (plain_byte b) ≡ true
unfolding good_byte
byte-printed b h = and-true-right (comes_back b) (all is_printed (plain_byte b)) (good b h)

pub byte-most : (b : ℕ) → length (plain_byte b) ≤ 3
unfolding plain_byte
byte-most b = by_cond (λ (l : List ℕ). length l ≤ 3) (is_plain b) (λ e. omega arith) (λ e. omega arith)

-- THE BYTES BEHIND THE FIRST
later-back : (bs : List ℕ) → all is_name_byte bs ≡ true → form_bytes (flat_map plain_byte bs) ≡ bs
unfolding flat_map form_bytes
later-back [] h = refl
later-back (b ∷ bs) h =
    byte-back b (flat_map plain_byte bs) (all_first is_name_byte b bs h) ∙ ap (λ (l : List ℕ). b ∷ l) (later-back bs (all-later is_name_byte b bs h))

later-printed : (bs : List ℕ) → all is_name_byte bs ≡ true → all is_printed (flat_map plain_byte bs) ≡ true
unfolding flat_map all
later-printed [] h = refl
later-printed (b ∷ bs) h =
    all_append is_printed (plain_byte b) (flat_map plain_byte bs) (byte-printed b (all_first is_name_byte b bs h)) (later-printed bs (all-later is_name_byte b bs h))

pub later-most : (bs : List ℕ) → length (flat_map plain_byte bs) ≤ 3 * length bs
later-most = flat_map-most plain_byte 3 byte-most

-- the first byte: `\` becomes p, `$` becomes a, and back
first_back : (b : ℕ) → is_name_start b ≡ true → cond (eqb (cond (eqb b (byte "\\")) (byte "p") (byte "a")) (byte "p")) (byte "\\") (byte "$") ≡ b
unfolding is_name_start one_of any
first_back b h = by-test (eqb b (byte "\\")) (λ e. rw e (sym (eqb-true b (byte "\\") e))) (λ e. rw e (sym (eqb-true b (byte "$") (rw (e, or-false) at h))))

first-printed : (b : ℕ) → is_printed (cond (eqb b (byte "\\")) (byte "p") (byte "a")) ≡ true
unfolding is_printed is_plain within is_lower is_digit
first-printed b = by_cond (λ (c : ℕ). is_printed c ≡ true) (eqb b (byte "\\")) (λ e. refl) (λ e. refl)

-- of any bytes
pub form-most : (n : List ℕ) → length (plain_form n) ≤ 3 * (length n - 1) + 1
unfolding plain_form
form-most [] = omega arith
form-most (b ∷ bs) = omega (arith, later-most bs)

back : (n : List ℕ) → legal n ≡ true → name_of (plain_form n) ≡ n
unfolding plain_form name_of legal
back [] h = refl
back (b ∷ bs) h =
    let e : is_name_start b && all is_name_byte bs ≡ true = and-true-left (is_name_start b && all is_name_byte bs) (within 1 254 (length bs)) h in
    ap₂ ◌∷◌ (first_back b (and-true-left (is_name_start b) (all is_name_byte bs) e)) (later-back bs (and-true-right (is_name_start b) (all is_name_byte bs) e))

printed : (n : List ℕ) → legal n ≡ true → all is_printed (plain_form n) ≡ true
unfolding plain_form legal all
printed [] h = refl
printed (b ∷ bs) h =
    let e : is_name_start b && all is_name_byte bs ≡ true = and-true-left (is_name_start b && all is_name_byte bs) (within 1 254 (length bs)) h in
    rw (first-printed b) (later-printed bs (and-true-right (is_name_start b) (all is_name_byte bs) e))

-- THE FORM OF A LEGAL NAME
module _ (n : List ℕ) (h : legal n ≡ true) where
  -- "at most 763 bytes"
  pub form-length : length (plain_form n) ≤ 763
  form-length = omega (arith, legal-short n h, form-most n)

  -- letters, digits and underline: all that the device prints
  pub form-printed : all is_printed (plain_form n) ≡ true
  form-printed = printed n h

  -- "The way back gives the name from its form", and takes every legal name's form
  pub back-form : (is_form (plain_form n) ≡ true) × (name_of (plain_form n) ≡ n)
  unfolding is_form
  back-form = let e : name_of (plain_form n) ≡ n = back n h in (rw (e, h) (same_refl (plain_form n)), e)

-- "Different names have different forms"
pub forms-differ : (n m : List ℕ) → legal n ≡ true → legal m ≡ true → plain_form n ≡ plain_form m → n ≡ m
forms-differ n m h k e = sym (back-form n h).1 ∙ ap name_of e ∙ (back-form m k).1

-- "any bytes that are no legal name's plain form" are refused: what the way back takes is the form of the legal name that it gives, and of no other
module _ (t : List ℕ) (h : is_form t ≡ true) where
  pub form-legal : legal (name_of t) ≡ true
  unfolding is_form
  form-legal = and-true-left (legal (name_of t)) (same (plain_form (name_of t)) t) h

  pub form-one : plain_form (name_of t) ≡ t
  unfolding is_form
  form-one = same-eq (plain_form (name_of t)) t (and-true-right (legal (name_of t)) (same (plain_form (name_of t)) t) h)

-- what any bytes stand for is no longer than they are
mutual
  unfolding form_bytes escaped_byte

  bytes-short : (l : List ℕ) → length (form_bytes l) ≤ length l
  bytes-short [] = omega arith
  bytes-short (b ∷ bs) =
      by_cond (λ (x : List ℕ). length x ≤ length (b ∷ bs)) (eqb b (byte "_")) (λ e. omega (arith, escape-short bs)) (λ e. omega (arith, bytes-short bs))

  escape-short : (l : List ℕ) → length (escaped_byte l) ≤ length l
  escape-short [] = omega arith
  escape-short (h ∷ []) = omega arith
  escape-short (h ∷ l ∷ bs) = omega (arith, bytes-short bs)

pub name-short : (t : List ℕ) → length (name_of t) ≤ length t
unfolding name_of
name-short [] = omega arith
name-short (b ∷ bs) = omega (arith, bytes-short bs)

-- a byte of a shown name becomes at most four
pub low-most : (b : ℕ) → length (low b) ≤ 4
unfolding low escaped
low-most b =
    let P : List ℕ → Type 0 = λ l. length l ≤ 4 in
    by_cond P (ltb b 32)
    (λ e. by_cond P (eqb b 34) (λ e. omega arith) (λ e. by_cond P (eqb b 92) (λ e. omega arith)
    (λ e. by_cond P (eqb b 10) (λ e. omega arith) (λ e. by_cond P (eqb b 9) (λ e. omega arith) (λ e. by_cond P (ltb b 32) (λ e. omega arith) (λ e. omega arith))))))
    (λ e. omega arith)
