-- The codes of words: no two words of bytes have the same, so that the keyword with a word's code is the word.
-- Assumes nothing.
use mathlib.Core.Path.{◌≡◌, refl, sym, ap, ap₂, ◌∙◌}
use mathlib.Core.Bool.{Bool, true, false, cond, ◌&&◌, ◌||◌}
use mathlib.Core.List.{List, [], ◌∷◌}
use Prim.Native.Nat.{ℕ, zero, suc, ◌+◌, ◌-◌, ◌*◌, ◌^◌, ◌<◌, ◌≤◌}
use native.Mathlib.Omega.{arith}
use lib.Dec.{T, eqb, leb, ltb, leb→le}
use lib.ListN.{length, get_or, drop, length-drop, drop_of_length-le}
use lib.Seq.{drop-cons, get_or-drop}
use borrow.Author.Tests.{eq-eqb, ne_eqb, eqb-true}
use Rattle.rules.specs.Bytes.{same, all}
use Rattle.rules.specs.Tokens.{keywords}
use Rattle.scanner.specs.Words.{place_in, keyword_number, keyword_at, word_code, code_in, code_number}
use Rattle.lists.specs.Tests.{by-test, never}
use Rattle.lists.specs.Bytes.{same-eq, same_refl, same_length}
use Rattle.scanner.proofs.Table.{both_left, both_right}
use Rattle.scanner.proofs.WordLaws.{keyword-is}

-- every element is a byte
abbrev pub Small : List ℕ → Type 0
Small l = (k : ℕ) → get_or l k 0 < 256

code-low : (l : List ℕ) → 1 ≤ word_code l
unfolding word_code
code-low [] = omega arith
code-low (b ∷ bs) = omega (arith, code-low bs)

code-back : (a b : List ℕ) → Small a → Small b → word_code a ≡ word_code b → a ≡ b
unfolding word_code
code-back [] [] h k e = refl
code-back [] (y ∷ ys) h k e = absurd (omega (arith, code-low ys))
code-back (x ∷ xs) [] h k e = absurd (omega (arith, code-low xs))
code-back (x ∷ xs) (y ∷ ys) h k e =
    let p : x < 256 = h 0 in
    let q : y < 256 = k 0 in
    let s : x ≡ y = omega arith in
    let t : word_code xs ≡ word_code ys = omega arith in
    ap₂ ◌∷◌ s (code-back xs ys (λ i. h (suc i)) (λ i. k (suc i)) t)

-- words are the same just where their codes are
code_same : (a b : List ℕ) → Small a → Small b → same a b ≡ eqb (word_code a) (word_code b)
code_same a b h k =
    by-test (same a b)
    (λ e. e ∙ sym (eq-eqb (word_code a) (word_code b) (ap word_code (same-eq a b e))))
    (λ e. e ∙ sym (ne_eqb (word_code a) (word_code b) (λ q. never (same a b) (ap (same a) (sym (code-back a b h k q)) ∙ same_refl a) e)))

all_small : (l : List ℕ) → T (all (λ b. ltb b 256) l) → Small l
unfolding all
all_small [] t k = omega arith
all_small (b ∷ bs) t zero = leb→le (suc b) 256 (both_left (ltb b 256) _ t)
all_small (b ∷ bs) t (suc k) = all_small bs (both_right (ltb b 256) _ t) k

-- one of two tests passes
either : {P : Type 0} (a b : Bool) → T (a || b) → (T a → P) → (T b → P) → P
either true b t f g = f tt
either false b t f g = g t

T_true : (a : Bool) → T a → a ≡ true
T_true true t = refl
T_true false t = absurd t

-- a test of each word
each : (List ℕ → Bool) → List (List ℕ) → Bool
each f [] = true
each f (w ∷ ws) = f w && each f ws

places_same : (w : List ℕ) → Small w → (ks : List (List ℕ)) → T (each (all (λ b. ltb b 256)) ks) → place_in w ks ≡ code_in (word_code w) ks
unfolding place_in code_in each
places_same w h [] t = refl
places_same w h (k ∷ ks) t =
    rw (code_same w k h (all_small k (both_left (all (λ b. ltb b 256) k) _ t)), places_same w h ks (both_right (all (λ b. ltb b 256) k) _ t))

pub keyword-coded : (w : List ℕ) → Small w → code_number (word_code w) ≡ keyword_number w
unfolding code_number keyword_number each keywords all
keyword-coded w h = sym (places_same w h keywords tt)

-- ---- the code of a short word is small, and made from the last byte on

unfoldable cap : ℕ → ℕ
cap zero = 2
cap (suc k) = 256 * cap k

cap-low : (k : ℕ) → 2 ≤ cap k
unfolding cap
cap-low zero = omega arith
cap-low (suc k) = omega (arith, cap-low k)

below-cap : (l : List ℕ) (k : ℕ) → Small l → length l ≤ k → word_code l < cap k
unfolding cap word_code
below-cap [] k h s = omega (arith, cap-low k)
below-cap (b ∷ bs) zero h s = absurd (omega arith)
below-cap (b ∷ bs) (suc k) h s = omega (arith, below-cap bs k (λ i. h (suc i)) (omega arith), h 0)

code-cons : (w : List ℕ) (j : ℕ) → j < length w → word_code (drop j w) ≡ get_or w j 0 + 256 * word_code (drop (suc j) w)
unfolding word_code
code-cons w j h = ap word_code (drop-cons w j 0 h)

module _ (w : List ℕ) (i n : ℕ) (h : 0 < i) (e : n ≡ word_code (drop i w)) where
  pub code_fits : Small w → length w < 8 → n < 562949953421312
  unfolding cap
  code_fits s l =
      let t : length (drop i w) ≤ 6 = omega (arith, length-drop i w) in
      omega (arith, below-cap (drop i w) 6 (λ k. rw get_or-drop (s (i + k))) t)

  pub code-more : i ≤ length w → n * 256 + get_or w (i - 1) 0 ≡ word_code (drop (i - 1) w)
  code-more l =
      let q : suc (i - 1) ≡ i = omega arith in
      omega (arith, code-cons w (i - 1) (omega arith), ap (λ (k : ℕ). word_code (drop k w)) q)

pub code-start : (w : List ℕ) (i : ℕ) → i ≡ length w → 1 ≡ word_code (drop i w)
unfolding word_code
code-start w i e = let h : length w ≤ i = omega arith in rw (drop_of_length-le w h)

pub code-whole : (w : List ℕ) (i n : ℕ) → n ≡ word_code (drop i w) → i ≤ 0 → n ≡ word_code w
code-whole w i n e h = let z : i ≡ 0 = omega arith in e ∙ ap (λ (k : ℕ). word_code (drop k w)) z

-- ---- a number that is the code of no keyword that is short

-- n is none of the keys, the last key of the match first
abbrev pub Missed : ℕ → List ℕ → Type 0
Missed n [] = Unit {0}
Missed n (k ∷ ks) = Missed n ks × (n ≡ k → ⊥)

one_of : ℕ → List ℕ → Bool
one_of k [] = false
one_of k (x ∷ xs) = eqb k x || one_of k xs

missed-one : (n k : ℕ) (ks : List ℕ) → Missed n ks → T (one_of k ks) → n ≡ k → ⊥
unfolding one_of
missed-one n k [] m t e = t
missed-one n k (x ∷ xs) m t e = by-test (eqb k x) (λ q. m.1 (e ∙ eqb-true k x q)) (λ q. missed-one n k xs m.0 (rw q at t) e)

-- the codes of the words below 8 bytes, the last first
unfoldable pub short_codes : List ℕ → List (List ℕ) → List ℕ
short_codes l [] = l
short_codes l (w ∷ ws) = short_codes (cond (ltb (length w) 8) (word_code w ∷ l) l) ws

none_in : (n : ℕ) (ks : List ℕ) → Missed n ks → n < 2 ^ 64 → (ws : List (List ℕ)) → T (each (λ w. one_of (word_code w) ks || leb (2 ^ 64) (word_code w)) ws) → code_in n ws ≡ length ws
unfolding code_in each
none_in n ks m h [] t = refl
none_in n ks m h (w ∷ ws) t =
    let a : Bool = one_of (word_code w) ks in
    let b : Bool = leb (2 ^ 64) (word_code w) in
    let d : n ≡ word_code w → ⊥ = λ e. either a b (both_left (a || b) _ t) (λ x. missed-one n (word_code w) ks m x e) (λ x. omega (arith, leb→le (2 ^ 64) (word_code w) x)) in
    rw (ne_eqb n (word_code w) d, none_in n ks m h ws (both_right (a || b) _ t))

pub code-none : (n : ℕ) → Missed n (short_codes [] keywords) → n < 2 ^ 64 → 32 ≡ code_number n
unfolding code_number short_codes keywords word_code each one_of
code-none n m h = sym (none_in n (short_codes [] keywords) m h keywords tt)

-- ---- longer words

-- a word of 8 bytes or more is none of the words that are shorter or one of two others
module _ (w a b : List ℕ) (h : 8 ≤ length w) (p : same w a ≡ false) (q : same w b ≡ false) where
  differs : (k : List ℕ) → T (ltb (length k) 8 || (same k a || same k b)) → same w k ≡ false
  differs k t =
      either (ltb (length k) 8) (same k a || same k b) t
      (λ x. same_length w k (λ e. omega (arith, leb→le (suc (length k)) 8 x)))
      (λ x. either (same k a) (same k b) x (λ y. ap (same w) (same-eq k a (T_true _ y)) ∙ p) (λ y. ap (same w) (same-eq k b (T_true _ y)) ∙ q))

  none_of : (ks : List (List ℕ)) → T (each (λ k. ltb (length k) 8 || (same k a || same k b)) ks) → place_in w ks ≡ length ks
  unfolding place_in each
  none_of [] t = refl
  none_of (k ∷ ks) t = rw (differs k (both_left (ltb (length k) 8 || (same k a || same k b)) _ t), none_of ks (both_right (ltb (length k) 8 || (same k a || same k b)) _ t))

pub long-none : (w : List ℕ) → 8 ≤ length w → same w (keyword_at 3) ≡ false → same w (keyword_at 4) ≡ false → 32 ≡ keyword_number w
unfolding keyword_number keyword_at keywords each same
long-none w h p q = sym (none_of w (keyword_at 3) (keyword_at 4) h p q keywords tt)

pub long-found : (w : List ℕ) (k : ℕ) → k < 32 → same w (keyword_at k) ≡ true → k ≡ keyword_number w
long-found w k h e = sym (eqb-true (keyword_number w) k (sym (keyword-is w k h) ∙ e))
