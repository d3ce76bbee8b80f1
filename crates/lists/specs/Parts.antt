-- Parts of lists: cut out, kept, behind one another.
-- Assumes nothing.
use Rattle.std.specs.Prelude.{◌≡◌, Bool, true, false, ◌&&◌, List, [], ◌∷◌, ◌++◌, ℕ, zero, suc, ◌+◌, ◌-◌, ◌≤◌, ◌<◌, length, get_or, take, drop}
use Rattle.std.proofs.Common.{sym, ap, ap₂, ◌∙◌, add-one, arith, length-take, length-drop, drop_of_length-le, take-append-drop, get_or-take, take_all, take-take, take-add, drop-drop, length-take-le}
use Rattle.std.proofs.Math.Seq.{slice, slice-cons, take-length, take-nil, take-append_seam, drop-append_seam}
use Rattle.rules.specs.Bytes.{all}
use Rattle.lists.specs.Elements.{all-turn, all_told}

module _ {A : Type 0} where
  -- a part, as code cuts it and as `slice` does
  pub slice-part : (i e : ℕ) (s : List A) → slice i e s ≡ take (e - i) (drop i s)
  slice-part zero e s = let q : e - 0 ≡ e = omega arith in rw q
  slice-part (suc i) zero s = let q : 0 - suc i ≡ 0 = omega arith in rw q
  slice-part (suc i) (suc e) [] = rw take-nil
  slice-part (suc i) (suc e) (x ∷ xs) = let q : suc e - suc i ≡ e - i = omega arith in rw q (slice-part i e xs)

  -- by its start and its length; two behind one another; one between two lists
  pub slice-span : (i n : ℕ) (s : List A) → slice i (i + n) s ≡ take n (drop i s)
  slice-span i n s = let q : i + n - i ≡ n = omega arith in slice-part i (i + n) s ∙ ap (λ (k : ℕ). take k (drop i s)) q

  pub slice-join : (l : List A) (a m n : ℕ) → slice a (a + m) l ++ slice (a + m) (a + m + n) l ≡ slice a (a + (m + n)) l
  slice-join l a m n =
      ap₂ ◌++◌ (slice-span a m l) (slice-span (a + m) n l ∙ ap (take n) (sym (drop-drop m a l)))
      ∙ sym (take-add m n (drop a l))
      ∙ sym (slice-span a (m + n) l)

  pub slice-between : (xs ys zs : List A) → slice (length xs) (length xs + length ys) (xs ++ (ys ++ zs)) ≡ ys
  slice-between xs ys zs = slice-span (length xs) (length ys) (xs ++ (ys ++ zs)) ∙ ap (take (length ys)) (drop-append_seam xs (ys ++ zs)) ∙ take-append_seam ys zs

  -- past the end it is cut there; one that ends where it starts, or before, is empty, and so is one behind the end
  pub slice_cut : (i e : ℕ) (s : List A) → length s ≤ e → slice i (length s) s ≡ slice i e s
  slice_cut i e s h = ap (drop i) (take-length s ∙ sym (take_all e s h))

  pub slice-none : (i e : ℕ) (s : List A) → e ≤ i → slice i e s ≡ []
  slice-none i e s h = let q : e - i ≡ 0 = omega arith in slice-part i e s ∙ ap (λ (n : ℕ). take n (drop i s)) q

  pub slice-past : (i e : ℕ) (s : List A) → length s ≤ i → slice i e s ≡ []
  slice-past i e s h = drop_of_length-le (take e s) {i = i} (omega (arith, length-take e s))

  pub slice-le : (i e : ℕ) (s : List A) → length (slice i e s) ≤ length s
  slice-le i e s = omega (arith, length-drop i (take e s), length-take e s)

  -- of lists that begin alike
  pub take-kept : (l l' : List A) (n m : ℕ) → take n l' ≡ take n l → m ≤ n → take m l' ≡ take m l
  take-kept l l' n m e h = sym (take-take m n l' h) ∙ ap (take m) e ∙ take-take m n l h

  pub slice_kept : (l l' : List A) (n a b : ℕ) → take n l' ≡ take n l → b ≤ n → slice a b l' ≡ slice a b l
  slice_kept l l' n a b e h = ap (drop a) (take-kept l l' n b e h)

  -- of a part
  pub slice-within : (l : List A) (o w x n : ℕ) → x + n ≤ w → slice (o + x) (o + x + n) l ≡ take n (drop x (slice o (o + w) l))
  slice-within l o w x n h =
      slice-span (o + x) n l
      ∙ ap (take n) (sym (drop-drop x o l))
      ∙ sym (slice-span x n (drop o l))
      ∙ ap (drop x) (sym (take-take (x + n) w (drop o l) h))
      ∙ slice-span x n (take w (drop o l))
      ∙ ap (λ (y : List A). take n (drop x y)) (sym (slice-span o w l))

  -- as many elements as were there
  pub take-taken : (n : ℕ) (l : List A) → take (length (take n l)) l ≡ take n l
  take-taken n l = ap (take (length (take n l))) (sym (take-append-drop n l)) ∙ take-append_seam (take n l) (drop n l)

  pub length_part : (xs : List A) (l n : ℕ) → l + n ≤ length xs → length (take n (drop l xs)) ≡ n
  length_part xs l n h = length-take-le n (drop l xs) (omega (arith, length-drop l xs))

-- a test of all values of a part, value by value
module _ (f : ℕ → Bool) (l : List ℕ) (i to : ℕ) where
  pub all_more : i < to → to ≤ length l → f (get_or l i 0) ≡ true → all f (slice i to l) ≡ all f (slice (i + 1) to l)
  unfolding all
  all_more h k e = rw (add-one, slice-cons i to l 0 h k, e)

  pub all-stop : i < to → to ≤ length l → f (get_or l i 0) ≡ false → all f (slice i to l) ≡ false
  unfolding all
  all-stop h k e = rw (slice-cons i to l 0 h k, e)

  pub all_end : to ≤ i → all f (slice i to l) ≡ true
  unfolding all
  all_end h = rw (slice-none i to l h)

  -- by a loop that looks at every value of it
  module _ (good : Bool) where
    pub part-turn : (b : Bool) → i < to → to ≤ length l → f (get_or l i 0) ≡ b → (good && b && all f (slice (i + 1) to l)) ≡ (good && all f (slice i to l))
    part-turn b h k e = all-turn f (take to l) i good b (omega (arith, length-take-le to l k)) (ap f (get_or-take to l i 0 h) ∙ e)

    pub part-told : to ≤ i → (good && all f (slice i to l)) ≡ good
    part-told h = all_told f (take to l) i good (omega (arith, length-take to l))
