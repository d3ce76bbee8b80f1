-- Laws of lists: joined and mapped lists, an element by its number, the last elements; the bits of a wire, nothing before the bytes of a string.
-- Assumes nothing.
use Rattle.std.specs.Prelude.{◌≡◌, ◌⊎◌, Bool, true, false, cond, length, get_or, take, drop, replicate}
use Rattle.std.proofs.Math.Path.{refl, sym, ap, ap₂}
use Rattle.std.proofs.Common.{◌∙◌, subst, inl, inr, ⊎_elim, add-zero, add-one, arith, length-append, take-append-drop, take-suc}
use Rattle.std.proofs.lemmas.Bool.{false≢true}
use mathlib.Core.List.{List, [], ◌∷◌, ◌++◌, map, flat_map, zip, zip_with, drop_last, reverse, reverse_aux, reverse_aux-eq, append_assoc, append-nil, map-append, map-id, reverse-cons, reverse-append, reverse-reverse}
use Rattle.std.proofs.Math.Option
use Rattle.std.proofs.Math.Option.{Option, Option-elim, none, some}
use Prim.Native.Nat.{ℕ, zero, suc, ◌+◌, ◌≤◌, ◌<◌}
use Rattle.std.proofs.Math.ListN.{get_elem?, get_or-append}
use Rattle.std.proofs.lemmas.List.{length-reverse, get_or_at}
use Rattle.std.proofs.Math.Seq.{take-append_seam}
use Rattle.rules.specs.Tokens.{Quoted, closed, broken, quoted_onto}
use Rattle.rules.specs.Signals.{wire_bits}
use Rattle.rules.specs.Judgement.{until, only}
use Rattle.lists.specs.Tests.{by-test, by_order}

module _ {A B : Type 0} (f : A → List B) where
  pub flat_map-append : (xs ys : List A) → flat_map f (xs ++ ys) ≡ flat_map f xs ++ flat_map f ys
  unfolding flat_map
  flat_map-append [] ys = refl
  flat_map-append (x ∷ xs) ys = ap (λ (l : List B). f x ++ l) (flat_map-append xs ys) ∙ sym (append_assoc (f x) (flat_map f xs) (flat_map f ys))

  pub flat_map-same : (g : A → List B) → ((x : A) → f x ≡ g x) → (xs : List A) → flat_map f xs ≡ flat_map g xs
  unfolding flat_map
  flat_map-same g h [] = refl
  flat_map-same g h (x ∷ xs) = ap₂ (λ (a b : List B). a ++ b) (h x) (flat_map-same g h xs)

  pub flat_map-snoc : (xs : List A) (x : A) → flat_map f (xs ++ x ∷ []) ≡ flat_map f xs ++ f x
  unfolding flat_map
  flat_map-snoc xs x = flat_map-append xs (x ∷ []) ∙ ap (λ (l : List B). flat_map f xs ++ l) (append-nil (f x))

  -- of the first ones, with one more
  pub flat_map-more : (xs : List A) (i : ℕ) (d : A) → i < length xs → flat_map f (take i xs) ++ f (get_or xs i d) ≡ flat_map f (take (i + 1) xs)
  flat_map-more xs i d h = rw (add-one, take-suc xs i d h) (sym (flat_map-snoc (take i xs) (get_or xs i d)))

  -- with one element more in front, read from the end
  pub flat_map-back : (x : A) (xs : List A) → flat_map f (reverse (x ∷ xs)) ≡ flat_map f (reverse xs) ++ f x
  flat_map-back x xs = ap (flat_map f) (reverse-cons x xs) ∙ flat_map-snoc (reverse xs) x

  pub flat_map-map : {C : Type 0} (g : C → A) (xs : List C) → flat_map f (map g xs) ≡ flat_map (λ x. f (g x)) xs
  unfolding flat_map
  flat_map-map g [] = refl
  flat_map-map g (x ∷ xs) = ap (λ (l : List B). f (g x) ++ l) (flat_map-map g xs)

  pub flat_map-flat_map : {C : Type 0} (g : C → List A) (xs : List C) → flat_map f (flat_map g xs) ≡ flat_map (λ x. flat_map f (g x)) xs
  unfolding flat_map
  flat_map-flat_map g [] = refl
  flat_map-flat_map g (x ∷ xs) = flat_map-append (g x) (flat_map g xs) ∙ ap (λ (l : List B). flat_map f (g x) ++ l) (flat_map-flat_map g xs)

  pub flat_map-none : ((x : A) → f x ≡ []) → (xs : List A) → flat_map f xs ≡ []
  unfolding flat_map
  flat_map-none h [] = refl
  flat_map-none h (x ∷ xs) = rw (h x) (flat_map-none h xs)

  -- each element by itself
  pub flat_map-one : (g : A → B) → ((x : A) → f x ≡ g x ∷ []) → (xs : List A) → flat_map f xs ≡ map g xs
  unfolding flat_map
  flat_map-one g h [] = refl
  flat_map-one g h (x ∷ xs) = rw (h x) (ap (λ (l : List B). g x ∷ l) (flat_map-one g h xs))

-- an element of a mapped list
pub at_map : {A B : Type 0} (f : A → B) (xs : List A) (i : ℕ) → get_elem? (map f xs) i ≡ Option.map f (get_elem? xs i)
at_map f [] i = refl
at_map f (x ∷ xs) zero = refl
at_map f (x ∷ xs) (suc i) = at_map f xs i

pub flat_map-self : {A : Type 0} (f : A → List A) → ((x : A) → f x ≡ x ∷ []) → (xs : List A) → flat_map f xs ≡ xs
flat_map-self f h xs = flat_map-one f (λ x. x) h xs ∙ map-id xs

module _ {A B : Type 0} where
  pub map-flat_map : {C : Type 0} (g : B → C) (f : A → List B) (xs : List A) → map g (flat_map f xs) ≡ flat_map (λ x. map g (f x)) xs
  unfolding flat_map
  map-flat_map g f [] = refl
  map-flat_map g f (x ∷ xs) = map-append g (f x) (flat_map f xs) ∙ ap (λ (l : List _). map g (f x) ++ l) (map-flat_map g f xs)

  -- one value for each element that passes a test
  pub flat_map-only : (test : A → Bool) (g : A → B) (xs : List A) → flat_map (λ x. cond (test x) (g x ∷ []) []) xs ≡ map g (only test xs)
  unfolding flat_map only
  flat_map-only test g [] = refl
  flat_map-only test g (x ∷ xs) = by-test (test x) (λ e. rw (e, flat_map-only test g xs)) (λ e. rw (e, flat_map-only test g xs))

  pub map-reverse : (g : A → B) (xs : List A) → map g (reverse xs) ≡ reverse (map g xs)
  map-reverse g [] = refl
  map-reverse g (x ∷ xs) =
      ap (map g) (reverse-cons x xs)
      ∙ map-append g (reverse xs) (x ∷ [])
      ∙ ap (λ (l : List B). l ++ g x ∷ []) (map-reverse g xs)
      ∙ sym (reverse-cons (g x) (map g xs))

  pub map-replicate : (g : A → B) (n : ℕ) (a : A) → map g (replicate n a) ≡ replicate n (g a)
  map-replicate g zero a = refl
  map-replicate g (suc n) a = ap (λ (l : List B). g a ∷ l) (map-replicate g n a)

  -- an element by its number, whatever stands for none
  pub map_at : (g : A → B) (l : List A) (i : ℕ) (z : B) (d : A) → i < length l → get_or (map g l) i z ≡ g (get_or l i d)
  map_at g [] i z d h = absurd (omega arith)
  map_at g (x ∷ xs) zero z d h = refl
  map_at g (x ∷ xs) (suc i) z d h = map_at g xs i z d (omega arith)

  -- what is found of it, or a value given for none
  pub elim-at : (g : A → B) (z : B) (xs : List A) (i : ℕ) → Option-elim (get_elem? xs i) z g ≡ get_or (map g xs) i z
  unfolding Option-elim
  elim-at g z [] i = refl
  elim-at g z (x ∷ xs) zero = refl
  elim-at g z (x ∷ xs) (suc i) = elim-at g z xs i

  pub elim-map : {C : Type 0} (z : B) (f : C → B) (g : A → C) (xs : List A) (n : ℕ) → Option-elim (get_elem? xs n) z (λ x. f (g x)) ≡ Option-elim (get_elem? (map g xs) n) z f
  unfolding Option-elim
  elim-map z f g xs n = rw at_map (by-option (get_elem? xs n))
    where
      by-option : (o : Option A) → Option-elim o z (λ x. f (g x)) ≡ Option-elim (Option.map g o) z f
      by-option none = refl
      by-option (some x) = refl

pub zip-none : {A B : Type 0} (xs : List A) → zip {A = A} {B = B} xs [] ≡ []
unfolding zip zip_with
zip-none [] = refl
zip-none (x ∷ xs) = refl

module _ {A : Type 0} where
  pub drop-last : (xs : List A) (x : A) → drop_last (xs ++ x ∷ []) ≡ xs
  drop-last [] x = refl
  drop-last (y ∷ []) x = refl
  drop-last (y ∷ z ∷ xs) x = ap (λ (l : List A). y ∷ l) (drop-last (z ∷ xs) x)

  -- a list with nothing more behind it
  pub none_more : (xs ys more : List A) → xs ≡ ys ++ more → length xs ≡ length ys → xs ≡ ys
  none_more xs ys [] e l = e ∙ append-nil ys
  none_more xs ys (y ∷ more) e l = absurd (omega (arith, ap length e, length-append ys (y ∷ more)))

  -- none past the end
  pub element-none : (xs : List A) (i : ℕ) → length xs ≤ i → get_elem? xs i ≡ none
  element-none [] i h = refl
  element-none (x ∷ xs) zero h = absurd (omega arith)
  element-none (x ∷ xs) (suc i) h = element-none xs i (omega arith)

  -- one of the first list
  pub element-front : (xs ys : List A) (i : ℕ) → i < length xs → get_elem? (xs ++ ys) i ≡ get_elem? xs i
  element-front [] ys i h = absurd (omega arith)
  element-front (x ∷ xs) ys zero h = refl
  element-front (x ∷ xs) ys (suc i) h = element-front xs ys i (omega arith)

  -- one that is found stays, whatever stands behind
  pub element-stays : (f : A → Bool) (xs ys : List A) (i : ℕ) → Option-elim (get_elem? xs i) false f ≡ true → Option-elim (get_elem? (xs ++ ys) i) false f ≡ true
  unfolding Option-elim
  element-stays f xs ys i e =
      by_order (length xs) i
      (λ h. absurd (false≢true (rw (element-none xs i h) at e)))
      (λ h. rw (element-front xs ys i h) e)

  -- the one between two lists
  pub element-at : (xs : List A) (y : A) (ys : List A) (n : ℕ) → n ≡ length xs → get_elem? (xs ++ y ∷ ys) n ≡ some y
  element-at [] y ys n e = let h : n ≡ 0 = omega arith in rw h
  element-at (x ∷ xs) y ys n e = let h : n ≡ suc (length xs) = omega arith in rw h (element-at xs y ys (length xs) refl)

  -- behind what is reversed stands what stood there before
  pub element-behind : (xs ys : List A) (i n : ℕ) → n ≡ length xs + i → get_elem? (reverse_aux xs ys) n ≡ get_elem? ys i
  element-behind [] ys i n e = let q : n ≡ i = omega arith in rw q
  element-behind (x ∷ xs) ys i n e = element-behind xs (x ∷ ys) (suc i) n (omega arith)

  pub get_d_reverse : (l : List A) (i j : ℕ) (d : A) → i + j + 1 ≡ length l → get_or (reverse l) i d ≡ get_or l j d
  get_d_reverse [] i j d e = absurd (omega arith)
  get_d_reverse (x ∷ xs) i zero d e =
      let h : length (reverse xs) ≡ i = length-reverse xs ∙ omega arith in
      ap (λ (l : List A). get_or l i d) (reverse-cons x xs) ∙ get_or_at (reverse xs) x [] d i h
  get_d_reverse (x ∷ xs) i (suc j) d e =
      let h : i < length (reverse xs) = rw length-reverse (omega arith) in
      ap (λ (l : List A). get_or l i d) (reverse-cons x xs) ∙ get_or-append (reverse xs) (x ∷ []) d i h ∙ get_d_reverse xs i j d (omega arith)

  -- lists with a last element
  pub last-same : (xs ys : List A) (x y : A) → xs ++ x ∷ [] ≡ ys ++ y ∷ [] → (xs ≡ ys) × (x ≡ y)
  last-same xs ys x y e =
      let q : x ∷ reverse xs ≡ y ∷ reverse ys = sym (reverse-append xs (x ∷ [])) ∙ ap reverse e ∙ reverse-append ys (y ∷ []) in
      let h : reverse xs ≡ reverse ys = cc in
      (sym (reverse-reverse xs) ∙ ap reverse h ∙ reverse-reverse ys, cc)

  pub no_last : {P : Type 0} (xs : List A) (x : A) → [] ≡ xs ++ x ∷ [] → P
  no_last xs x e = absurd (omega (arith, ap length e, length-append xs (x ∷ [])))

  -- those before the first that passes a test are the first ones, and so is what is made of them
  pub until-take : (f : A → Bool) (xs : List A) → until f xs ≡ take (length (until f xs)) xs
  unfolding until
  until-take f [] = refl
  until-take f (x ∷ xs) = by-test (f x) (λ e. rw e) (λ e. rw e (ap (λ (l : List A). x ∷ l) (until-take f xs)))

  pub until_front : (f : A → Bool) (xs : List A) → xs ≡ until f xs ++ drop (length (until f xs)) xs
  until_front f xs =
      let n : ℕ = length (until f xs) in
      sym (take-append-drop n xs) ∙ ap (λ (l : List A). l ++ drop n xs) (sym (until-take f xs))

  pub until-le : (f : A → Bool) (xs : List A) → length (until f xs) ≤ length xs
  until-le f xs = omega (arith, ap length (until_front f xs), length-append (until f xs) (drop (length (until f xs)) xs))

  pub flat_map-until : {B : Type 0} (h : A → List B) (f : A → Bool) (xs : List A) → flat_map h (until f xs) ≡ take (length (flat_map h (until f xs))) (flat_map h xs)
  flat_map-until h f xs =
      let more : List A = drop (length (until f xs)) xs in
      sym (ap (take (length (flat_map h (until f xs)))) (ap (flat_map h) (until_front f xs) ∙ flat_map-append h (until f xs) more) ∙ take-append_seam (flat_map h (until f xs)) (flat_map h more))

-- the bits of a wire are as many as they should be
pub length-wire : (n i w : ℕ) → length (wire_bits n i w) ≡ w
unfolding wire_bits
length-wire n i zero = refl
length-wire n i (suc w) = ap suc (length-wire n (i + 1) w)

pub onto-none : (q : Quoted) → quoted_onto [] q ≡ q
unfolding quoted_onto
onto-none (closed cs l) = refl
onto-none broken = refl

-- equal lists have equal numbers
pub same_at : {xs ys : List ℕ} (i : ℕ) → xs ≡ ys → get_or xs i 0 ≡ get_or ys i 0
same_at i e = ap (λ (l : List ℕ). get_or l i 0) e

-- the values of consecutive numbers
abbrev pub up : {A : Type 0} → (ℕ → A) → (many k : ℕ) → List A
up f zero k = []
up f (suc l) k = f k ∷ up f l (k + 1)

pub up_same : {A : Type 0} (f g : ℕ → A) → ((j : ℕ) → f j ≡ g j) → (many k : ℕ) → up f many k ≡ up g many k
up_same f g h zero k = refl
up_same f g h (suc l) k = ap₂ ◌∷◌ (h k) (up_same f g h l (k + 1))

pub up-last : {A : Type 0} (f : ℕ → A) (l k : ℕ) → up f (suc l) k ≡ up f l k ++ f (k + l) ∷ []
up-last f zero k = rw add-zero
up-last f (suc l) k =
    let e : k + 1 + l ≡ k + suc l = omega arith in
    ap (λ (x : List _). f k ∷ x) (up-last f l (k + 1) ∙ ap (λ (i : ℕ). up f l (k + 1) ++ f i ∷ []) e)

-- none stands before these, or one next to them
module _ {A : Type 0} where
  pub first_next : (more xs : List A) → (more ++ xs ≡ xs) ⊎ ((init : List A) × (x : A) × (more ++ xs ≡ init ++ x ∷ xs))
  first_next [] xs = inl refl
  first_next (y ∷ l) xs =
      ⊎_elim (λ e. inr ([], y, ap (λ (m : List A). y ∷ m) e)) (λ q. inr (y ∷ q.0, q.1, ap (λ (m : List A). y ∷ m) q.2)) (first_next l xs)

  -- two lists each of which ends with the other
  pub both-begin : (xs ys more less : List A) → xs ≡ more ++ ys → ys ≡ less ++ xs → ys ≡ xs
  both-begin xs ys [] less e d = sym e
  both-begin xs ys (x ∷ more) less e d = absurd (omega (arith, ap length e, ap length d, length-append more ys, length-append less xs))

-- what a list keeps without its first element, it keeps without its first ones, in their order or the last one first
module _ {A : Type 0} (P : List A → Type 0) (later : (x : A) (xs : List A) → P (x ∷ xs) → P xs) where
  pub keeps-behind : (xs ys : List A) → P (xs ++ ys) → P ys
  keeps-behind [] ys p = p
  keeps-behind (x ∷ xs) ys p = keeps-behind xs ys (later x (xs ++ ys) p)

  pub keeps-before : (xs ys : List A) → P (reverse_aux xs ys) → P ys
  keeps-before xs ys p = keeps-behind (reverse xs) ys (subst P (reverse_aux-eq xs ys) p)
