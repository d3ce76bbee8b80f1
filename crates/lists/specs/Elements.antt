-- Tests that all elements of a list pass, or some, and what holds of each.
-- Assumes nothing.
use Rattle.std.specs.Prelude.{◌≡◌, Bool, cond, not, ◌&&◌, eqb, length, get_or, take, drop}
use Rattle.std.proofs.Math.Path.{refl, sym, ap, ap₂}
use Rattle.std.proofs.Common.{◌∙◌, add-one, take-append-drop, drop_of_length-le, eqb-true}
use Rattle.std.proofs.Math.Bool.{true, false, ◌||◌, and-true, and_assoc, or-true, or-false, or_comm, or_assoc}
use Rattle.std.proofs.lemmas.Bool.{false≢true, not-true}
use mathlib.Core.List.{List, [], ◌∷◌, ◌++◌, map, flat_map, zip, zip_with, reverse, reverse_aux, reverse-cons}
use Rattle.std.proofs.Math.Option.{some}
use Prim.Native.Nat.{ℕ, zero, suc, ◌+◌, ◌≤◌, ◌<◌}
use Rattle.std.proofs.Math.ListN.{get_elem?}
use Rattle.std.proofs.Math.Seq.{drop-cons}
use Rattle.rules.specs.Bytes.{all, any}
use Rattle.rules.specs.Judgement.{until, only}
use Rattle.lists.specs.Tests.{by_cond, by-test, and-true-left, and-true-right, or-false-left, or-false-right}

module _ {A : Type 0} (f : A → Bool) where
  pub all_split : (xs ys : List A) → all f (xs ++ ys) ≡ all f xs && all f ys
  unfolding all
  all_split [] ys = refl
  all_split (x ∷ xs) ys = by-test (f x) (λ e. rw (e, all_split xs ys)) (λ e. rw e)

  pub all_append : (xs ys : List A) → all f xs ≡ true → all f ys ≡ true → all f (xs ++ ys) ≡ true
  all_append xs ys h k = rw (all_split xs ys, h, k)

  pub all_left : (xs ys : List A) → all f (xs ++ ys) ≡ true → all f xs ≡ true
  all_left xs ys h = and-true-left (all f xs) (all f ys) (rw (all_split xs ys) at h)

  pub all_right : (xs ys : List A) → all f (xs ++ ys) ≡ true → all f ys ≡ true
  all_right xs ys h = and-true-right (all f xs) (all f ys) (rw (all_split xs ys) at h)

  pub all-reverse : (xs ys : List A) → all f xs ≡ true → all f ys ≡ true → all f (reverse_aux xs ys) ≡ true
  unfolding all
  all-reverse [] ys h k = k
  all-reverse (x ∷ xs) ys h k = all-reverse xs (x ∷ ys) (and-true-right (f x) _ h) (rw (and-true-left (f x) _ h) k)

  pub all-element : (xs : List A) (i : ℕ) (v : A) → all f xs ≡ true → get_elem? xs i ≡ some v → f v ≡ true
  unfolding all
  all-element [] i v h e = cc
  all-element (x ∷ xs) zero v h e = let q : x ≡ v = cc in rw q at (and-true-left (f x) _ h)
  all-element (x ∷ xs) (suc i) v h e = all-element xs i v (and-true-right (f x) _ h) e

  pub all_cons : (x : A) (xs : List A) → f x ≡ true → all f xs ≡ true → all f (x ∷ xs) ≡ true
  unfolding all
  all_cons x xs h k = rw (h, k)

  pub all_first : (x : A) (xs : List A) → all f (x ∷ xs) ≡ true → f x ≡ true
  unfolding all
  all_first x xs h = and-true-left (f x) (all f xs) h

  pub all-later : (x : A) (xs : List A) → all f (x ∷ xs) ≡ true → all f xs ≡ true
  unfolding all
  all-later x xs h = and-true-right (f x) (all f xs) h

  pub all_take : (n : ℕ) (xs : List A) → all f xs ≡ true → all f (take n xs) ≡ true
  all_take n xs h = all_left (take n xs) (drop n xs) (rw (take-append-drop n xs) h)

  pub all_drop : (n : ℕ) (xs : List A) → all f xs ≡ true → all f (drop n xs) ≡ true
  all_drop n xs h = all_right (take n xs) (drop n xs) (rw (take-append-drop n xs) h)

  pub all-until : (g : A → Bool) (xs : List A) → all f xs ≡ true → all f (until g xs) ≡ true
  unfolding until all
  all-until g [] h = refl
  all-until g (x ∷ xs) h =
      by_cond (λ l. all f l ≡ true) (g x) (λ e. refl) (λ e. all_cons x (until g xs) (all_first x xs h) (all-until g xs (all-later x xs h)))

  -- that follows from another test
  pub all-implied : (g : A → Bool) → ((x : A) → f x ≡ true → g x ≡ true) → (xs : List A) → all f xs ≡ true → all g xs ≡ true
  unfolding all
  all-implied g h [] e = refl
  all-implied g h (x ∷ xs) e = rw (h x (and-true-left (f x) _ e)) (all-implied g h xs (and-true-right (f x) _ e))

  pub all_one : (x : A) → f x ≡ true → all f (x ∷ []) ≡ true
  unfolding all
  all_one x h = all_cons x [] h refl

  pub all_snoc : (xs : List A) (x : A) → all f xs ≡ true → f x ≡ true → all f (xs ++ x ∷ []) ≡ true
  all_snoc xs x h e = all_append xs (x ∷ []) h (all_one x e)

  -- that every element passes
  pub all-each : ((x : A) → f x ≡ true) → (xs : List A) → all f xs ≡ true
  unfolding all
  all-each h [] = refl
  all-each h (x ∷ xs) = all_cons x xs (h x) (all-each h xs)

  module _ {B : Type 0} where
    pub all_map : (g : B → A) (xs : List B) → all f (map g xs) ≡ all (λ x. f (g x)) xs
    unfolding all
    all_map g [] = refl
    all_map g (x ∷ xs) = ap (λ (b : Bool). f (g x) && b) (all_map g xs)

    pub all-flat_map : (g : B → List A) → ((x : B) → all f (g x) ≡ true) → (xs : List B) → all f (flat_map g xs) ≡ true
    unfolding all flat_map
    all-flat_map g h [] = refl
    all-flat_map g h (x ∷ xs) = all_append (g x) (flat_map g xs) (h x) (all-flat_map g h xs)

-- a loop that looks at every value, also behind one that fails: what it has found and what those from i on tell, one turn on and at the end
module _ (f : ℕ → Bool) (l : List ℕ) (i : ℕ) (good : Bool) where
  pub all-turn : (b : Bool) → i < length l → f (get_or l i 0) ≡ b → (good && b && all f (drop (i + 1) l)) ≡ (good && all f (drop i l))
  unfolding all
  all-turn b h e = and_assoc good b (all f (drop (i + 1) l)) ∙ ap (λ (t : Bool). good && t) (rw (add-one, drop-cons l i 0, e))

  pub all_told : length l ≤ i → (good && all f (drop i l)) ≡ good
  unfolding all
  all_told h = ap (λ (xs : List ℕ). good && all f xs) (drop_of_length-le l {i = i} h) ∙ and-true good

-- of mapped elements, by a test of those that are mapped
pub all-through : {A B : Type 0} (f : A → Bool) (k : A → B) (g : B → Bool) (xs : List A) → ((x : A) → f x ≡ true → g (k x) ≡ true) → all f xs ≡ true → all g (map k xs) ≡ true
all-through f k g xs h e = all_map g k xs ∙ all-implied f (λ x. g (k x)) h xs e

-- of pairs, by their first or second parts
module _ {A B : Type 0} where
  pub all-zip-first : (f : A → Bool) (xs : List A) (ys : List B) → all f xs ≡ true → all (λ z. f z.0) (zip xs ys) ≡ true
  unfolding all zip zip_with
  all-zip-first f [] ys h = refl
  all-zip-first f (x ∷ xs) [] h = refl
  all-zip-first f (x ∷ xs) (y ∷ ys) h = rw (all_first f x xs h) (all-zip-first f xs ys (all-later f x xs h))

  pub all-zip-second : (f : B → Bool) (xs : List A) (ys : List B) → all f ys ≡ true → all (λ z. f z.1) (zip xs ys) ≡ true
  unfolding all zip zip_with
  all-zip-second f [] ys h = refl
  all-zip-second f (x ∷ xs) [] h = refl
  all-zip-second f (x ∷ xs) (y ∷ ys) h = rw (all_first f y ys h) (all-zip-second f xs ys (all-later f y ys h))

-- what holds of each element, written as `p then q then tt`
abbrev pub Each : {A : Type 0} → (A → Type 0) → List A → Type 0
Each P [] = Unit {0}
Each P (x ∷ xs) = P x × Each P xs

infixr 20 ◌then◌
abbrev pub ◌then◌ : {A B : Type 0} → A → B → A × B
p then q = (p, q)

-- holds of what is found among them, by a comparison
pub by-found : {A : Type 0} (equal : A → A → Bool) → ((x y : A) → equal x y ≡ true → x ≡ y) → (P : A → Type 0) (xs : List A) → Each P xs → (n : A) → any (equal n) xs ≡ true → P n
unfolding any
by-found equal h P [] ps n e = absurd (false≢true e)
by-found equal h P (x ∷ xs) ps n e = by-test (equal n x) (λ t. rw (h n x t) ps.0) (λ t. by-found equal h P xs ps.1 n (rw t at e))

pub by-any : (P : ℕ → Type 0) (xs : List ℕ) → Each P xs → (n : ℕ) → any (eqb n) xs ≡ true → P n
by-any = by-found eqb eqb-true

module _ {A : Type 0} (P : A → Type 0) where
  pub each-front : (xs ys : List A) → Each P (xs ++ ys) → Each P xs
  each-front [] ys h = tt
  each-front (x ∷ xs) ys h = (h.0, each-front xs ys h.1)

  pub each_back : (xs ys : List A) → Each P (xs ++ ys) → Each P ys
  each_back [] ys h = h
  each_back (x ∷ xs) ys h = each_back xs ys h.1

  pub each_append : (xs ys : List A) → Each P xs → Each P ys → Each P (xs ++ ys)
  each_append [] ys h k = k
  each_append (x ∷ xs) ys h k = (h.0, each_append xs ys h.1 k)

  pub each-apart : {B : Type 0} (g : B → List A) (xs : List B) → Each P (flat_map g xs) → Each (λ x. Each P (g x)) xs
  unfolding flat_map
  each-apart g [] h = tt
  each-apart g (x ∷ xs) h = (each-front (g x) (flat_map g xs) h, each-apart g xs (each_back (g x) (flat_map g xs) h))

  pub each-together : {B : Type 0} (g : B → List A) (xs : List B) → Each (λ x. Each P (g x)) xs → Each P (flat_map g xs)
  unfolding flat_map
  each-together g [] h = tt
  each-together g (x ∷ xs) h = each_append (g x) (flat_map g xs) h.0 (each-together g xs h.1)

  pub each_map : (R : A → Type 0) → ((x : A) → P x → R x) → (xs : List A) → Each P xs → Each R xs
  each_map R h [] e = tt
  each_map R h (x ∷ xs) e = (h x e.0, each_map R h xs e.1)

  pub each_all : ((x : A) → P x) → (xs : List A) → Each P xs
  each_all h [] = tt
  each_all h (x ∷ xs) = (h x, each_all h xs)

  -- by a test that all pass
  pub each_of : (f : A → Bool) → ((x : A) → f x ≡ true → P x) → (xs : List A) → all f xs ≡ true → Each P xs
  each_of f h [] e = tt
  each_of f h (x ∷ xs) e = (h x (all_first f x xs e), each_of f h xs (all-later f x xs e))

-- there and back
pub map_back : {A B : Type 0} (f : A → B) (g : B → A) (xs : List A) → Each (λ x. g (f x) ≡ x) xs → map g (map f xs) ≡ xs
map_back f g [] h = refl
map_back f g (x ∷ xs) h = ap₂ ◌∷◌ h.0 (map_back f g xs h.1)

-- tests that all hold, one by one
abbrev pub tests : Bool → List Bool → Bool
tests b [] = b
tests b (c ∷ cs) = tests (b && c) cs

pub each-test : (b : Bool) (cs : List Bool) → tests b cs ≡ true → Each (λ c. c ≡ true) (b ∷ cs)
each-test b [] e = (e, tt)
each-test b (c ∷ cs) e = let h = each-test (b && c) cs e in (and-true-left b c h.0, (and-true-right b c h.0, h.1))

-- what holds of each, and of what stands behind the end, by number; so do tests
pub each_at : {A : Type 0} (P : A → Type 0) (d : A) → P d → (xs : List A) → Each P xs → (i : ℕ) → P (get_or xs i d)
each_at P d p [] h i = p
each_at P d p (x ∷ xs) h zero = h.0
each_at P d p (x ∷ xs) h (suc i) = each_at P d p xs h.1 i

pub test_at : (b : Bool) (cs : List Bool) → tests b cs ≡ true → (i : ℕ) → get_or (b ∷ cs) i true ≡ true
test_at b cs e i = each_at (λ c. c ≡ true) true refl (b ∷ cs) (each-test b cs e) i

pub all_of : {A : Type 0} (f : A → Bool) (xs : List A) → Each (λ x. f x ≡ true) xs → all f xs ≡ true
unfolding all
all_of f [] h = refl
all_of f (x ∷ xs) h = all_cons f x xs h.0 (all_of f xs h.1)

-- that follows from two tests
pub all_both : {A : Type 0} (f g h : A → Bool) → ((x : A) → f x ≡ true → g x ≡ true → h x ≡ true) → (xs : List A) → all f xs ≡ true → all g xs ≡ true → all h xs ≡ true
unfolding all
all_both f g h k [] a b = refl
all_both f g h k (x ∷ xs) a b = all_cons h x xs (k x (all_first f x xs a) (all_first g x xs b)) (all_both f g h k xs (all-later f x xs a) (all-later g x xs b))

-- tests that answer the same
pub all_same : {A : Type 0} (f g : A → Bool) → ((x : A) → f x ≡ g x) → (xs : List A) → all f xs ≡ all g xs
unfolding all
all_same f g h [] = refl
all_same f g h (x ∷ xs) = rw (h x, all_same f g h xs)

-- of mapped elements
pub each-through : {A B : Type 0} (P : A → Type 0) (k : A → B) (R : B → Type 0) → ((x : A) → P x → R (k x)) → (xs : List A) → Each P xs → Each R (map k xs)
each-through P k R h [] e = tt
each-through P k R h (x ∷ xs) e = (h x e.0, each-through P k R h xs e.1)

pub each-mapped : {A B : Type 0} (k : A → B) (R : B → Type 0) → ((x : A) → R (k x)) → (xs : List A) → Each R (map k xs)
each-mapped k R h xs = each-through (λ x. R (k x)) k R (λ x p. p) xs (each_all _ h xs)

-- that some element passes
module _ {A : Type 0} where
  pub any_append : (f : A → Bool) (xs ys : List A) → any f (xs ++ ys) ≡ any f xs || any f ys
  unfolding any
  any_append f [] ys = refl
  any_append f (x ∷ xs) ys = ap (λ (b : Bool). f x || b) (any_append f xs ys) ∙ sym (or_assoc (f x) (any f xs) (any f ys))

  pub any_same : (f g : A → Bool) (xs : List A) → Each (λ x. f x ≡ g x) xs → any f xs ≡ any g xs
  unfolding any
  any_same f g [] h = refl
  any_same f g (x ∷ xs) h = ap₂ ◌||◌ h.0 (any_same f g xs h.1)

  -- and another test
  pub any-only : (f g : A → Bool) (xs : List A) → any (λ x. f x && g x) xs ≡ any g (only f xs)
  unfolding any only
  any-only f g [] = refl
  any-only f g (x ∷ xs) = by-test (f x) (λ e. rw (e, any-only f g xs)) (λ e. rw (e, any-only f g xs))

  -- with one element more, or not
  pub any-chosen : (f : A → Bool) (b : Bool) (x : A) (xs : List A) → any f (cond b (x ∷ xs) xs) ≡ (b && f x) || any f xs
  unfolding any
  any-chosen f true x xs = refl
  any-chosen f false x xs = refl

  -- none does just where each fails
  pub any_none : (f : A → Bool) (xs : List A) → any f xs ≡ false → Each (λ x. f x ≡ false) xs
  unfolding any
  any_none f [] e = tt
  any_none f (x ∷ xs) e = (or-false-left (f x) _ e, any_none f xs (or-false-right (f x) _ e))

  pub none_any : (f : A → Bool) (xs : List A) → Each (λ x. f x ≡ false) xs → any f xs ≡ false
  unfolding any
  none_any f [] e = refl
  none_any f (x ∷ xs) e = rw e.0 (none_any f xs e.1)

  -- of mapped elements, whatever the order, and by either of two tests
  pub any-map : {B : Type 0} (f : B → Bool) (g : A → B) (xs : List A) → any f (map g xs) ≡ any (λ x. f (g x)) xs
  unfolding any
  any-map f g [] = refl
  any-map f g (x ∷ xs) = ap (λ (b : Bool). f (g x) || b) (any-map f g xs)

  pub any-reverse : (f : A → Bool) (xs : List A) → any f (reverse xs) ≡ any f xs
  unfolding any
  any-reverse f [] = refl
  any-reverse f (x ∷ xs) = ap (any f) (reverse-cons x xs) ∙ any_append f (reverse xs) (x ∷ []) ∙ or_comm (any f (reverse xs)) _ ∙ ap₂ ◌||◌ (or-false (f x)) (any-reverse f xs)

  pub any-or : (f g : A → Bool) (xs : List A) → any (λ x. f x || g x) xs ≡ any f xs || any g xs
  unfolding any
  any-or f g [] = refl
  any-or f g (x ∷ xs) =
      by-test (f x) (λ e. rw e) (λ e. by-test (g x) (λ h. rw (e, h) (sym (or-true (any f xs)))) (λ h. rw (e, h) (any-or f g xs)))

  -- those before the first that passes a test, where none of the first ones does
  pub until_none : (f : A → Bool) (xs ys : List A) → all (λ x. not (f x)) xs ≡ true → until f (xs ++ ys) ≡ xs ++ until f ys
  unfolding until
  until_none f [] ys e = refl
  until_none f (x ∷ xs) ys e = rw (not-true (f x) (all_first _ x xs e)) (ap (λ (l : List A). x ∷ l) (until_none f xs ys (all-later _ x xs e)))
