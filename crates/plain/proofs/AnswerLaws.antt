-- A form by its first byte and those behind it, and the answers of the two calls.
-- Assumes nothing.
use mathlib.Core.Path.{◌≡◌, refl, sym, ap, ap₂, ◌∙◌}
use mathlib.Core.Bool.{Bool, true, false, cond, ◌&&◌}
use mathlib.Core.List.{List, [], ◌∷◌, flat_map}
use Prim.Native.Nat.{ℕ, ◌+◌, ◌-◌, ◌≤◌, ◌<◌}
use native.Mathlib.Omega.{arith}
use lib.Dec.{eqb}
use lib.ListN.{length, take, drop, get_or, set}
use lib.Seq.{take_all}
use borrow.Author.Tests.{lt-ltb, le-ltb}
use Rattle.rules.specs.Bytes.{same, legal}
use Rattle.rules.specs.Judgement.{verdict, lowest}
use Rattle.rules.specs.Plain.{plain_byte, plain_form, form_bytes, name_of, is_form, turned, turned_back}
use Rattle.lists.specs.Tests.{by-test}
use Rattle.tables.specs.Store.{store}
use Rattle.plain.specs.Put.{PutAt, wrote, put_then, put_as, put-part}
use Rattle.plain.specs.FormLaws.{form-length, form-legal, form-one, name-short}

-- ANY BYTES: none, or a first one and those behind it, as code cuts them
pub form-none : (n : List ℕ) → length n ≡ 0 → plain_form n ≡ []
unfolding plain_form
form-none [] e = refl
form-none (b ∷ bs) e = absurd (omega arith)

pub form-some : (n : List ℕ) → (length n ≡ 0 → ⊥) → plain_form n ≡ cond (eqb (get_or n 0 0) 92) 112 97 ∷ flat_map plain_byte (take (length n - 1) (drop 1 n))
unfolding plain_form
form-some [] h = absurd (h refl)
form-some (b ∷ bs) h = ap (λ (l : List ℕ). cond (eqb b 92) 112 97 ∷ flat_map plain_byte l) (sym (take_all (length (b ∷ bs) - 1) bs (omega arith)))

pub name-none : (t : List ℕ) → length t ≡ 0 → name_of t ≡ []
unfolding name_of
name-none [] e = refl
name-none (b ∷ bs) e = absurd (omega arith)

pub name-some : (t : List ℕ) → (length t ≡ 0 → ⊥) → name_of t ≡ cond (eqb (get_or t 0 0) 112) 92 36 ∷ form_bytes (take (length t - 1) (drop 1 t))
unfolding name_of
name-some [] h = absurd (h refl)
name-some (b ∷ bs) h = ap (λ (l : List ℕ). cond (eqb b 112) 92 36 ∷ form_bytes l) (sym (take_all (length (b ∷ bs) - 1) bs (omega arith)))

-- a first byte, and what is put behind it
pub first_then : {at r b x : ℕ} {xs ys o p : List ℕ} → xs ≡ x ∷ ys → b ≡ x → PutAt (at + 1) ys (set o at b) p r → PutAt at xs o p r
unfolding store
first_then {at} {r} {b} {x} {xs} {ys} {o} {p} e q w =
    let first : PutAt at (b ∷ []) o (set o at b) (at + 1) = record { place = refl; stored = refl } in
    put_as (put_then first w) (ap (λ (k : ℕ). k ∷ ys) q ∙ sym e)

-- THE FORM OF A NAME
module _ (n old : List ℕ) where
  pub turned-illegal : legal n ≡ false → (4, 0, old) ≡ wrote old (turned (length old) n)
  unfolding wrote turned verdict lowest
  turned-illegal h = rw h

  module _ (h : legal n ≡ true) (size : ℕ) (e : size ≡ length (plain_form n)) where
    pub turned-short : length old < size → (12, 0, old) ≡ wrote old (turned (length old) n)
    unfolding wrote turned verdict lowest
    turned-short k = rw (h, lt-ltb (length old) (length (plain_form n)) (omega arith))

    pub turned-there : {new : List ℕ} {r : ℕ} → size ≤ length old → PutAt 0 (plain_form n) old new r → (0, size, new) ≡ wrote old (turned (length old) n)
    unfolding wrote turned verdict lowest
    turned-there k w = rw (h, le-ltb (length old) (length (plain_form n)) (omega arith)) (ap₂ (λ (a : ℕ) (x : List ℕ). (0, a, x)) e w.stored)

-- THE NAME OF A FORM, as the way back makes it in a room of its own
not-form : (t old : List ℕ) → is_form t ≡ false → (14, 0, old) ≡ wrote old (turned_back (length old) t)
unfolding wrote turned_back verdict lowest
not-form t old h = rw h

pub back_long : (t old : List ℕ) → 763 < length t → (14, 0, old) ≡ wrote old (turned_back (length old) t)
back_long t old h =
    not-form t old (by-test (is_form t) (λ e. absurd (omega (arith, form-length (name_of t) (form-legal t e), ap length (form-one t e)))) (λ e. e))

module _ (t : List ℕ) {own made : List ℕ} {r : ℕ} (w : PutAt 0 (name_of t) own made r) (few : length t ≤ 763) (room : length own ≡ 763) where
  pub name-end : r ≤ 763
  name-end = omega (arith, w.place, name-short t)

  pub name-part : take (r - 0) (drop 0 made) ≡ name_of t
  name-part = put-part w (omega (arith, name-short t))

  module _ (is : Bool) (e : is ≡ legal (take (r - 0) (drop 0 made)) && same (plain_form (take (r - 0) (drop 0 made))) t) (old : List ℕ) where
    is-form : is ≡ is_form t
    unfolding is_form
    is-form = e ∙ ap (λ (n : List ℕ). legal n && same (plain_form n) t) name-part

    pub back_none : is ≡ false → (14, 0, old) ≡ wrote old (turned_back (length old) t)
    back_none h = not-form t old (sym is-form ∙ h)

    module _ (h : is ≡ true) where
      pub back-short : length old < r → (12, 0, old) ≡ wrote old (turned_back (length old) t)
      unfolding wrote turned_back verdict lowest
      back-short k = rw (sym is-form ∙ h, lt-ltb (length old) (length (name_of t)) (omega (arith, w.place)))

      pub back-there : {new : List ℕ} → r ≤ length old → new ≡ store old 0 (take (r - 0) (drop 0 made)) → (0, r, new) ≡ wrote old (turned_back (length old) t)
      unfolding wrote turned_back verdict lowest
      back-there k q =
          rw (sym is-form ∙ h, le-ltb (length old) (length (name_of t)) (omega (arith, w.place)))
          (ap₂ (λ (a : ℕ) (x : List ℕ). (0, a, x)) (omega (arith, w.place)) (q ∙ ap (store old 0) name-part))
