-- Legal names, by their length, their first byte and the bytes behind it.
-- Assumes nothing.
use mathlib.Core.Path.{◌≡◌, refl, sym, ◌∙◌}
use mathlib.Core.Bool.{Bool, true, false, ◌&&◌, and_comm, and-true}
use mathlib.Core.List.{List, [], ◌∷◌}
use Prim.Native.Nat.{ℕ, suc, ◌+◌, ◌-◌, ◌<◌, ◌≤◌}
use native.Mathlib.Omega.{arith}
use lib.Dec.{leb, leb-suc-suc}
use lib.ListN.{length, get_or, drop}
use Rattle.std.specs.List.{list_all}
use Rattle.std.specs.Cmp.Lexicographic.{pointwise}
use Rattle.std.proofs.Common.{nat_eq, nat_lt, eq-eqb, le-leb, get_or-drop}
use Rattle.std.specs.Prelude.{Option as Optional, Some, None}
use Rattle.std.specs.Option.{option_eq, option_copied}
use Rattle.std.specs.List.{slice_get}
use denote.Ref.{Bor}
use Rattle.std.proofs.lemmas.Bool.{false≢true}
use Rattle.rules.specs.Bytes.{all, same, within, run, is_name_start, is_name_byte, legal}
use Rattle.lists.specs.Tests.{by-test}
use Rattle.lists.specs.Bytes.{same-eq, within-yes, within-below, within-above}

legal-is : (n : List ℕ) → legal n ≡ within 2 255 (length n) && (is_name_start (get_or n 0 0) && all is_name_byte (drop 1 n))
unfolding legal within
legal-is [] = refl
legal-is (b ∷ bs) = rw (leb-suc-suc 1 (length bs), leb-suc-suc (length bs) 254) (and_comm (is_name_start b && all is_name_byte bs) (within 1 254 (length bs)))

-- the bytes behind the first are tested by their lower bound alone
name_bytes : (l : List ℕ) → ((i : ℕ) → get_or l i 0 < 256) → list_all (λ b. nat_lt 32 b) l ≡ all is_name_byte l
unfolding all is_name_byte within
name_bytes [] h = refl
name_bytes (b ∷ l) h =
    let top : leb b 255 ≡ true = le-leb b 255 (omega (arith, h 0)) in
    rw (name_bytes l (λ i. h (suc i)), top, and-true)

-- two slices that are equal byte for byte, and two whose last bytes are not
pub same_pointwise : (a b : List ℕ) → pointwise nat_eq a b ≡ same a b
unfolding same
same_pointwise [] [] = refl
same_pointwise [] (y ∷ ys) = refl
same_pointwise (x ∷ xs) [] = refl
same_pointwise (x ∷ xs) (y ∷ ys) = rw (same_pointwise xs ys)

both : (r q : Optional (Bor ℕ)) → option_copied r ≡ option_copied q → option_eq (λ x y. nat_eq x.now y.now) r q ≡ true
both None None e = refl
both (Some x) (Some y) e = eq-eqb x.now y.now (grind arith)
both (Some x) None e = absurd (grind arith)
both None (Some y) e = absurd (grind arith)

pub last_apart : (a b : List ℕ) (r q : Optional (Bor ℕ)) → option_copied r ≡ slice_get a (length a - 1) → option_copied q ≡ slice_get b (length b - 1) → false ≡ option_eq (λ x y. nat_eq x.now y.now) r q → false ≡ same a b
last_apart a b r q er eq h =
    by-test (same a b)
    (λ e. let k : a ≡ b = same-eq a b e in absurd (false≢true (h ∙ both r q (rw (er, eq, k)))))
    (λ e. sym e)

module _ (n : List ℕ) where
  pub legal-few : length n < 2 → legal n ≡ false
  legal-few h = legal-is n ∙ rw (within-below 2 255 (length n) h)

  pub legal-many : 255 < length n → legal n ≡ false
  legal-many h = legal-is n ∙ rw (within-above 2 255 (length n) h)

  module _ (h : 2 ≤ length n) (k : length n ≤ 255) where
    pub legal-start : is_name_start (get_or n 0 0) ≡ false → legal n ≡ false
    legal-start s = legal-is n ∙ rw (within-yes 2 255 (length n) h k, s)

    pub legal-bytes : is_name_start (get_or n 0 0) ≡ true → ((i : ℕ) → get_or n i 0 < 256) → list_all (λ b. nat_lt 32 b) (drop 1 n) ≡ legal n
    legal-bytes s w = name_bytes (drop 1 n) (λ i. rw get_or-drop (w (1 + i))) ∙ sym (legal-is n ∙ rw (within-yes 2 255 (length n) h k, s))

-- ---- a name that is a run of name bytes is legal by its length

all-taken : (f : ℕ → Bool) (l : List ℕ) → all f (run f l) ≡ true
unfolding all run
all-taken f [] = refl
all-taken f (b ∷ bs) = by-test (f b) (λ e. rw (e, e) (all-taken f bs)) (λ e. rw e)

pub legal-run : (b : ℕ) (bs : List ℕ) → is_name_start b ≡ true → legal (b ∷ run is_name_byte bs) ≡ within 2 255 (length (b ∷ run is_name_byte bs))
unfolding legal within
legal-run b bs s = rw (s, all-taken is_name_byte bs, leb-suc-suc 1 (length (run is_name_byte bs)), leb-suc-suc (length (run is_name_byte bs)) 254)
