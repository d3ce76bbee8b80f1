-- Pieces of one length, and widths that are equal: one more at the end.
-- Assumes nothing.
use Prim.Native.Nat.{ℕ, zero, suc, ◌+◌, ◌*◌}
use mathlib.Core.Path.{◌≡◌, refl, sym, ap, ap₂, ◌∙◌}
use mathlib.Core.List.{List, [], ◌∷◌, ◌++◌}
use mathlib.Core.Bool.{true, cond, ◌&&◌, and-true}
use native.Mathlib.Omega.{arith}
use lib.Dec.{eqb}
use lib.ListN.{length, take, drop, get_or, replicate}
use lib.Seq.{drop-drop}
use borrow.Author.Tests.{eqb-true, eq-eqb, ne_eqb}
use Rattle.rules.specs.Bytes.{all}
use Rattle.rules.specs.Judgement.{equal}
use Rattle.lists.specs.Elements.{all_split, all_first, all-later}
use Rattle.lists.specs.Parts.{slice-span, slice_kept, take-kept}
use Rattle.netlist.specs.Steps.{pieces}

pub pieces_more : (w n : ℕ) (xs : List ℕ) → pieces w (suc n) xs ≡ pieces w n xs ++ take w (drop (n * w) xs) ∷ []
unfolding pieces
pieces_more w zero xs = ap (λ (k : ℕ). take w (drop k xs) ∷ []) (let q : 0 ≡ 0 * w = omega arith in q)
pieces_more w (suc n) xs =
    ap (λ (r : List (List ℕ)). take w xs ∷ r)
    (pieces_more w n (drop w xs)
    ∙ ap (λ (r : List ℕ). pieces w n (drop w xs) ++ take w r ∷ []) (drop-drop (n * w) w xs ∙ ap (λ (k : ℕ). drop k xs) (let q : w + n * w ≡ suc n * w = omega arith in q)))

-- they stay where the table is kept up to their end
pub pieces_kept : (w n : ℕ) (xs ys : List ℕ) → take (n * w) ys ≡ take (n * w) xs → pieces w n ys ≡ pieces w n xs
unfolding pieces
pieces_kept w zero xs ys e = refl
pieces_kept w (suc n) xs ys e =
    ap₂ ◌∷◌
    (take-kept xs ys (suc n * w) w e (omega arith))
    (pieces_kept w n (drop w xs) (drop w ys)
    (sym (slice-span w (n * w) ys) ∙ slice_kept xs ys (suc n * w) w (w + n * w) e (omega arith) ∙ slice-span w (n * w) xs))

-- ---- widths

module _ (v n : ℕ) where
  pub equal-more : (vs : List ℕ) → length vs ≡ n → equal (vs ++ v ∷ []) ≡ cond (eqb n 0) true (equal vs && eqb (get_or vs 0 0) v)
  unfolding equal all
  equal-more [] h = rw (eq-eqb n 0 (omega arith))
  equal-more (x ∷ vs) h = rw (ne_eqb n 0 (λ e. omega arith), all_split (eqb x) vs (v ∷ []), and-true (eqb x v))

  pub first_more : (vs : List ℕ) → length vs ≡ n → get_or (vs ++ v ∷ []) 0 0 ≡ cond (eqb n 0) v (get_or vs 0 0)
  first_more [] h = rw (eq-eqb n 0 (omega arith))
  first_more (x ∷ vs) h = rw (ne_eqb n 0 (λ e. omega arith))

same_rest : (w : ℕ) (vs : List ℕ) → all (eqb w) vs ≡ true → vs ≡ replicate (length vs) w
same_rest w [] e = refl
same_rest w (v ∷ vs) e = ap₂ ◌∷◌ (sym (eqb-true w v (all_first (eqb w) v vs e))) (same_rest w vs (all-later (eqb w) v vs e))

pub all_same : (w : ℕ) (vs : List ℕ) → equal vs ≡ true → get_or vs 0 0 ≡ w → vs ≡ replicate (length vs) w
unfolding equal
all_same w [] e h = refl
all_same w (v ∷ vs) e h = ap₂ ◌∷◌ h (same_rest w vs (rw h at e))
