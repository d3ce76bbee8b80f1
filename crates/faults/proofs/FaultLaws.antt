-- Refusal numbers of parts, and how they merge.
-- Assumes nothing.
use mathlib.Core.Path.{◌≡◌, refl, sym, ap, ap₂, ◌∙◌}
use mathlib.Core.Bool.{Bool, true, false, not, cond, ◌&&◌, ◌||◌, and-true, and-false, or-true}
use mathlib.Core.List.{List, [], ◌∷◌, ◌++◌}
use mathlib.Core.Option.{get_or}
use Prim.Native.Nat.{ℕ, ◌<◌, ◌≤◌}
use native.Mathlib.Omega.{arith}
use lib.Dec.{eqb, leb, ltb}
use borrow.Author.Tests.{lt-leb, le-leb, lt-ltb, le-ltb, ltb-true, ltb-false, ne_eqb, eqb-true, eqb-false}
use Rattle.rules.specs.Bytes.{all}
use Rattle.rules.specs.Statements.{Sig}
use Rattle.rules.specs.Signals.{Wires, width, declared_wire, good_slice}
use Rattle.rules.specs.Numbers.{good_numbers}
use Rattle.rules.specs.Judgement.{lowest}
use Rattle.lists.specs.Tests.{by_cond, by-test, never, by_order}
use Rattle.lists.specs.Elements.{all_split}
use Rattle.faults.specs.Faults.{faults, merge, too_wide, mild}

-- ---- merge

pub merge_none : (a : ℕ) → merge a 0 ≡ a
unfolding merge
merge_none a = by-test (eqb a 0) (λ e. rw e (sym (eqb-true a 0 e))) (λ e. rw e)

pub merge_low : (a b : ℕ) → 0 < a → a ≤ b → merge a b ≡ a
unfolding merge
merge_low a b h l =
    rw (ne_eqb a 0 (λ e. omega arith), ne_eqb b 0 (λ e. omega arith)) (by_cond (λ (x : ℕ). x ≡ a) (ltb a b) (λ e. refl) (λ e. omega (arith, ltb-false a b e)))

-- what holds of merge in each of its four cases holds of it
pub by-merge : (P : ℕ → Type 0) (a b : ℕ) → (a ≡ 0 → P b) → (b ≡ 0 → P a) → (0 < a → a < b → P a) → (0 < b → b ≤ a → P b) → P (merge a b)
unfolding merge
by-merge P a b p q r s =
    by_cond P (eqb a 0) (λ e. p (eqb-true a 0 e))
    (λ e. by_cond P (eqb b 0) (λ g. q (eqb-true b 0 g))
    (λ g. by_cond P (ltb a b) (λ l. r (omega (arith, ltb-true a b l, eqb-false a 0 e)) (ltb-true a b l))
    (λ l. s (omega (arith, eqb-false b 0 g)) (ltb-false a b l))))

pub merge-zero : (a b : ℕ) → merge a b ≡ 0 → (a ≡ 0) × (b ≡ 0)
merge-zero a b =
    by-merge (λ (x : ℕ). x ≡ 0 → (a ≡ 0) × (b ≡ 0)) a b
    (λ h e. (h, e)) (λ h e. (e, h)) (λ h l e. absurd (omega arith)) (λ h l e. absurd (omega arith))

-- ---- numbers that leave a signal its width

pub mild-over : (n : ℕ) → 10 < n → mild n ≡ true
unfolding mild
mild-over n h = rw (lt-ltb 10 n h) (or-true (eqb n 0))

pub mild-not : (n : ℕ) → 0 < n → n ≤ 10 → mild n ≡ false
unfolding mild
mild-not n h l = rw (ne_eqb n 0 (λ e. omega arith), le-ltb 10 n l)

pub mild-none : (n : ℕ) → n ≡ 0 → mild n ≡ true
unfolding mild
mild-none n e = rw e

pub not-mild : (n : ℕ) → mild n ≡ false → (0 < n) × (n ≤ 10)
not-mild n e =
    by-test (eqb n 0) (λ h. never (mild n) (mild-none n (eqb-true n 0 h)) e)
    (λ h. by_order n 10 (λ l. (omega (arith, eqb-false n 0 h), l)) (λ l. never (mild n) (mild-over n l) e))

pub mild-merge : (a b : ℕ) → mild (merge a b) ≡ mild a && mild b
mild-merge a b =
    by-merge (λ (x : ℕ). mild x ≡ mild a && mild b) a b
    (λ e. rw (mild-none a e))
    (λ e. rw (mild-none b e) (sym (and-true (mild a))))
    (λ h l. by_order a 10 (λ t. rw (mild-not a h t)) (λ t. rw (mild-over b (omega arith)) (sym (and-true (mild a)))))
    (λ h l. by_order b 10 (λ t. rw (mild-not b h t) (sym (and-false (mild a)))) (λ t. rw (mild-over a (omega arith))))

-- with a number that is not mild, whatever comes from 10 on doesn't matter
pub late-merge : (x y f : ℕ) → (0 < x → 10 ≤ x) → (0 < y → 10 ≤ y) → (mild f ≡ true → x ≡ y) → merge x f ≡ merge y f
late-merge x y f hx hy e =
    by-test (mild f) (λ t. ap (λ (n : ℕ). merge n f) (e t))
    (λ t. let m = not-mild f t in keeps x hx m.0 m.1 ∙ sym (keeps y hy m.0 m.1))
  where
    keeps : (z : ℕ) → (0 < z → 10 ≤ z) → 0 < f → f ≤ 10 → merge z f ≡ f
    keeps z h p q = by-merge (λ (n : ℕ). n ≡ f) z f (λ g. refl) (λ g. absurd (omega arith)) (λ g l. let k : 10 ≤ z = h g in absurd (omega arith)) (λ g l. refl)

pub too-wide-late : (w : ℕ) → 0 < too_wide w → 10 ≤ too_wide w
unfolding too_wide
too-wide-late w = by_cond (λ (x : ℕ). 0 < x → 10 ≤ x) (ltb 2048 w) (λ e h. omega arith) (λ e h. absurd (omega arith))

-- no number of a width and another: the width is small, and the other is none
pub wide-zero : (w f n : ℕ) → n ≡ merge (too_wide w) f → n ≡ 0 → (w ≤ 2048) × (f ≡ 0)
unfolding too_wide
wide-zero w f n q e =
    let z = merge-zero (too_wide w) f (sym q ∙ e) in
    (by-test (ltb 2048 w) (λ t. let z : 11 ≡ 0 = rw t at z.0 in absurd (omega arith)) (λ t. ltb-false 2048 w t), z.1)

-- ---- the numbers of parts

-- the first of four tests that holds
unfoldable pub numbered : (a b c d : Bool) → ℕ
numbered a b c d = cond a 7 (cond b 8 (cond c 10 (cond d 11 0)))

lowest-is : (a b c d : Bool) → get_or (lowest ((7, a) ∷ (8, b) ∷ (10, c) ∷ (11, d) ∷ [])) 0 ≡ numbered a b c d
unfolding lowest numbered
lowest-is true b c d = refl
lowest-is false true c d = refl
lowest-is false false true d = refl
lowest-is false false false true = refl
lowest-is false false false false = refl

-- one test more in front: those behind have higher numbers
pub merge-front : (n : ℕ) (a a' : Bool) (x y : ℕ) → 0 < n → (0 < x → n ≤ x) → (0 < y → n ≤ y) → merge (cond a n x) (cond a' n y) ≡ cond (a || a') n (merge x y)
merge-front n true true x y h p q = merge_low n n h (omega arith)
merge-front n true false x y h p q = by-merge (λ (z : ℕ). z ≡ n) n y (λ e. absurd (omega arith)) (λ e. refl) (λ k l. refl) (λ k l. let m : n ≤ y = q k in omega arith)
merge-front n false true x y h p q = by-merge (λ (z : ℕ). z ≡ n) x n (λ e. refl) (λ e. absurd (omega arith)) (λ k l. let m : n ≤ x = p k in absurd (omega arith)) (λ k l. refl)
merge-front n false false x y h p q = refl

pub from : (n m : ℕ) (a : Bool) (x : ℕ) → n ≤ m → (0 < x → n ≤ x) → 0 < cond a m x → n ≤ cond a m x
from n m true x h p l = h
from n m false x h p l = p l

none_from : (n : ℕ) → 0 < 0 → n ≤ 0
none_from n h = absurd (omega arith)

merge-numbered : (a b c d a' b' c' d' : Bool) → merge (numbered a b c d) (numbered a' b' c' d') ≡ numbered (a || a') (b || b') (c || c') (d || d')
unfolding numbered merge
merge-numbered a b c d a' b' c' d' =
    let f11 : (n : ℕ) (x : Bool) → n ≤ 11 → 0 < cond x 11 0 → n ≤ cond x 11 0 = λ n x h. from n 11 x 0 h (none_from n) in
    let f10 : (n : ℕ) (x y : Bool) → n ≤ 10 → 0 < cond x 10 (cond y 11 0) → n ≤ cond x 10 (cond y 11 0) = λ n x y h. from n 10 x (cond y 11 0) h (f11 n y (omega arith)) in
    let f8 : (x y z : Bool) → 0 < cond x 8 (cond y 10 (cond z 11 0)) → 7 ≤ cond x 8 (cond y 10 (cond z 11 0)) = λ x y z. from 7 8 x (cond y 10 (cond z 11 0)) (omega arith) (f10 7 y z (omega arith)) in
    merge-front 7 a a' _ _ (omega arith) (f8 b c d) (f8 b' c' d')
    ∙ ap (cond (a || a') 7)
    (merge-front 8 b b' _ _ (omega arith) (f10 8 c d (omega arith)) (f10 8 c' d' (omega arith))
    ∙ ap (cond (b || b') 8)
    (merge-front 10 c c' _ _ (omega arith) (f11 10 d (omega arith)) (f11 10 d' (omega arith))
    ∙ ap (cond (c || c') 10) (merge-front 11 d d' 0 0 (omega arith) (none_from 11) (none_from 11))))

not-and : (a b : Bool) → not (a && b) ≡ (not a || not b)
not-and true b = refl
not-and false b = refl

not-all : (f : Sig → Bool) (xs ys : List Sig) → not (all f (xs ++ ys)) ≡ (not (all f xs) || not (all f ys))
not-all f xs ys = ap not (all_split f xs ys) ∙ not-and (all f xs) (all f ys)

module _ (ws : Wires) where
  faults-are : (ps : List Sig) → faults ws ps ≡ numbered (not (all good_numbers ps)) (not (all (declared_wire ws) ps)) (not (all (good_slice ws) ps)) (not (all (λ p. leb (width ws p) 2048) ps))
  unfolding faults
  faults-are ps = lowest-is _ _ _ _

  -- parts behind one another
  pub faults-append : (xs ys : List Sig) → faults ws (xs ++ ys) ≡ merge (faults ws xs) (faults ws ys)
  faults-append xs ys =
      faults-are (xs ++ ys)
      ∙ rw (not-all good_numbers xs ys, not-all (declared_wire ws) xs ys, not-all (good_slice ws) xs ys, not-all (λ p. leb (width ws p) 2048) xs ys)
      (sym (ap₂ merge (faults-are xs) (faults-are ys) ∙ merge-numbered _ _ _ _ _ _ _ _))

  pub faults-none : faults ws [] ≡ 0
  unfolding faults lowest all
  faults-none = refl

  -- one part in front
  pub faults-front : (p : Sig) (ps : List Sig) → faults ws (p ∷ ps) ≡ merge (faults ws (p ∷ [])) (faults ws ps)
  faults-front p ps = faults-append (p ∷ []) ps

  pub faults-one : (p : Sig) → faults ws (p ∷ []) ≡ numbered (not (good_numbers p)) (not (declared_wire ws p)) (not (good_slice ws p)) (not (leb (width ws p) 2048))
  unfolding all
  faults-one p = faults-are (p ∷ []) ∙ rw (and-true (good_numbers p), and-true (declared_wire ws p), and-true (good_slice ws p), and-true (leb (width ws p) 2048))

  -- one part by the first rule that it breaks
  pub own-number : (p : Sig) → good_numbers p ≡ false → faults ws (p ∷ []) ≡ 7
  unfolding numbered
  own-number p e = faults-one p ∙ rw e

  module _ (p : Sig) (good : good_numbers p ≡ true) where
    pub own-wire : declared_wire ws p ≡ false → faults ws (p ∷ []) ≡ 8
    unfolding numbered
    own-wire e = faults-one p ∙ rw (good, e)

    module _ (there : declared_wire ws p ≡ true) where
      pub own-slice : good_slice ws p ≡ false → faults ws (p ∷ []) ≡ 10
      unfolding numbered
      own-slice e = faults-one p ∙ rw (good, there, e)

      pub own-width : good_slice ws p ≡ true → faults ws (p ∷ []) ≡ too_wide (width ws p)
      unfolding numbered too_wide
      own-width e =
          faults-one p
          ∙ rw (good, there, e)
          (by-test (ltb 2048 (width ws p)) (λ t. rw (t, lt-leb (width ws p) 2048 (ltb-true 2048 (width ws p) t))) (λ t. rw (t, le-leb (width ws p) 2048 (ltb-false 2048 (width ws p) t))))
