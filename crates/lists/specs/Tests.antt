-- Laws of tests: what holds of a choice, proofs by a test's answers and by the order of two numbers.
-- Assumes nothing.
use Rattle.std.specs.Prelude.{◌≡◌, refl, Bool, true, false, cond, ◌&&◌, ◌||◌, ℕ, ◌<◌, ◌≤◌, eqb, leb, ltb}
use Rattle.std.proofs.Common.{sym, ◌∙◌, arith, eq-eqb, ne_eqb, eqb-true, leb-true, leb-false, ltb-true, ltb-false}
use Rattle.std.proofs.lemmas.Bool.{false≢true, eqb-false}

-- what holds of both branches, each under its test, holds of the choice
pub by_cond : {A : Type 0} (P : A → Type 0) (b : Bool) {x y : A} → (b ≡ true → P x) → (b ≡ false → P y) → P (cond b x y)
by_cond P true f g = f refl
by_cond P false f g = g refl

-- a proof by the two answers of a test
pub by-test : {P : Type 0} (b : Bool) → (b ≡ true → P) → (b ≡ false → P) → P
by-test true f g = f refl
by-test false f g = g refl

pub and-true-left : (a b : Bool) → a && b ≡ true → a ≡ true
and-true-left true b e = refl
and-true-left false b e = e

pub and-true-right : (a b : Bool) → a && b ≡ true → b ≡ true
and-true-right true b e = e
and-true-right false b e = absurd (false≢true e)

pub or-true-left : (a b : Bool) → a ≡ true → a || b ≡ true
or-true-left true b e = refl
or-true-left false b e = absurd (false≢true e)

pub or_true_right : (a b : Bool) → b ≡ true → a || b ≡ true
or_true_right true b e = refl
or_true_right false b e = e

pub or-false-left : (a b : Bool) → a || b ≡ false → a ≡ false
or-false-left true b e = e
or-false-left false b e = refl

pub or-false-right : (a b : Bool) → a || b ≡ false → b ≡ false
or-false-right true b e = absurd (false≢true (sym e))
or-false-right false b e = e

-- no test has both answers
pub never : {P : Type 0} (b : Bool) → b ≡ true → b ≡ false → P
never b e f = absurd (false≢true (sym f ∙ e))

pub eqb-sym : (m n : ℕ) → eqb m n ≡ eqb n m
eqb-sym m n =
    by-test (eqb m n)
    (λ e. e ∙ sym (eq-eqb n m (sym (eqb-true m n e))))
    (λ e. e ∙ sym (ne_eqb n m (λ q. eqb-false m n e (sym q))))

pub cond-le : (b : Bool) (n : ℕ) → cond b n 0 ≤ n
cond-le true n = omega arith
cond-le false n = omega arith

-- by the order of two numbers: of a choice that tests it, and of any proof
pub by_le : {A : Type 0} (P : A → Type 0) (m n : ℕ) {x y : A} → (m ≤ n → P x) → (n < m → P y) → P (cond (leb m n) x y)
by_le P m n f g = by_cond P (leb m n) (λ e. f (leb-true m n e)) (λ e. g (leb-false m n e))

pub by-lt : {A : Type 0} (P : A → Type 0) (m n : ℕ) {x y : A} → (m < n → P x) → (n ≤ m → P y) → P (cond (ltb m n) x y)
by-lt P m n f g = by_cond P (ltb m n) (λ e. f (ltb-true m n e)) (λ e. g (ltb-false m n e))

pub by_order : {P : Type 0} (m n : ℕ) → (m ≤ n → P) → (n < m → P) → P
by_order m n f g = by-test (leb m n) (λ e. f (leb-true m n e)) (λ e. g (leb-false m n e))
