-- The statements of a module, from the statements so far: those since its line, as they stood at its end.
-- Assumes nothing.
use Rattle.std.specs.Prelude.{ℕ, suc, ◌+◌, ◌-◌, ◌≤◌, ◌<◌, ◌≡◌, refl, true, false, length, get_or}
use Rattle.std.proofs.Common.{sym, ap, ◌∙◌, arith}
use mathlib.Core.List.{List, [], ◌∷◌, ◌++◌, reverse, reverse_aux, append_assoc}
use Rattle.rules.specs.Bytes.{any}
use Rattle.rules.specs.Statements.{Statement, a_module, is}
use Rattle.rules.specs.Judgement.{Past, until, sum, among, count, of_module}
use Rattle.lists.specs.Tests.{by-test, by_le}
use Rattle.modules.specs.Modules.{modules_in, statements_of, module_count, up_to}

module _ (s : Statement) (ss : Past) where
  pub module-counts : is a_module s ≡ true → module_count (s ∷ ss) ≡ suc (module_count ss)
  unfolding sum count among any
  module-counts e = rw e (omega arith)

  pub other-counts : is a_module s ≡ false → module_count (s ∷ ss) ≡ module_count ss
  unfolding sum count among any
  other-counts e = rw e (omega arith)

  pub count-step : (module_count ss ≤ module_count (s ∷ ss)) × (module_count (s ∷ ss) ≤ suc (module_count ss))
  count-step =
      by-test (is a_module s) (λ e. (omega (arith, module-counts e), omega (arith, module-counts e))) (λ e. (omega (arith, other-counts e), omega (arith, other-counts e)))

  -- what stands since the module line
  pub module-first : is a_module s ≡ true → of_module (s ∷ ss) ≡ []
  unfolding of_module until
  module-first e = rw e

  pub module-more : is a_module s ≡ false → of_module (s ∷ ss) ≡ s ∷ of_module ss
  unfolding of_module until
  module-more e = rw e

-- THE MODULES BEHIND THE STATEMENTS SO FAR are numbered on
module _ (s : Statement) (rs : List Statement) where
  first-module : is a_module s ≡ true → modules_in (s ∷ rs) ≡ until (is a_module) rs ∷ modules_in rs
  unfolding modules_in
  first-module e = rw e

  no-module-yet : is a_module s ≡ false → modules_in (s ∷ rs) ≡ modules_in rs
  unfolding modules_in
  no-module-yet e = rw e

behind-modules : (ps : Past) (rs : List Statement) (j n : ℕ) → n ≡ module_count ps + j → get_or (modules_in (reverse_aux ps rs)) n [] ≡ get_or (modules_in rs) j []
unfolding sum
behind-modules [] rs j n e = let h : n ≡ j = omega arith in rw h
behind-modules (s ∷ ps) rs j n e =
    by-test (is a_module s)
    (λ h. behind-modules ps (s ∷ rs) (suc j) n (omega (arith, module-counts s ps h)) ∙ rw (first-module s rs h))
    (λ h. behind-modules ps (s ∷ rs) j n (omega (arith, other-counts s ps h)) ∙ rw (no-module-yet s rs h))

until-first : (s : Statement) (rs : List Statement) → is a_module s ≡ true → until (is a_module) (s ∷ rs) ≡ []
unfolding until
until-first s rs e = rw e

pub none-counts : module_count [] ≡ 0
unfolding sum
none-counts = refl

-- the module that stands open, with what is behind
pub module-open : (ps : Past) (rs : List Statement) (m : ℕ) → module_count ps ≡ suc m → statements_of m (reverse_aux ps rs) ≡ reverse_aux (of_module ps) (until (is a_module) rs)
unfolding sum statements_of of_module until
module-open [] rs m e = absurd (omega arith)
module-open (s ∷ ps) rs m e =
    by-test (is a_module s)
    (λ h. rw h (behind-modules ps (s ∷ rs) 0 m (omega (arith, module-counts s ps h)) ∙ rw (first-module s rs h)))
    (λ h. module-open ps (s ∷ rs) m (sym (other-counts s ps h) ∙ e) ∙ rw h)

-- no module is there without a statement
pub none_below : {P : Type 0} {m : ℕ} → m < module_count [] → P
none_below h = absurd (let z : module_count [] ≡ 0 = none-counts in omega arith)

-- THE STATEMENTS UP TO A MODULE'S END: all of them, if no module is behind it; else those before the last
pub up-to-by :
    (P : Past → Type 0) (m : ℕ) (s : Statement) (ss : Past) → (module_count (s ∷ ss) ≤ suc m → P (s ∷ ss)) → (suc m < module_count (s ∷ ss) → P (up_to m ss)) →
    P (up_to m (s ∷ ss))
unfolding up_to
up-to-by P m s ss = by_le P (module_count (s ∷ ss)) (suc m)

-- the module of a number: those since its line, as they stood at its end
module-back :
    (ss : Past) (rs : List Statement) (m : ℕ) → m < module_count ss → (module_count ss ≤ suc m → until (is a_module) rs ≡ []) →
    statements_of m (reverse_aux ss rs) ≡ reverse (of_module (up_to m ss))
module-back [] rs m h l = none_below h
module-back (s ∷ ss) rs m h l =
    up-to-by (λ qs. statements_of m (reverse_aux (s ∷ ss) rs) ≡ reverse (of_module qs)) m s ss
    (λ b. module-open (s ∷ ss) rs m (omega arith) ∙ ap (reverse_aux (of_module (s ∷ ss))) (l b))
    (λ b. by-test (is a_module s)
    (λ q. module-back ss (s ∷ rs) m (omega (arith, module-counts s ss q)) (λ t. until-first s rs q))
    (λ q. module-back ss (s ∷ rs) m (omega (arith, other-counts s ss q)) (λ t. absurd (omega (arith, other-counts s ss q)))))

pub module-past : (ss : Past) (m : ℕ) → m < module_count ss → statements_of m (reverse ss) ≡ reverse (of_module (up_to m ss))
unfolding until
module-past ss m h = module-back ss [] m h (λ l. refl)

pub no-module : (ss : Past) (m : ℕ) → module_count ss ≤ m → statements_of m (reverse ss) ≡ []
unfolding statements_of modules_in
no-module ss m h = behind-modules ss [] (m - module_count ss) m (omega arith)

pub up-to-all : (m : ℕ) (ss : Past) → module_count ss ≤ suc m → up_to m ss ≡ ss
unfolding up_to
up-to-all m [] h = refl
up-to-all m (s ∷ ss) h = up-to-by (λ qs. qs ≡ s ∷ ss) m s ss (λ b. refl) (λ b. absurd (omega arith))

pub up-to-back : (m : ℕ) (s : Statement) (ss : Past) → suc m < module_count (s ∷ ss) → up_to m (s ∷ ss) ≡ up_to m ss
up-to-back m s ss h = up-to-by (λ qs. qs ≡ up_to m ss) m s ss (λ b. absurd (omega arith)) (λ b. refl)

-- what holds of the statements so far, and so of those before the last, holds of them
pub up-to-holds : (P : Past → Type 0) → ((s : Statement) (ss : Past) → P (s ∷ ss) → P ss) → (m : ℕ) (ss : Past) → P ss → P (up_to m ss)
unfolding up_to
up-to-holds P back m [] p = p
up-to-holds P back m (s ∷ ss) p = up-to-by P m s ss (λ b. p) (λ b. up-to-holds P back m ss (back s ss p))

pub up-to-le : (m : ℕ) (ss : Past) → length (up_to m ss) ≤ length ss
up-to-le m ss = up-to-holds (λ qs. length qs ≤ length ss) (λ s qs h. omega arith) m ss (omega arith)

-- with what is behind, they are all
pub up-to-split : (m : ℕ) (ss : Past) → (xs : Past) × (ss ≡ xs ++ up_to m ss)
up-to-split m ss = up-to-holds (λ qs. (xs : Past) × (ss ≡ xs ++ qs)) (λ s qs p. (p.0 ++ s ∷ [], p.1 ∙ sym (append_assoc p.0 (s ∷ []) qs))) m ss ([], refl)

pub up-to-count : (m : ℕ) (ss : Past) → m < module_count ss → module_count (up_to m ss) ≡ suc m
up-to-count m [] h = none_below h
up-to-count m (s ∷ ss) h =
    up-to-by (λ qs. module_count qs ≡ suc m) m s ss (λ b. omega arith) (λ b. up-to-count m ss (omega (arith, count-step s ss)))
