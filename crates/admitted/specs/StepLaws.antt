-- A step among others is one of them, so a test that these pass it passes too.
-- Assumes nothing.
use Rattle.std.specs.Prelude.{ℕ, ◌≡◌, refl, List, [], ◌∷◌, Bool, true, cond, eqb}
use Rattle.std.proofs.Common.{sym, ap, ◌∙◌, eqb-true}
use Rattle.rules.specs.Bytes.{any, all}
use Rattle.rules.specs.Statements.{Step, assign, update, switch, case, low, high, posedge, negedge, edge, global, init, always, step_code}
use Rattle.lists.specs.Tests.{by-test, and-true-left, and-true-right}
use Rattle.admitted.specs.Admitted.{same_step}

-- the step of a code
unfoldable step_of : ℕ → Step
step_of n =
    cond (eqb n 19) assign
    (cond (eqb n 20) switch
    (cond (eqb n 21) case
    (cond (eqb n 23) global
    (cond (eqb n 24) init
    (cond (eqb n 25) always
    (cond (eqb n 26) low
    (cond (eqb n 27) high
    (cond (eqb n 28) posedge
    (cond (eqb n 29) negedge
    (cond (eqb n 30) edge update))))))))))

step_back : (p : Step) → step_of (step_code p) ≡ p
unfolding step_of step_code
step_back assign = refl
step_back update = refl
step_back switch = refl
step_back case = refl
step_back low = refl
step_back high = refl
step_back posedge = refl
step_back negedge = refl
step_back edge = refl
step_back global = refl
step_back init = refl
step_back always = refl

pub same_step_lem : (p q : Step) → same_step p q ≡ true → p ≡ q
unfolding same_step
same_step_lem p q e = sym (step_back p) ∙ ap step_of (eqb-true (step_code p) (step_code q) e) ∙ step_back q

pub step-among : (g : Step → Bool) (ps : List Step) (p : Step) → all g ps ≡ true → any (same_step p) ps ≡ true → g p ≡ true
unfolding all any
step-among g [] p h e = cc
step-among g (q ∷ ps) p h e =
    by-test (same_step p q)
    (λ t. rw (same_step_lem p q t) (and-true-left (g q) _ h))
    (λ t. step-among g ps p (and-true-right (g q) _ h) (rw t at e))
