-- Where each statement stands after those before it, no wire stands before the first module line.
-- Assumes nothing.
use Rattle.std.specs.Prelude.{ℕ, zero, suc, ◌≤◌, ◌<◌, ◌≡◌, refl, [], ◌∷◌, Bool, true, false, not, cond, ◌||◌, eqb, ltb}
use Rattle.std.proofs.Common.{sym, ap, ◌∙◌, arith, eqb-true, lt-ltb}
use Rattle.std.proofs.Math.Bool.{or-false}
use Rattle.rules.specs.Bytes.{any, all}
use Rattle.rules.specs.Statements.{Statement, a_wire, is, code, contents, statements_open}
use Rattle.rules.specs.Shapes.{Scope, top, in_module, in_cell, in_process, in_tail, in_sync, in_switch, in_case}
use Rattle.rules.specs.Judgement.{Past, sum, count, among, outer, behind_step, scope, context}
use Rattle.context.specs.Forms.{by_form}
use Rattle.admitted.specs.Admitted.{kinds, stands}
use Rattle.admitted.specs.CountLaws.{Standing, none-stand, one-stands, context-scope, among-test, stands-kind}
use Rattle.modules.specs.Modules.{module_count, Headed, none-headed, one-headed}

-- 1 inside a module
unfoldable inside : Scope → ℕ
inside top = 0
inside in_module = 1
inside in_cell = 1
inside in_process = 1
inside in_tail = 1
inside in_sync = 1
inside (in_switch k) = 1
inside (in_case k) = 1

inside-le : (z : Scope) → inside z ≤ 1
unfolding inside
inside-le top = omega arith
inside-le in_module = omega arith
inside-le in_cell = omega arith
inside-le in_process = omega arith
inside-le in_tail = omega arith
inside-le in_sync = omega arith
inside-le (in_switch k) = omega arith
inside-le (in_case k) = omega arith

outer-le : (z : Scope) → inside (outer z) ≤ inside z
unfolding outer inside
outer-le top = omega arith
outer-le in_module = omega arith
outer-le in_cell = omega arith
outer-le in_process = omega arith
outer-le in_tail = omega arith
outer-le in_sync = omega arith
outer-le (in_switch zero) = omega arith
outer-le (in_switch (suc k)) = omega arith
outer-le (in_case zero) = omega arith
outer-le (in_case (suc k)) = omega arith

-- only autoidx, attributes and module lines, whose codes are lowest, stand outside
abbrev fits_in : Scope → ℕ → Bool
fits_in z n = eqb (inside z) 1 || not (ltb 3 n)

inner-kinds : (z : Scope) (first attributed : Bool) → all (λ k. fits_in z (code k)) (kinds z first attributed) ≡ true
unfolding all kinds code inside
inner-kinds top true a = refl
inner-kinds top false a = refl
inner-kinds in_module f true = refl
inner-kinds in_module f false = refl
inner-kinds in_cell f a = refl
inner-kinds in_process f true = refl
inner-kinds in_process f false = refl
inner-kinds in_tail f a = refl
inner-kinds in_sync f a = refl
inner-kinds (in_switch k) f true = refl
inner-kinds (in_switch k) f false = refl
inner-kinds (in_case k) f true = refl
inner-kinds (in_case k) f false = refl

stands-inside : (ss : Past) (s : Statement) → stands ss s ≡ true → 3 < code (contents s).kind → inside (scope ss) ≡ 1
unfolding stands
stands-inside ss s e h =
    let z = context ss in
    let q : fits_in z.scope (code (contents s).kind) ≡ true =
    among-test (fits_in z.scope) _ s (inner-kinds z.scope z.first z.attributed) (stands-kind z.scope z.first z.attributed s e) in
    ap inside (sym (context-scope ss)) ∙ eqb-true (inside z.scope) 1 (rw (lt-ltb 3 (code (contents s).kind) h, or-false) at q)

-- so a module was opened
headed-one : (s : Statement) (ss : Past) → inside (scope ss) ≤ module_count ss → (3 < code (contents s).kind → inside (scope ss) ≡ 1) → inside (scope (s ∷ ss)) ≤ module_count (s ∷ ss)
unfolding scope inside sum count among any statements_open
headed-one s ss i =
    let z = scope ss in
    by_form (λ s. (3 < code (contents s).kind → inside z ≡ 1) → inside (scope (s ∷ ss)) ≤ module_count (s ∷ ss))
    (λ x h. omega (arith, i)) (λ n c h. omega (arith, i)) (λ n h. omega arith) (λ n c h. omega (arith, i)) (λ w n h. omega (arith, i)) (λ m n h. omega (arith, i)) (λ t n h. omega (arith, i, h (omega arith)))
    (λ o n c h. omega (arith, i)) (λ n x h. omega (arith, i)) (λ x y h. omega (arith, i)) (λ n h. omega (arith, i, h (omega arith)))
    (λ p xs h. omega (arith, i, h (omega arith), inside-le (behind_step z p))) (λ h. omega (arith, i, outer-le z)) s

scope-headed : (ss : Past) → Standing ss → inside (scope ss) ≤ module_count ss
unfolding scope inside
scope-headed [] none-stand = omega arith
scope-headed (s ∷ ss) (one-stands e h) = headed-one s ss (scope-headed ss h) (stands-inside ss s e)

pub standing-headed : {ss : Past} → Standing ss → Headed ss
unfolding is code
standing-headed none-stand = none-headed
standing-headed (one-stands {s} {ss} e h) =
    let p : is a_wire s ≡ true → 0 < module_count ss =
    λ w. omega (arith, scope-headed ss h, stands-inside ss s e (omega (arith, eqb-true 5 (code (contents s).kind) w))) in
    one-headed p (standing-headed h)
