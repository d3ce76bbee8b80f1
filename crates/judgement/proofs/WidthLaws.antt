-- Signals of one width, held against what their step asks.
-- Assumes nothing.
use Prim.Native.Nat.{ℕ, zero, suc}
use Rattle.std.specs.Prelude.{Option as Optional, Some, None}
use mathlib.Core.Path.{◌≡◌, refl, sym, ap, ◌∙◌}
use mathlib.Core.Bool.{Bool, true, false, cond, ◌||◌}
use mathlib.Core.List.{List, [], ◌∷◌, ◌++◌, map, flat_map, Option-to_list}
use mathlib.Core.Option.{Option, none, some}
use native.Mathlib.Omega.{arith}
use borrow.Author.Tests.{eqb-true, eqb-false, eq-eqb, ne_eqb}
use lib.Dec.{eqb}
use lib.ListN.{length, take, replicate}
use Rattle.rules.specs.Bytes.{all}
use Rattle.rules.specs.Statements.{Signal, Step, assign, update, switch, case, low, high, posedge, negedge, edge, global, init, always, step_code}
use Rattle.rules.specs.Judgement.{Past, equal, step_widths, switches}
use Rattle.lists.specs.Tests.{by-test, or-false-left, or-false-right, never}
use Rattle.context.specs.declared.place.Place.{Place}
use Rattle.netlist.specs.Steps.{step_named}
use Rattle.netlist.specs.StepLaws.{by-named}
use Rattle.steps.specs.Steps.{widths, AskedIs}
use Rattle.judgement.specs.Parts.{Coded, uneven_in, UnevenIs}

-- ---- the code of a step by its name

named-code : (t : ℕ) (q : Step) → step_named t ≡ some q → step_code q ≡ t
named-code t q =
    by-named t (λ o. o ≡ some q → step_code q ≡ t) (λ h. let z : ◌≡◌ {A = ℕ} 0 1 = cc in absurd (omega arith))
    (λ p e h. let same : p ≡ q = cc in ap step_code (sym same) ∙ e)

-- ---- equal widths

all_same : (v w n : ℕ) → eqb v w ≡ true → all (eqb v) (replicate n w) ≡ true
unfolding all
all_same v w zero e = refl
all_same v w (suc n) e = rw e (all_same v w n e)

all-other : (v w n : ℕ) → eqb v w ≡ false → (n ≡ 0 → ⊥) → all (eqb v) (replicate n w) ≡ false
unfolding all
all-other v w zero e h = absurd (h refl)
all-other v w (suc n) e h = rw e

equal-same : (n w : ℕ) → equal (replicate n w) ≡ true
unfolding equal
equal-same zero w = refl
equal-same (suc n) w = all_same w w n (eq-eqb w w refl)

-- a step asks for one width at most
few-open : (xs : List Signal) → equal ((map length (take 1 xs) ++ []) ++ []) ≡ true
unfolding equal all
few-open [] = refl
few-open (x ∷ xs) = refl

few-asked : (ss : Past) (p : Step) → equal ((step_widths ss p ++ []) ++ []) ≡ true
unfolding equal all step_widths
few-asked ss assign = refl
few-asked ss update = refl
few-asked ss switch = refl
few-asked ss case = few-open (switches ss)
few-asked ss low = refl
few-asked ss high = refl
few-asked ss posedge = refl
few-asked ss negedge = refl
few-asked ss edge = refl
few-asked ss global = refl
few-asked ss init = refl
few-asked ss always = refl

few-widths : (ss : Past) (o : Option Step) → equal (flat_map (step_widths ss) (Option-to_list o) ++ []) ≡ true
unfolding flat_map Option-to_list equal
few-widths ss none = refl
few-widths ss (some p) = few-asked ss p

-- ---- the verdicts on the widths

module _ (rows : List ℕ) (place : Place) (t w n : ℕ) where
  pub nothing-asked : (eqb t 0 || eqb n 0) ≡ true → UnevenIs rows place t w n 0
  unfolding uneven_in step_named flat_map Option-to_list
  nothing-asked e names ss l o ep =
      by-test (eqb n 0)
      (λ z. rw (eqb-true n 0 z, few-widths ss (step_named t)))
      (λ z. let q : t ≡ 0 = by-test (eqb t 0) (eqb-true t 0) (λ y. never (eqb t 0 || eqb n 0) e (rw (y, z))) in rw (q, equal-same n w))

  module _ (coded : Coded t) (h : (eqb t 0 || eqb n 0) ≡ false) where
    -- the width that the step asks for, in the rules' words
    asked-are : (r : Optional ℕ) → AskedIs rows place t r → {b : Bool} → equal ((widths r ++ []) ++ replicate n w) ≡ b → UnevenIs rows place t w n (cond b 0 10)
    unfolding uneven_in flat_map Option-to_list
    asked-are r A e names ss l o ep =
        let q = coded (eqb-false t 0 (or-false-left (eqb t 0) (eqb n 0) h)) in
        rw (q.1, A names ss q.0 l o ep (named-code t q.0 q.1), e)

    pub any_width : AskedIs rows place t None → UnevenIs rows place t w n 0
    unfolding widths
    any_width A = asked-are None A (equal-same n w)

    module _ (v : ℕ) (A : AskedIs rows place t (Some v)) where
      pub same_width : v ≡ w → UnevenIs rows place t w n 0
      unfolding widths equal
      same_width e = asked-are (Some v) A (all_same v w n (eq-eqb v w e))

      pub other_width : (v ≡ w → ⊥) → UnevenIs rows place t w n 10
      unfolding widths equal
      other_width e = asked-are (Some v) A (all-other v w n (ne_eqb v w e) (eqb-false n 0 (or-false-right (eqb t 0) (eqb n 0) h)))
