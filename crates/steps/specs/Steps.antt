-- The steps of a process by their codes: how many signals each has, where it may stand, and how wide its signals have to be, as the rows before it tell.
use Rattle.std.specs.Prelude.{ℕ, zero, suc, ◌+◌, ◌-◌, ◌≡◌, List, [], ◌∷◌, Bool, true, cond, ◌&&◌, eqb, Option, Some, None}
use Rattle.rules.specs.Bytes.{any}
use Rattle.rules.specs.Statements.{Statement, Signal, Step, switch, step_code, contents, end_kind, step_kind, switch_step}
use Rattle.rules.specs.Judgement.{Past, steps, step_widths}
use Rattle.admitted.specs.Admitted.{steps_in, arity}
use Rattle.context.specs.Place.{place_of, scope_of}
use Rattle.context.specs.declared.place.Place.{Place}
use Rattle.wires.specs.Rows.{column}
use Rattle.netlist.specs.Rows.{kind_at}
use Rattle.netlist.specs.Laid.{rooms_of, Laid}

-- whether a code is that of one of some steps
unfoldable pub of_steps : ℕ → List Step → Bool
of_steps t ps = any (λ p. eqb t (step_code p)) ps

-- and of one that may stand in a scope, which is two numbers
unfoldable pub step_stands : (scope depth : ℕ) → (attributed : Bool) → (step : ℕ) → Bool
step_stands n d a t = of_steps t (steps_in (scope_of n d) a)

-- a code that some step has
abbrev pub IsStep : ℕ → Type 0
IsStep t = (p : Step) × (step_code p ≡ t)

-- the arity of the step of a code; only codes of steps pass
pub record ArityIs (t n : ℕ) (r : Bool) : Type 0 where
  pub step : r ≡ true → IsStep t
  pub fits : (p : Step) → step_code p ≡ t → r ≡ arity p n

-- ---- the switch that is open

unfoldable pub end_row : List ℕ → ℕ → Bool
end_row rows k = eqb (kind_at rows k) end_kind

unfoldable pub switch_row : List ℕ → ℕ → Bool
switch_row rows k = eqb (kind_at rows k) step_kind && eqb (column rows k 1) switch_step

-- the width of the innermost one, if the last c switches before the first k rows' end are closed
unfoldable pub open_width : List ℕ → (k c : ℕ) → List ℕ
open_width rows zero c = []
open_width rows (suc k) c =
    let r = open_width rows k (cond (end_row rows k) (c + 1) (cond (switch_row rows k) (c - 1) c)) in
    cond (switch_row rows k && eqb c 0) (column rows k 3 ∷ []) r

unfoldable pub widths : Option ℕ → List ℕ
widths None = []
widths (Some w) = w ∷ []

-- each switch has one signal
pub data Single : Past → Type 0 where
  none-single : Single []
  one_single : {s : Statement} {ss : Past} → (steps switch s ≡ true → (x : Signal) × ((contents s).signals ≡ x ∷ [])) → Single ss → Single (s ∷ ss)

-- the widths that the rules ask of a step's signals, behind statements whose rows are these
abbrev pub AskedIs : List ℕ → Place → ℕ → Option ℕ → Type 0
AskedIs rows place t r =
    (names : List ℕ) (ss : Past) (p : Step) → Laid (rooms_of ss) names rows → Single ss → place ≡ place_of ss → step_code p ≡ t → step_widths ss p ≡ widths r
