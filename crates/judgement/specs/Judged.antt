-- The verdict on a line, in the rules' words.
use Rattle.std.specs.Prelude.{ℕ, ◌-◌, ◌≤◌, ◌≡◌, List, ◌∷◌, length, Result, Ok, Err}
use Rattle.std.proofs.Math.Option.{Option, some}
use Rattle.rules.specs.Limits.{most_signal_bits}
use Rattle.rules.specs.Statements as rules
use Rattle.rules.specs.Statements.{Shape}
use Rattle.rules.specs.Shapes.{shape}
use Rattle.rules.specs.Judgement as judgement
use Rattle.rules.specs.Judgement.{Past, context, Verdict}
use Rattle.rules.specs.Reading.{shaped}
use Rattle.tokens.specs.Rows.{line}
use Rattle.wires.specs.Rows.{wires_from}
use Rattle.netlist.specs.Laid.{rooms_of, Laid}
use Rattle.steps.specs.Steps.{Single}
use Rattle.syntax.specs.Statements.{fault_of, statement_in, Sound, Says}
use Rattle.syntax.specs.declared.Statement.{Statement}
use Rattle.context.specs.Place.{place_of}
use Rattle.context.specs.Sizes.{sums_of, Within}
use Rattle.context.specs.declared.place.Place.{Place}
use Rattle.context.specs.declared.sizes.Sizes.{Sizes}
use Rattle.judgement.specs.declared.Stated.{Stated}

-- the statements so far, as the code sees them
pub record Stands (ss : Past) (p : Place) (u : Sizes) (names wires rows : List ℕ) : Type 0 where
  pub place_is : place_of ss ≡ p
  pub sums-are : sums_of ss ≡ u
  pub laid : Laid (rooms_of ss) names rows
  pub wires-are : wires_from names wires p.wires_from (p.wires - p.wires_from) ≡ judgement.wires ss
  pub single : Single ss

-- a line of this shape is accepted, as this statement, and these are the sums with it
pub record Accepts (ss : Past) (o : Option Shape) (f s : List ℕ) (a : Statement) (u : Sizes) : Type 0 where
  pub statement : rules.Statement
  pub accepts : shaped ss o ≡ Verdict.accepted statement
  pub stated : statement_in f s a ≡ some statement
  pub sums-are : sums_of (statement ∷ ss) ≡ u

-- the verdict on a shape, and on the line of these rows
abbrev pub VerdictOn : Past → Option Shape → (f s : List ℕ) → Result Stated ℕ → Type 0
VerdictOn ss o f s (Ok x) = Accepts ss o f s x.statement x.sums
VerdictOn ss o f s (Err n) = shaped ss o ≡ Verdict.refused n

abbrev pub Verdicts : Past → (f t s : List ℕ) → Result Stated ℕ → Type 0
Verdicts ss f t s r = VerdictOn ss (shape (context ss) (line f t 0)) f s r

-- what holds of an accepted one whatever stands before it
abbrev pub Storable : List ℕ → Result Stated ℕ → Type 0
Storable f (Ok x) = Sound f x.statement × (fault_of x.statement ≡ 0) × Within x.sums
Storable f (Err n) = Unit {0}

-- r is the verdict on each shape that the answer is about, and on the line, after any statements that stand so
abbrev pub JudgesAs : (f names rows : List ℕ) → Place → Sizes → Statement → Result Stated ℕ → Type 0
JudgesAs f names rows p u a r =
    (ss : Past) (wires s : List ℕ) (o : Option Shape) → Stands ss p u names wires rows → most_signal_bits ≤ length s → Says (judgement.wires ss) f s o (Ok a) → VerdictOn ss o f s r

abbrev pub JudgedAs : (f t : List ℕ) → Place → Sizes → (names wires rows s : List ℕ) → Result Stated ℕ → Type 0
JudgedAs f t p u names wires rows s r = (ss : Past) → Stands ss p u names wires rows → Verdicts ss f t s r
