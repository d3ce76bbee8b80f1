-- What a step of reading promises: of one line, and of the statements so far.
use Rattle.std.specs.Prelude.{ℕ, ◌-◌, ◌≤◌, ◌≡◌, true, List, ◌∷◌, length, Some, None, Ok, Err, Result, Option as Optional}
use Rattle.std.proofs.Math.Option.{some}
use Rattle.std.proofs.Math.Seq.{slice}
use Rattle.rules.specs.Limits.{most_wires, longest_file, scratch_length}
use Rattle.rules.specs.Lines as rules
use Rattle.rules.specs.Lines.{place}
use Rattle.rules.specs.Statements as statements
use Rattle.rules.specs.Judgement.{Past}
use Rattle.rules.specs.Reading as reading
use Rattle.rules.specs.Reading.{outcome, next}
use Rattle.rules.specs.Layout.{memory}
use Rattle.scanner.specs.declared.lines.Line.{Line}
use Rattle.context.specs.Place.{place_of, Bounds}
use Rattle.context.specs.Sizes.{sums_of, Within}
use Rattle.context.specs.declared.place.Place.{Place}
use Rattle.context.specs.declared.sizes.Sizes.{Sizes}
use Rattle.context.specs.declared.sizes.Standing.{Standing}
use Rattle.admitted.specs.Admitted.{admitted}
use Rattle.netlist.specs.Laid.{rooms_of}
use Rattle.syntax.specs.Statements.{fault_of, statement_in, Sound}
use Rattle.syntax.specs.declared.Statement.{Statement}
use Rattle.syntax.specs.declared.Statement.TheVariants.{Autoidx, Attribute, Module, Parameter, Wire, Memory, Cell, CellParameter, CellConnection, Connection, Step as StepOf, End, Process}
use Rattle.netlist.specs.Tables.{Tables}
use Rattle.netlist.specs.declared.results.Refused.{Refused}
use Rattle.layout.specs.Put.{tables_of}
use Rattle.name_index.specs.Index.{LinesIndexed}
use Rattle.judgement.specs.Judged.{Stands}
use Rattle.judgement.specs.declared.Stated.{Stated}

-- the line of the rules
unfoldable pub line_of : List ℕ → Line → rules.Line
line_of f l = record { start = l.start; text = slice l.start l.end f; ended = l.ended }

-- a line lies in the file, and the table for its signals has its length
pub record LineFits (f : List ℕ) (l : Line) (scratch : List ℕ) : Type 0 where
  pub low : l.start ≤ l.end
  pub high : l.end ≤ length f
  pub file : length f ≤ longest_file
  pub scratch-long : length scratch ≡ scratch_length

-- what is told of the statements so far is small
pub record PlaceFits (p : Place) (u : Sizes) : Type 0 where
  pub within : Within u
  pub bounds : Bounds p
  pub few : p.wires - p.wires_from ≤ most_wires

-- the code of an answer's step, 0 if it is none
unfoldable pub step_in : Statement → ℕ
step_in (Autoidx w) = 0
step_in (Attribute n c) = 0
step_in (Module n) = 0
step_in (Parameter n c) = 0
step_in (Wire n w t k p) = 0
step_in (Memory n w z t) = 0
step_in (Cell k n) = 0
step_in (CellParameter o n c) = 0
step_in (CellConnection n w l) = 0
step_in (Connection a b l) = 0
step_in (StepOf p w n l) = p
step_in End = 0
step_in (Process n) = 0

-- ONE LINE. A refused verdict is at the line
unfoldable pub refused_as : List ℕ → Line → ℕ → Refused
refused_as f l n = record { number = n; place = place (line_of f l) }

-- it states this statement, and these are the sums with it
pub record States (ss : Past) (l : rules.Line) (f s : List ℕ) (r : Statement) (u : Sizes) : Type 0 where
  pub statement : statements.Statement
  pub is : outcome ss l ≡ reading.states statement
  pub stated : statement_in f s r ≡ some statement
  pub sums-are : sums_of (statement ∷ ss) ≡ u

-- nothing where it has no token, its statement, or the refusal with its place
abbrev pub AnswerIs : Past → rules.Line → (f s : List ℕ) → Result (Optional Stated) Refused → Type 0
AnswerIs ss l f s (Ok None) = outcome ss l ≡ reading.skipped
AnswerIs ss l f s (Ok (Some x)) = States ss l f s x.statement x.sums
AnswerIs ss l f s (Err r) = outcome ss l ≡ reading.Outcome.refused r.number r.place

-- the answer after any statements that stand so
abbrev pub AnswerAs : (f s : List ℕ) → Line → Place → Sizes → (names wires rows : List ℕ) → Result (Optional Stated) Refused → Type 0
AnswerAs f s l p u names wires rows r = (ss : Past) → Stands ss p u names wires rows → AnswerIs ss (line_of f l) f s r

-- what holds of a stated one whatever stands before it
abbrev pub Storable : List ℕ → Result (Optional Stated) Refused → Type 0
Storable f (Ok None) = Unit {0}
Storable f (Ok (Some x)) = Sound f x.statement × (fault_of x.statement ≡ 0) × Within x.sums
Storable f (Err r) = Unit {0}

-- THE LINES SO FAR. These statements are admitted and lie in the tables; the next line stands behind them
pub record Done (ss : Past) (p : Place) (u : Sizes) (t : Tables) : Type 0 where
  pub admits : admitted ss ≡ true
  pub place_is : place_of ss ≡ p
  pub sums-are : sums_of ss ≡ u
  pub tables-are : t ≡ tables_of (memory (rooms_of ss) 0)

pub record SomeDone (p : Place) (u : Sizes) (t : Tables) : Type 0 where
  pub past : Past
  pub done : Done past p u t

-- whatever is read behind the line is read after these statements
pub record Goes (ss : Past) (l : rules.Line) (p : Place) (u : Sizes) (t : Tables) : Type 0 where
  pub past : Past
  pub done : Done past p u t
  pub goes : (more : Past → reading.Answer) → next more ss (outcome ss l) ≡ more past

abbrev pub StepIs : Past → rules.Line → Tables → Result Standing Refused → Type 0
StepIs ss l t (Ok x) = Goes ss l x.place x.sums t
StepIs ss l t (Err r) = outcome ss l ≡ reading.Outcome.refused r.number r.place

abbrev pub StepAs : List ℕ → Line → Place → Sizes → (t t' : Tables) → Result Standing Refused → Type 0
StepAs f l p u t t' r = (ss : Past) → Done ss p u t → StepIs ss (line_of f l) t' r

-- the names of the statements so far are indexed
abbrev pub StepIndexed : (heads chain names wires rows : List ℕ) → Result Standing Refused → Type 0
StepIndexed heads chain names wires rows (Ok x) = LinesIndexed heads chain names wires rows x.place.rows x.place.wires
StepIndexed heads chain names wires rows (Err r) = Unit {0}
