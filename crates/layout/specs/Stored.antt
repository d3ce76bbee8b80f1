-- What storing the answer about a line needs, and what it leaves in the tables.
use Rattle.std.specs.Prelude.{ℕ, ◌*◌, ◌≤◌, ◌≡◌, length, Option as Optional}
use mathlib.Core.List.{List, [], ◌∷◌, Option-to_list}
use Rattle.std.proofs.Math.Option.{Option, none, some}
use Rattle.rules.specs.Limits.{names_length, strings_length, bits_length, wires_length, rows_length, scratch_length}
use Rattle.rules.specs.Statements as rules
use Rattle.rules.specs.Statements.{contents}
use Rattle.rules.specs.Layout as rooms
use Rattle.rules.specs.Layout.{statement_row}
use Rattle.tokens.specs.declared.ConstantSpan.{ConstantSpan}
use Rattle.line_forms.specs.Forms.{name_in}
use Rattle.scanner.specs.declared.parts.Span.{Span}
use Rattle.syntax.specs.Statements.{fault_of, statement_in, GoodOptional, Sound}
use Rattle.syntax.specs.declared.Statement.{Statement}
use Rattle.syntax.specs.declared.Statement.TheVariants.{Autoidx, Attribute, Module, Parameter, Wire as WireOf, Memory as MemoryOf, Cell, CellParameter, CellConnection, Connection, Step as StepOf, End, Process}
use Rattle.netlist.specs.Tables.{Tables, tabled}
use Rattle.layout.specs.Put.{Puts, RoomFor, optional_in, valued_row}
use Rattle.netlist.specs.declared.used.Used.{Used}
use Rattle.netlist.specs.Used.{used_of}
use Rattle.layout.specs.declared.put.Valued.{Valued}
use Rattle.layout.specs.declared.put.Valued.TheVariants.{Named, Step, Nothing}

-- the stated lengths
pub record Sized (t : Tables) : Type 0 where
  pub names : length t.names ≡ names_length
  pub strings : length t.strings ≡ strings_length
  pub bits : length t.bits ≡ bits_length
  pub wires : length t.wires ≡ wires_length
  pub rows : length t.rows ≡ rows_length

-- no number is left for later, and there is room for the statement
pub record Storable (f s : List ℕ) (r : Statement) (u : Used) (t : Tables) : Type 0 where
  pub sound : Sound f r
  pub settled : fault_of r ≡ 0
  pub room : (x : rules.Statement) → statement_in f s r ≡ some x → RoomFor (used_of u) x
  pub sized : Sized t
  pub scratch : scratch_length ≤ length s

-- the tables with the statement that the answer stands for; as they were, where it stands for none
abbrev pub PutsAny : rooms.Used → Option rules.Statement → (t t' : Tables) → Type 0
PutsAny u (some x) t t' = Puts u x t t'
PutsAny u none t t' = t' ≡ t

abbrev pub PutIs : (f s : List ℕ) → Statement → Used → (t t' : Tables) → Type 0
PutIs f s r u t t' = PutsAny (used_of u) (statement_in f s r) t t'

-- an answer of a kind, a name, a constant if it has one, and a sort's column, over a file and the scratch table
pub record ValuedHas (f s : List ℕ) (r : Statement) (kind : ℕ) (n : Span) (c : Optional ConstantSpan) (sort : ℕ) : Type 0 where
  pub x : rules.Statement
  pub is : statement_in f s r ≡ some x
  pub names-are : (contents x).names ≡ name_in f n ∷ []
  pub constants-are : (contents x).constants ≡ Option-to_list (optional_in f c)
  pub no-signals : (contents x).signals ≡ []
  pub no-wires : (contents x).wires ≡ []
  pub good : GoodOptional f c
  pub row_is : (u : rooms.Used) → statement_row u x ≡ valued_row u kind (name_in f n) (optional_in f c) sort

-- the other kinds
abbrev pub Plain : Statement → Type 0
Plain (Autoidx w) = Unit {0}
Plain (Attribute n c) = ⊥
Plain (Module n) = ⊥
Plain (Parameter n c) = ⊥
Plain (WireOf n w t k p) = Unit {0}
Plain (MemoryOf n w z t) = Unit {0}
Plain (Cell k n) = Unit {0}
Plain (CellParameter s n c) = ⊥
Plain (CellConnection n w l) = Unit {0}
Plain (Connection a b l) = Unit {0}
Plain (StepOf p w n l) = ⊥
Plain End = Unit {0}
Plain (Process n) = ⊥

abbrev pub ValuedIs : Statement → Valued → Type 0
ValuedIs r (Named kind n c sort) = (f s : List ℕ) → Sound f r → ValuedHas f s r kind n c sort
ValuedIs r (Step p w n) = (l : ℕ) × (r ≡ StepOf p w n l)
ValuedIs r Nothing = Plain r

-- storing those, whatever the table of strings is
pub record PlainStorable (f s : List ℕ) (r : Statement) (u : Used) (names bits wires rows : List ℕ) : Type 0 where
  pub sound : Sound f r
  pub settled : fault_of r ≡ 0
  pub room : (x : rules.Statement) → statement_in f s r ≡ some x → RoomFor (used_of u) x
  pub names-long : length names ≡ names_length
  pub bits-long : length bits ≡ bits_length
  pub wires-long : length wires ≡ wires_length
  pub rows_long : length rows ≡ rows_length
  pub scratch : scratch_length ≤ length s

abbrev pub PlainPut : (f s : List ℕ) → Statement → Used → (names names' bits bits' wires wires' rows rows' : List ℕ) → Type 0
PlainPut f s r u names names' bits bits' wires wires' rows rows' =
    Plain r → (strings : List ℕ) → PutIs f s r u (tabled names strings bits wires rows) (tabled names' strings bits' wires' rows')
