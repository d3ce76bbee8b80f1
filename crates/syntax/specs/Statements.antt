-- What the answer about a line says of the rules: the line's shape, its first refusal of 5, 7 and 8, and what it means.
use Rattle.std.specs.Prelude.{ℕ, ◌+◌, ◌*◌, ◌≤◌, ◌<◌, ◌≡◌, Bool, true, false, not, cond, ◌&&◌, ◌||◌, eqb, ltb, length, replicate, Option as Optional, Result, Ok, Err}
use mathlib.Core.List.{List, [], ◌∷◌, map, reverse, Option-to_list}
use Rattle.std.proofs.Math.Option
use Rattle.std.proofs.Math.Option.{Option, none, some, get_or}
use Rattle.std.proofs.Math.Seq.{slice}
use Rattle.rules.specs.Limits.{most_wires, most_width, most_signal_bits, longest_file, scratch_length}
use Rattle.rules.specs.Bytes.{all}
use Rattle.rules.specs.Statements as rules
use Rattle.rules.specs.Statements.{Shape, Signal, Step, Wire, Memory, contents}
use Rattle.rules.specs.Tokens.{Name}
use Rattle.rules.specs.Shapes as shapes
use Rattle.rules.specs.Numbers.{good_literal}
use Rattle.rules.specs.Signals.{Wires, width, good_slice, kept}
use Rattle.rules.specs.Judgement.{sum, all_parts, equal, breaks_number, lacks_wire, part_too_wide, lowest, meaning}
use Rattle.numbers.specs.Signed.{signed_of}
use Rattle.numbers.specs.Kinds.{signal_of, sort_of}
use Rattle.context.specs.Place.{context_of}
use Rattle.context.specs.declared.place.Place.{Place}
use Rattle.tokens.specs.Rows.{literal_in, line}
use Rattle.tokens.specs.declared.ConstantSpan.{ConstantSpan}
use Rattle.literals.specs.Codes.{Whole}
use Rattle.wires.specs.Rows.{wire_of, wires_from}
use Rattle.netlist.specs.Steps.{step_named, pieces}
use Rattle.line_forms.specs.Forms.{name_in, value_in, form_of, kind_of, ValueHolds, FormHolds}
use Rattle.line_forms.specs.declared.Form.{Form}
use Rattle.line_forms.specs.declared.Kind.TheVariants as kind
use Rattle.signals.specs.Held.{Held}
use Rattle.signals.specs.Reads.{Readable}
use Rattle.signals.specs.declared.Bits.{Bits}
use Rattle.syntax.specs.declared.Statement.{Statement}
use Rattle.syntax.specs.declared.Statement.TheVariants.{Autoidx, Attribute, Module, Parameter, Wire as WireOf, Memory as MemoryOf, Cell, CellParameter, CellConnection, Connection, Step as StepOf, End, Process}
use Rattle.syntax.specs.declared.LineFault.{LineFault}
use Rattle.syntax.specs.declared.LineFault.TheVariants.{NoShape, BadNumber, MissingWire}

-- the number of a refusal
unfoldable pub number_of : LineFault → ℕ
number_of NoShape = 5
number_of BadNumber = 7
number_of MissingWire = 8

-- the number that comes behind a taken name: of the statements with signals
unfoldable pub fault_of : Statement → ℕ
fault_of (Autoidx w) = 0
fault_of (Attribute n c) = 0
fault_of (Module n) = 0
fault_of (Parameter n c) = 0
fault_of (WireOf n w t k p) = 0
fault_of (MemoryOf n w z t) = 0
fault_of (Cell k n) = 0
fault_of (CellParameter s n c) = 0
fault_of (CellConnection n w l) = l
fault_of (Connection a b l) = l
fault_of (StepOf p w n l) = l
fault_of End = 0
fault_of (Process n) = 0

-- of a shape: the number before a taken name, and the one behind it but for the sizes of the design and for the width that the lines before it
-- ask for; the bits of a line are among the sizes, but a line has room for no more
unfoldable pub overfull : Wires → Shape → Bool
overfull ws sh = ltb most_signal_bits (sum (width ws) (contents sh).signals)

unfoldable pub early : Wires → Shape → Option ℕ
early ws sh = lowest ((7, breaks_number ws sh) ∷ (8, lacks_wire ws sh) ∷ [])

unfoldable pub width_fault : Wires → Shape → ℕ
width_fault ws sh =
    get_or
    (lowest ((10, not (all (good_slice ws) (all_parts sh) && equal (map (width ws) (contents sh).signals))) ∷ (11, part_too_wide ws sh || overfull ws sh) ∷ []))
    0

-- a wire by its columns, as in a row of the table of wires
unfoldable pub wire_from : (width offset flags port : ℕ) → Wire
wire_from w t k p = wire_of (0 ∷ 0 ∷ 0 ∷ w ∷ t ∷ k ∷ p ∷ 0 ∷ []) 0

unfoldable pub memory_from : (width size offset : ℕ) → Memory
memory_from w z t = record { width = w; size = z; offset = signed_of t }

-- a signal by its codes in the scratch table, highest first
unfoldable pub signal_in : List ℕ → (at width : ℕ) → Signal
signal_in s o w = signal_of (reverse (slice o (o + w) s))

-- so many signals of one width by their codes there, one behind another
unfoldable pub signals_in : List ℕ → (width count : ℕ) → List Signal
signals_in s w n = map (λ xs. signal_of (reverse xs)) (pieces w n s)

-- the statement that an answer stands for, over the file and the scratch table
unfoldable pub statement_in : List ℕ → List ℕ → Statement → Option rules.Statement
statement_in f s (Autoidx w) = some (rules.autoidx-stmt (signed_of w))
statement_in f s (Attribute n c) = some (rules.attr-stmt (name_in f n) (kept (literal_in f c)))
statement_in f s (Module n) = some (rules.module-stmt (name_in f n))
statement_in f s (Parameter n c) = some (rules.param-stmt (name_in f n) (Option.map kept (value_in f c)))
statement_in f s (WireOf n w t k p) = some (rules.wire-stmt (wire_from w t k p) (name_in f n))
statement_in f s (MemoryOf n w z t) = some (rules.memory-stmt (memory_from w z t) (name_in f n))
statement_in f s (Cell k n) = some (rules.cell-stmt (name_in f k) (name_in f n))
statement_in f s (CellParameter o n c) = some (rules.cell-param-stmt (sort_of o) (name_in f n) (kept (literal_in f c)))
statement_in f s (CellConnection n w l) = some (rules.cell-conn-stmt (name_in f n) (signal_in s 0 w))
statement_in f s (Connection a b l) = some (rules.conn-stmt (signal_in s 0 a) (signal_in s 2048 b))
statement_in f s (StepOf p w n l) = Option.map (λ q. rules.step-stmt q (signals_in s w n)) (step_named p)
statement_in f s End = some rules.end-stmt
statement_in f s (Process n) = some (rules.proc-stmt (name_in f n))

-- an answer's kind and its names
unfoldable pub kind_in : Statement → rules.Kind
kind_in (Autoidx w) = rules.an_autoidx
kind_in (Attribute n c) = rules.an_attribute
kind_in (Module n) = rules.a_module
kind_in (Parameter n c) = rules.a_parameter
kind_in (WireOf n w t k p) = rules.a_wire
kind_in (MemoryOf n w z t) = rules.a_memory
kind_in (Cell k n) = rules.a_cell
kind_in (CellParameter s n c) = rules.a_cell_parameter
kind_in (CellConnection n w l) = rules.a_cell_connection
kind_in (Connection a b l) = rules.a_connection
kind_in (StepOf p w n l) = rules.a_step
kind_in End = rules.an_end
kind_in (Process n) = rules.a_process

unfoldable pub names_in : List ℕ → Statement → List Name
names_in f (Autoidx w) = []
names_in f (Attribute n c) = name_in f n ∷ []
names_in f (Module n) = name_in f n ∷ []
names_in f (Parameter n c) = name_in f n ∷ []
names_in f (WireOf n w t k p) = name_in f n ∷ []
names_in f (MemoryOf n w z t) = name_in f n ∷ []
names_in f (Cell k n) = name_in f k ∷ name_in f n ∷ []
names_in f (CellParameter s n c) = name_in f n ∷ []
names_in f (CellConnection n w l) = name_in f n ∷ []
names_in f (Connection a b l) = []
names_in f (StepOf p w n l) = []
names_in f End = []
names_in f (Process n) = name_in f n ∷ []

-- its step, if it is one; the widths of its signals, if they are equal
unfoldable pub steps_of : Statement → List Step
steps_of (Autoidx w) = []
steps_of (Attribute n c) = []
steps_of (Module n) = []
steps_of (Parameter n c) = []
steps_of (WireOf n w t k p) = []
steps_of (MemoryOf n w z t) = []
steps_of (Cell k n) = []
steps_of (CellParameter s n c) = []
steps_of (CellConnection n w l) = []
steps_of (Connection a b l) = []
steps_of (StepOf p w n l) = Option-to_list (step_named p)
steps_of End = []
steps_of (Process n) = []

unfoldable pub widths_in : Statement → List ℕ
widths_in (Autoidx w) = []
widths_in (Attribute n c) = []
widths_in (Module n) = []
widths_in (Parameter n c) = []
widths_in (WireOf n w t k p) = []
widths_in (MemoryOf n w z t) = []
widths_in (Cell k n) = []
widths_in (CellParameter s n c) = []
widths_in (CellConnection n w l) = w ∷ []
widths_in (Connection a b l) = a ∷ b ∷ []
widths_in (StepOf p w n l) = replicate n w
widths_in End = []
widths_in (Process n) = []

-- a code that names a step
abbrev pub Named : ℕ → Type 0
Named p = (q : Step) × (step_named p ≡ some q)

-- What storing needs of an answer: a constant keeps the number rules and a string has its end; flags, sorts and widths are those that a row can hold
pub record GoodConstant (f : List ℕ) (c : ConstantSpan) : Type 0 where
  pub good : good_literal (literal_in f c) ≡ true
  pub whole : Whole f c

abbrev pub GoodOptional : List ℕ → Optional ConstantSpan → Type 0
GoodOptional f c = ValueHolds (GoodConstant f) c

abbrev pub Sound : List ℕ → Statement → Type 0
Sound f (Autoidx w) = Unit {0}
Sound f (Attribute n c) = GoodConstant f c
Sound f (Module n) = Unit {0}
Sound f (Parameter n c) = GoodOptional f c
Sound f (WireOf n w t k p) = (k < 16) × (k < 4 → p ≡ 0)
Sound f (MemoryOf n w z t) = Unit {0}
Sound f (Cell k n) = Unit {0}
Sound f (CellParameter s n c) = (s ≤ 2) × GoodConstant f c
Sound f (CellConnection n w l) = l ≡ 0 → w ≤ most_width
Sound f (Connection a b l) = l ≡ 0 → (a ≤ most_width) × (b ≤ most_width)
Sound f (StepOf p w n l) = (n ≤ longest_file) × Named p × (l ≡ 0 → (w ≤ most_width) × (n * w ≤ most_signal_bits))
Sound f End = Unit {0}
Sound f (Process n) = Unit {0}

-- The line has a shape that no number before a taken name refuses, which the answer states: its kind and names, what is left for later, and if that
-- is nothing its meaning
pub record Judged (ws : Wires) (f s : List ℕ) (o : Option Shape) (a : Statement) : Type 0 where
  pub sh : Shape
  pub is : o ≡ some sh
  pub early : early ws sh ≡ none
  pub kind : (contents sh).kind ≡ kind_in a
  pub names : (contents sh).names ≡ names_in f a
  pub steps : (contents sh).steps ≡ steps_of a
  pub widths : (fault_of a ≡ 10 → ⊥) → map (width ws) (contents sh).signals ≡ widths_in a
  pub sound : Sound f a
  pub width_fault : width_fault ws sh ≡ fault_of a
  pub means : fault_of a ≡ 0 → statement_in f s a ≡ some (meaning ws sh)

-- an answer about a line: it has no shape, its shape is refused with a number before a taken name, or it is judged
pub data Says (ws : Wires) (f s : List ℕ) (o : Option Shape) : Result Statement LineFault → Type 0 where
  no-shape : o ≡ none → Says ws f s o (Err NoShape)
  refused : {sh : Shape} {e : LineFault} → o ≡ some sh → early ws sh ≡ some (number_of e) → Says ws f s o (Err e)
  judged : {a : Statement} → Judged ws f s o a → Says ws f s o (Ok a)

-- a line without signals: whatever the wires and the scratch table are; a wire's line
abbrev pub PlainIs : List ℕ → Option Shape → Result Statement LineFault → Type 0
PlainIs f o r = (ws : Wires) (s : List ℕ) → Says ws f s o r

-- a form's constant, if it is a string, has its end
abbrev pub WholeForm : List ℕ → Form → Type 0
WholeForm f x = FormHolds (Whole f) x

-- a constant that keeps the number rules, or is refused
abbrev pub GoodIs : List ℕ → ConstantSpan → Result (Unit {0}) LineFault → Type 0
GoodIs f c (Ok u) = good_literal (literal_in f c) ≡ true
GoodIs f c (Err e) = (good_literal (literal_in f c) ≡ false) × (e ≡ BadNumber)

abbrev pub FormIs : List ℕ → Form → Result Statement LineFault → Type 0
FormIs f x r = WholeForm f x → PlainIs f (form_of f x) r

abbrev pub WireIs : (f t wires : List ℕ) (first count : ℕ) → Result Statement LineFault → Type 0
WireIs f t wires first count r = (names s : List ℕ) → Says (wires_from names wires first count) f s (kind_of f t kind.Wire) r

-- the line in its context
abbrev pub StatementIs : Place → (f t : List ℕ) → Wires → (s : List ℕ) → Result Statement LineFault → Type 0
StatementIs p f t ws s r = Says ws f s (shapes.shape (context_of p) (line f t 0)) r

abbrev pub ModuleIs : Bool → (f t : List ℕ) → Wires → (s : List ℕ) → Result Statement LineFault → Type 0
ModuleIs attributed f t ws s r =
    (first : Bool) → Says ws f s (shapes.shape (record { scope = shapes.in_module; first = first; attributed = attributed }) (line f t 0)) r

abbrev pub CellIs : (f t : List ℕ) → Wires → (s : List ℕ) → Result Statement LineFault → Type 0
CellIs f t ws s r =
    (first attributed : Bool) →
    Says ws f s (shapes.shape (record { scope = shapes.in_cell; first = first; attributed = attributed }) (line f t 0)) r

-- a statement whose signals' parts have this number
unfoldable pub faulted : ℕ → Statement → Result Statement LineFault
faulted n a = cond (eqb n 7) (Err BadNumber) (cond (eqb n 8) (Err MissingWire) (Ok a))

-- the connection of two signals in the scratch table, whatever they are
abbrev pub ConnectedIs : Bits → Bits → Result Statement LineFault → Type 0
ConnectedIs a b r =
    (ws : Wires) (f s : List ℕ) (x y : rules.Sig) → Held ws x 0 s a → Held ws y 2048 s b → Says ws f s (some (rules.conn-stmt x y)) r

-- what a line with signals needs: its rows, of which the first stands, room for two signals of 2,048 bits with bundles 16 deep, and few wires
pub record Ready (f t s : List ℕ) (count : ℕ) : Type 0 where
  pub rows : Readable f t 1
  pub room : scratch_length ≤ length s
  pub few : count ≤ most_wires
