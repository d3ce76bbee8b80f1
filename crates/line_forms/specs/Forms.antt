-- The shape that a form stands for, over a file's bytes.
use Rattle.std.specs.Prelude.{ℕ, ◌≤◌, ◌≡◌, List, Bool, Option as Optional, Some, None, IfSome}
use Rattle.std.proofs.Math.Option.{Option, none, some}
use Rattle.std.proofs.Math.Seq.{slice}
use Rattle.rules.specs.Tokens as rules
use Rattle.rules.specs.Statements.{Shape, autoidx-stmt, attr-stmt, module-stmt, param-stmt, wire-stmt, memory-stmt, cell-stmt, cell-param-stmt, cell-conn-stmt, conn-stmt, proc-stmt, end-stmt}
use Rattle.rules.specs.Shapes as shapes
use Rattle.rules.specs.Shapes.{Parse, of₂, id, sigspec, options, wire_option_forms, memory_option_forms, top, in_module, in_cell, whole, whole_by, shape}
use Rattle.numbers.specs.Kinds.{sort_of}
use Rattle.tokens.specs.Rows.{integer_in, literal_in, line, token_at}
use Rattle.tokens.specs.declared.ConstantSpan.{ConstantSpan}
use Rattle.tokens.specs.declared.Token.TheVariants.{Constant as Constantly}
use Rattle.line_forms.specs.Words.{announced}
use Rattle.scanner.specs.declared.parts.Span.{Span}
use Rattle.line_forms.specs.declared.Form.{Form}
use Rattle.line_forms.specs.declared.Form.TheVariants.{Autoidx, Attribute, Module, Parameter, Cell, CellParameter, Process, End}
use Rattle.line_forms.specs.declared.Kind.{Kind}
use Rattle.line_forms.specs.declared.Kind.TheVariants as kind
use Rattle.line_forms.specs.declared.CellKind.{CellKind}
use Rattle.line_forms.specs.declared.CellKind.TheVariants as cell_kind

-- the name at a span
unfoldable pub name_in : List ℕ → Span → rules.Name
name_in f s = slice s.start s.end f

-- a parameter's constant, if it has one
unfoldable pub value_in : List ℕ → Optional ConstantSpan → Option rules.Literal
value_in f (Some c) = some (literal_in f c)
value_in f None = none

unfoldable pub form_of : List ℕ → Form → Option Shape
form_of f (Autoidx z) = some (autoidx-stmt (integer_in f z))
form_of f (Attribute n c) = some (attr-stmt (name_in f n) (literal_in f c))
form_of f (Module n) = some (module-stmt (name_in f n))
form_of f (Parameter n c) = some (param-stmt (name_in f n) (value_in f c))
form_of f (Cell k n) = some (cell-stmt (name_in f k) (name_in f n))
form_of f (CellParameter s n c) = some (cell-param-stmt (sort_of s) (name_in f n) (literal_in f c))
form_of f (Process n) = some (proc-stmt (name_in f n))
form_of f End = some end-stmt

-- a line in a module whose rows are t: of fixed shape, or read on behind its first word
unfoldable pub kind_of : List ℕ → List ℕ → Kind → Option Shape
kind_of f t (kind.Form r) = form_of f r
kind_of f t kind.Wire = whole (of₂ wire-stmt (options wire_option_forms) id (line f t 1))
kind_of f t kind.Memory = whole (of₂ memory-stmt (options memory_option_forms) id (line f t 1))
kind_of f t kind.Connect = whole (of₂ conn-stmt sigspec sigspec (line f t 1))

-- the same in a cell
unfoldable pub cell_kind_of : List ℕ → List ℕ → CellKind → Option Shape
cell_kind_of f t (cell_kind.Form r) = form_of f r
cell_kind_of f t cell_kind.Connect = whole (of₂ cell-conn-stmt id sigspec (line f t 1))

-- the shape of what is read, if anything is
abbrev pub shape_of : {A : Type 0} → (A → Option Shape) → Optional A → Option Shape
shape_of g (Some x) = g x
shape_of g None = none

-- a shape, where no tokens are left
unfoldable pub ended : Option Shape → List rules.Token → Option Shape
ended none ts = none
ended (some s) ts = whole_by s ts

-- what holds of a parameter's constant, if it has one; of a form's constant, and its sort is one of three
abbrev pub ValueHolds : (ConstantSpan → Type 0) → Optional ConstantSpan → Type 0
ValueHolds P (Some c) = P c
ValueHolds P None = Unit {0}

abbrev pub FormHolds : (ConstantSpan → Type 0) → Form → Type 0
FormHolds P (Autoidx z) = Unit {0}
FormHolds P (Attribute n c) = P c
FormHolds P (Module n) = Unit {0}
FormHolds P (Parameter n c) = ValueHolds P c
FormHolds P (Cell k n) = Unit {0}
FormHolds P (CellParameter s n c) = (s ≤ 2) × P c
FormHolds P (Process n) = Unit {0}
FormHolds P End = Unit {0}

-- a constant of one of the rows
abbrev pub InRows : List ℕ → ConstantSpan → Type 0
InRows t c = (i : ℕ) × (token_at t i ≡ Constantly c)

abbrev pub FormFrom : List ℕ → Form → Type 0
FormFrom t r = FormHolds (InRows t) r

abbrev pub KindFrom : List ℕ → Kind → Type 0
KindFrom t (kind.Form r) = FormFrom t r
KindFrom t kind.Wire = Unit {0}
KindFrom t kind.Memory = Unit {0}
KindFrom t kind.Connect = Unit {0}

abbrev pub CellKindFrom : List ℕ → CellKind → Type 0
CellKindFrom t (cell_kind.Form r) = FormFrom t r
CellKindFrom t cell_kind.Connect = Unit {0}

-- over every file: the form where its line ends at row i; the line from row i on; the line by where it stands
abbrev pub FinishedIs : List ℕ → ℕ → Form → Optional Form → Type 0
FinishedIs t i form r = ((f : List ℕ) → ended (form_of f form) (line f t i) ≡ shape_of (form_of f) r) × (FormFrom t form → IfSome r (FormFrom t))

abbrev pub LineIs : Parse Shape → List ℕ → ℕ → Optional Form → Type 0
LineIs p t i r = ((f : List ℕ) → whole (p (line f t i)) ≡ shape_of (form_of f) r) × IfSome r (FormFrom t)

-- (with a sort that is one of three)
abbrev pub SortedIs : ℕ → Parse Shape → List ℕ → ℕ → Optional Form → Type 0
SortedIs s p t i r = ((f : List ℕ) → whole (p (line f t i)) ≡ shape_of (form_of f) r) × (s ≤ 2 → IfSome r (FormFrom t))

abbrev pub AnnouncedIs : List shapes.Form → List ℕ → ℕ → Optional Kind → Type 0
AnnouncedIs ps t c r = ((f : List ℕ) → whole (announced ps c (line f t 1)) ≡ shape_of (kind_of f t) r) × IfSome r (KindFrom t)

abbrev pub TopIs : List ℕ → Bool → Optional Form → Type 0
TopIs t first r =
    ((f : List ℕ) (attributed : Bool) → shape (record { scope = top; first = first; attributed = attributed }) (line f t 0) ≡ shape_of (form_of f) r)
    × IfSome r (FormFrom t)

abbrev pub ModuleIs : List ℕ → Bool → Optional Kind → Type 0
ModuleIs t attributed r =
    ((f : List ℕ) (first : Bool) → shape (record { scope = in_module; first = first; attributed = attributed }) (line f t 0) ≡ shape_of (kind_of f t) r)
    × IfSome r (KindFrom t)

abbrev pub CellIs : List ℕ → Optional CellKind → Type 0
CellIs t r =
    ((f : List ℕ) (first attributed : Bool) →
    shape (record { scope = in_cell; first = first; attributed = attributed }) (line f t 0) ≡ shape_of (cell_kind_of f t) r)
    × IfSome r (CellKindFrom t)
