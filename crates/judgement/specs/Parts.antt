-- What the tests of a statement go by, and the sizes of a statement.
use Rattle.std.specs.Prelude.{ℕ, ◌+◌, ◌*◌, ◌≤◌, ◌≡◌, Bool, cond, eqb, length, replicate, Option as Optional, Some, None}
use mathlib.Core.List.{List, ◌++◌, flat_map, Option-to_list}
use Rattle.std.proofs.Math.Option.{some, map}
use Rattle.rules.specs.Limits.{most_signal_bits}
use Rattle.rules.specs.Statements as rules
use Rattle.rules.specs.Statements.{digits_of, bytes_of}
use Rattle.rules.specs.Signals.{kept}
use Rattle.rules.specs.Judgement.{Past, sum, equal, step_widths}
use Rattle.tokens.specs.declared.ConstantSpan.{ConstantSpan}
use Rattle.line_forms.specs.Forms.{name_in, value_in}
use Rattle.scanner.specs.declared.parts.Span.{Span}
use Rattle.syntax.specs.Statements.{statement_in, Named}
use Rattle.syntax.specs.declared.Statement.{Statement}
use Rattle.syntax.specs.declared.Statement.TheVariants.{Autoidx, Attribute, Module, Parameter, Wire, Memory, Cell, CellParameter, CellConnection, Connection, Step, End, Process}
use Rattle.context.specs.Place.{place_of}
use Rattle.context.specs.Sizes.{sizes_of}
use Rattle.context.specs.declared.sizes.Sizes.{Sizes}
use Rattle.context.specs.declared.place.Place.{Place}
use Rattle.netlist.specs.Found.{found_in}
use Rattle.netlist.specs.Steps.{step_named}
use Rattle.netlist.specs.Laid.{rooms_of, Laid}
use Rattle.steps.specs.Steps.{Single}
use Rattle.judgement.specs.declared.Parts.{Parts}

-- a span of no bytes
abbrev pub no_name : Span
no_name = record { start = 0; end = 0 }

-- the parts of a statement without signals, of a connection, of a line inside a process
unfoldable pub named_parts : ℕ → Span → Span → Optional ConstantSpan → Parts
named_parts k m n c = record { kind = k; first = m; name = n; value = c; step = 0; count = 0; left = 0; right = 0; fault = 0 }

unfoldable pub connection_parts : ℕ → Span → (count left right fault : ℕ) → Parts
connection_parts k n c a b l = record { kind = k; first = no_name; name = n; value = None; step = 0; count = c; left = a; right = b; fault = l }

unfoldable pub step_parts : (step width count fault : ℕ) → Parts
step_parts t w n l = record { kind = 13; first = no_name; name = no_name; value = None; step = t; count = n; left = w; right = 0; fault = l }

-- of each answer about a line, with its kind's code
unfoldable pub parts_of : Statement → Parts
parts_of (Autoidx w) = named_parts 1 no_name no_name None
parts_of (Attribute n c) = named_parts 2 no_name n (Some c)
parts_of (Module n) = named_parts 3 no_name n None
parts_of (Parameter n c) = named_parts 4 no_name n c
parts_of (Wire n w t k p) = named_parts 5 no_name n None
parts_of (Memory n w z t) = named_parts 6 no_name n None
parts_of (Cell k n) = named_parts 7 k n None
parts_of (CellParameter o n c) = named_parts 8 no_name n (Some c)
parts_of (CellConnection n w l) = connection_parts 9 n 1 w 0 l
parts_of (Connection a b l) = connection_parts 10 no_name 2 a b l
parts_of (Step p w n l) = step_parts p w n l
parts_of End = named_parts 12 no_name no_name None
parts_of (Process n) = named_parts 11 no_name n None

-- whether the own name of an answer is found in its name space
unfoldable pub taken_in : (f names rows : List ℕ) → Place → Statement → Bool
taken_in f names rows p a = found_in names rows p (parts_of a).kind (name_in f (parts_of a).name)

-- how many bits its signals have: those of a step are equally wide
unfoldable pub bits_in : Parts → ℕ
bits_in p = cond (eqb p.kind rules.step_kind) (p.count * p.left) (p.left + p.right)

-- the constant that a statement keeps, if it has one; how many digits and how many bytes it has
unfoldable pub constants_in : List ℕ → Optional ConstantSpan → List rules.Constant
constants_in f c = Option-to_list (map kept (value_in f c))

unfoldable pub digits_in : List ℕ → Optional ConstantSpan → ℕ
digits_in f c = sum (λ d. length (digits_of d)) (constants_in f c)

unfoldable pub bytes_in : List ℕ → Optional ConstantSpan → ℕ
bytes_in f c = sum (λ d. length (bytes_of d)) (constants_in f c)

-- r is the sizes of the statement that an answer stands for, over any scratch table that has room for its signals
abbrev pub SizesAre : List ℕ → Statement → Sizes → Type 0
SizesAre f a r = (s : List ℕ) (x : rules.Statement) → most_signal_bits ≤ length s → statement_in f s a ≡ some x → sizes_of x ≡ r

-- a code that some step has, or 0
abbrev pub Coded : ℕ → Type 0
Coded t = (t ≡ 0 → ⊥) → Named t

-- the number that so many signals of one width leave, if they are not as wide as their step asks behind these statements
unfoldable pub uneven_in : Past → (step width count : ℕ) → ℕ
uneven_in ss t w n = cond (equal (flat_map (step_widths ss) (Option-to_list (step_named t)) ++ replicate n w)) 0 10

-- behind any statements whose rows are these
abbrev pub UnevenIs : List ℕ → Place → (step width count : ℕ) → ℕ → Type 0
UnevenIs rows place t w n r = (names : List ℕ) (ss : Past) → Laid (rooms_of ss) names rows → Single ss → place ≡ place_of ss → r ≡ uneven_in ss t w n
