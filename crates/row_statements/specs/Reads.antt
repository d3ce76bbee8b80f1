-- The statement of a row and of the parts that stand behind what is used of the tables.
use Rattle.std.specs.Prelude.{ℕ, ◌+◌, ◌-◌, ◌*◌, ◌≤◌, ◌≡◌, List, [], ◌∷◌, ◌++◌, map, Bool, true, false, cond, ◌&&◌, eqb, leb, length, drop, Some, None}
use Rattle.std.specs.Prelude.{Option as Optional}
use Rattle.std.proofs.Math.Option.{Option, none, some, Option-elim}
use Rattle.rules.specs.Limits.{names_length, bits_length, most_width, most_step_signals}
use Rattle.rules.specs.Tokens.{Name}
use Rattle.rules.specs.Statements.{Sort, Constant, value, integer, string, digits_of, bytes_of, Signal, Statement, Memory, Step, always, autoidx-stmt, attr-stmt, module-stmt, param-stmt, wire-stmt, memory-stmt, cell-stmt, cell-param-stmt, cell-conn-stmt, conn-stmt, proc-stmt, step-stmt, end-stmt, Kind, contents, holds, autoidx_kind, attribute_kind, module_kind, parameter_kind, wire_kind, memory_kind, cell_kind, cell_parameter_kind, cell_connection_kind, connection_kind, process_kind, step_kind}
use Rattle.rules.specs.Signals.{Wires}
use Rattle.rules.specs.Judgement.{equal, signal_size, value_size, string_size, name_size}
use Rattle.rules.specs.Layout.{Used, row, digit_code, wire_row, constant_columns, statement_row, value_constant, integer_constant}
use Rattle.admitted.specs.Admitted.{fine_constant, fine_parts}
use Rattle.tables.specs.Row.{words}
use Rattle.tables.specs.declared.Row.{Row}
use Rattle.numbers.specs.Signed.{signed_of}
use Rattle.numbers.specs.Kinds.{digit_of, sort_of, signal_of}
use Rattle.wires.specs.Rows.{wire_of, wires_from}
use Rattle.netlist.specs.Spans.{Has}
use Rattle.netlist.specs.Fronts.{Parts}
use Rattle.netlist.specs.Steps.{step_named, pieces}
use Rattle.row_statements.specs.Parts.{span}
use Rattle.row_statements.specs.declared.statements.Found.{Found}
use Rattle.row_statements.specs.declared.statements.HeldConstant.{HeldConstant}

-- the tables of parts
pub record PartTables : Type 0 where
  pub names : List ℕ
  pub strings : List ℕ
  pub bits : List ℕ
  pub wires : List ℕ

abbrev pub part_tables : (names strings bits wires : List ℕ) → PartTables
part_tables names strings bits wires = record { names = names; strings = strings; bits = bits; wires = wires }

-- whether something is so
unfoldable pub Decides : Bool → Type 0 → Type 0
Decides true P = P
Decides false P = P → ⊥

-- ---- a constant in its three columns

unfoldable pub constant_of : (strings bits : List ℕ) → Used → (kind a b : ℕ) → Constant
constant_of strings bits u kind a b =
    cond (eqb kind value_constant) (value (map digit_of (span bits u.bits b))) (cond (eqb kind integer_constant) (integer (signed_of a)) (string (span strings u.strings b)))

pub record ReadsConstant (strings bits : List ℕ) (u : Used) (kind a b : ℕ) (c : Constant) : Type 0 where
  pub columns : constant_columns u c ≡ kind ∷ a ∷ b ∷ []
  pub strings-has : Has strings u.strings (bytes_of c)
  pub bits-has : Has bits u.bits (map digit_code (digits_of c))
  pub fine : fine_constant c ≡ true

-- how many bits and bytes it holds; or that it isn't there
unfoldable pub TellsConstant : (strings bits : List ℕ) → Used → (kind a b : ℕ) → Constant → Optional HeldConstant → Type 0
TellsConstant strings bits u kind a b c (Some h) =
    ReadsConstant strings bits u kind a b c × (h.values ≡ length (digits_of c)) × (h.strings ≡ length (bytes_of c))
TellsConstant strings bits u kind a b c None = ReadsConstant strings bits u kind a b c → ⊥

-- ---- a statement

unfoldable pub optional_of : (strings bits : List ℕ) → Used → (kind a b : ℕ) → Option Constant
optional_of strings bits u kind a b = cond (eqb kind 0) none (some (constant_of strings bits u kind a b))

unfoldable pub memory_of : Row → Memory
memory_of r = record { width = r.c; size = r.d; offset = signed_of r.e }

-- the step of a code: one that no step has is taken for the last, which its row then is not
unfoldable pub step_or : ℕ → Step
step_or t = Option-elim (step_named t) always (λ p. p)

unfoldable pub signals_of : List ℕ → (at width count : ℕ) → List Signal
signals_of bits at w n = map signal_of (pieces w n (drop at bits))

-- no signal, no width; else each is at most 2,048 wide, and there are at most 4,096
unfoldable pub even_fits : (width count : ℕ) → Bool
even_fits w n = cond (eqb n 0) (eqb w 0) (leb w most_width && leb n most_step_signals)

-- a statement's signals are equally wide, and not more than a design has in the lines of its processes
unfoldable pub even_signals : Statement → Bool
even_signals s = equal (map length (contents s).signals) && leb (length (contents s).signals) most_step_signals

module _ (t : PartTables) (u : Used) (r : Row) where
  -- its name, or the first of two; its constant
  abbrev pub first_name : Name
  first_name = span t.names u.names r.b

  abbrev pub constant_in : Constant
  constant_in = constant_of t.strings t.bits u r.c r.d r.e

  -- the statement of a kind
  unfoldable pub statement_by : ℕ → Statement
  statement_by k =
      cond (eqb k autoidx_kind) (autoidx-stmt (signed_of r.a))
      (cond (eqb k attribute_kind) (attr-stmt first_name constant_in)
      (cond (eqb k module_kind) (module-stmt first_name)
      (cond (eqb k parameter_kind) (param-stmt first_name (optional_of t.strings t.bits u r.c r.d r.e))
      (cond (eqb k wire_kind) (wire-stmt (wire_of t.wires u.wires) first_name)
      (cond (eqb k memory_kind) (memory-stmt (memory_of r) first_name)
      (cond (eqb k cell_kind) (cell-stmt first_name (span t.names (u.names + r.b) r.d))
      (cond (eqb k cell_parameter_kind) (cell-param-stmt (sort_of r.f) first_name constant_in)
      (cond (eqb k cell_connection_kind) (cell-conn-stmt first_name (signal_of (span t.bits u.bits r.d)))
      (cond (eqb k connection_kind) (conn-stmt (signal_of (span t.bits u.bits r.b)) (signal_of (span t.bits (u.bits + r.b) r.d)))
      (cond (eqb k process_kind) (proc-stmt first_name)
      (cond (eqb k step_kind) (step-stmt (step_or r.a) (signals_of t.bits u.bits r.c r.d)) end-stmt)))))))))))

  unfoldable pub statement_of : Statement
  statement_of = statement_by r.kind

-- the row is the statement's, its parts stand behind what is used, and they keep the rules
pub record Reads (t : PartTables) (u : Used) (ws : Wires) (r : Row) (s : Statement) : Type 0 where
  pub parts : Parts t.names t.strings t.bits t.wires u s
  pub row : words r ≡ statement_row u s
  pub fine : fine_parts ws s ≡ true
  pub even : even_signals s ≡ true

pub record Counts (s : Statement) (c g v x n : ℕ) : Type 0 where
  pub count : c ≡ length (contents s).signals
  pub signals : g ≡ signal_size s
  pub values : v ≡ value_size s
  pub strings : x ≡ string_size s
  pub names : n ≡ name_size s

-- how many bits and bytes it holds; or that it isn't there
unfoldable pub Tells : PartTables → Used → Wires → Row → Statement → Optional Found → Type 0
Tells t u ws r s (Some f) = Reads t u ws r s × Counts s f.count f.signals f.values f.strings f.names
Tells t u ws r s None = Reads t u ws r s → ⊥

-- for any other tables, and for each statement that has these contents and this row
abbrev pub TellsNamed : (names : List ℕ) → Used → Row → (kind : ℕ) → Optional Found → Type 0
TellsNamed names u r kind f =
    (strings bits wires : List ℕ) (ws : Wires) (s : Statement) (k : Kind) → let n = span names u.names r.b in
    contents s ≡ holds k (n ∷ []) [] [] [] [] [] [] [] → statement_row u s ≡ row (kind ∷ u.names ∷ length n ∷ []) → Tells (part_tables names strings bits wires) u ws r s f

abbrev pub TellsValued : (names strings bits : List ℕ) → Used → Row → (kind sort : ℕ) → Optional Found → Type 0
TellsValued names strings bits u r kind sort f =
    (wires : List ℕ) (ws : Wires) (s : Statement) (k : Kind) (os : List Sort) →
    let n = span names u.names r.b in
    let c = constant_of strings bits u r.c r.d r.e in
    contents s ≡ holds k (n ∷ []) (c ∷ []) [] [] [] [] os [] → statement_row u s ≡ row (kind ∷ u.names ∷ length n ∷ constant_columns u c ++ sort ∷ []) →
    Tells (part_tables names strings bits wires) u ws r s f

-- for any other tables, the statement of this kind
abbrev pub TellsAutoidx : Used → Row → Optional Found → Type 0
TellsAutoidx u r f = (t : PartTables) (ws : Wires) → Tells t u ws r (autoidx-stmt (signed_of r.a)) f

abbrev pub TellsEnd : Used → Row → Optional Found → Type 0
TellsEnd u r f = (t : PartTables) (ws : Wires) → Tells t u ws r end-stmt f

abbrev pub TellsMemory : (names : List ℕ) → Used → Row → Optional Found → Type 0
TellsMemory names u r f =
    (strings bits wires : List ℕ) (ws : Wires) → Tells (part_tables names strings bits wires) u ws r (memory-stmt (memory_of r) (span names u.names r.b)) f

abbrev pub TellsCell : (names : List ℕ) → Used → Row → Optional Found → Type 0
TellsCell names u r f =
    (strings bits wires : List ℕ) (ws : Wires) →
    Tells (part_tables names strings bits wires) u ws r (cell-stmt (span names u.names r.b) (span names (u.names + r.b) r.d)) f

abbrev pub TellsParameter : (names strings bits : List ℕ) → Used → Row → Optional Found → Type 0
TellsParameter names strings bits u r f =
    (wires : List ℕ) (ws : Wires) →
    Tells (part_tables names strings bits wires) u ws r (param-stmt (span names u.names r.b) (optional_of strings bits u r.c r.d r.e)) f

abbrev pub TellsCellParameter : (names strings bits : List ℕ) → Used → Row → Optional Found → Type 0
TellsCellParameter names strings bits u r f =
    (wires : List ℕ) (ws : Wires) →
    Tells (part_tables names strings bits wires) u ws r (cell-param-stmt (sort_of r.f) (span names u.names r.b) (constant_of strings bits u r.c r.d r.e)) f

abbrev pub TellsWire : (names wires : List ℕ) → Used → ℕ → Row → Optional Found → Type 0
TellsWire names wires u first r f =
    (strings bits : List ℕ) →
    Tells (part_tables names strings bits wires) u (wires_from names wires first (u.wires - first)) r (wire-stmt (wire_of wires u.wires) (span names u.names r.b)) f

abbrev pub TellsCellConnection : (names bits wires : List ℕ) → Used → ℕ → Row → Optional Found → Type 0
TellsCellConnection names bits wires u first r f =
    (strings : List ℕ) →
    Tells (part_tables names strings bits wires) u (wires_from names wires first (u.wires - first)) r
    (cell-conn-stmt (span names u.names r.b) (signal_of (span bits u.bits r.d))) f

abbrev pub TellsConnection : (bits wires : List ℕ) → Used → ℕ → Row → Optional Found → Type 0
TellsConnection bits wires u first r f =
    (names strings : List ℕ) →
    Tells (part_tables names strings bits wires) u (wires_from names wires first (u.wires - first)) r
    (conn-stmt (signal_of (span bits u.bits r.b)) (signal_of (span bits (u.bits + r.b) r.d))) f

abbrev pub TellsStep : (bits wires : List ℕ) → Used → ℕ → Row → Optional Found → Type 0
TellsStep bits wires u first r f =
    (names strings : List ℕ) →
    Tells (part_tables names strings bits wires) u (wires_from names wires first (u.wires - first)) r (step-stmt (step_or r.a) (signals_of bits u.bits r.c r.d)) f

-- the row of the wire behind those that stand: it is the row of the wire that it holds, with a name of this length
abbrev pub WireRowStands : (wires : List ℕ) → Used → ℕ → Bool → Type 0
WireRowStands wires u size r = (n : Name) → length n ≡ size → Decides r (Has wires (8 * u.wires) (wire_row u (n, wire_of wires u.wires)))

-- nothing is used past the sizes of a design, so that sums of words don't wrap
pub record Small (u : Used) : Type 0 where
  pub names : u.names ≤ names_length
  pub bits : u.bits ≤ bits_length
