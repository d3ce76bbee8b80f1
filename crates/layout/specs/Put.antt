-- What a statement puts into each table, behind what is used of it, and the parts of statements as code holds them.
use Rattle.std.specs.Prelude.{ℕ, ◌+◌, ◌*◌, ◌<◌, ◌≤◌, ◌≡◌, List, [], ◌∷◌, ◌++◌, true, length, Option as Optional}
use Rattle.std.proofs.Math.Option.{Option, some, Option-elim, map}
use Rattle.rules.specs.Limits.{most_wires, most_width, longest_file, names_length, strings_length, bits_length, most_rows}
use Rattle.rules.specs.Tokens.{Name, Digit}
use Rattle.rules.specs.Statements as rules
use Rattle.rules.specs.Statements.{Statement, Step, a_module, Wire, digits_of, bytes_of, wire-stmt, step-stmt}
use Rattle.rules.specs.Judgement.{count}
use Rattle.rules.specs.Numbers.{good_literal}
use Rattle.rules.specs.Signals.{twos_complement, kept}
use Rattle.rules.specs.Layout as layout
use Rattle.rules.specs.Layout.{row, flags, name_bytes, bytes_of_string, bit_codes, wire_rows, constant_columns, statement_row}
use Rattle.tables.specs.Store.{store}
use Rattle.tables.specs.Flat.{flat}
use Rattle.netlist.specs.Tables.{Tables, tables_in}
use Rattle.netlist.specs.Steps.{step_named}
use Rattle.netlist.specs.Used.{used_of}
use Rattle.netlist.specs.declared.used.Used.{Used}
use Rattle.tokens.specs.Rows.{literal_in}
use Rattle.tokens.specs.declared.ConstantSpan.{ConstantSpan}
use Rattle.literals.specs.Codes.{Whole}
use Rattle.line_forms.specs.Forms.{value_in, ValueHolds}
use Rattle.syntax.specs.Statements.{signals_in}

-- each table with one statement more
module _ (u : layout.Used) (s : Statement) (t : List ℕ) where
  abbrev pub names_put : List ℕ
  names_put = store t u.names (name_bytes s)

  abbrev pub strings_put : List ℕ
  strings_put = store t u.strings (bytes_of_string s)

  abbrev pub bits_put_at : List ℕ
  bits_put_at = store t u.bits (bit_codes s)

  abbrev pub wires_put : List ℕ
  wires_put = store t (8 * u.wires) (flat (wire_rows u s))

  abbrev pub rows_put : List ℕ
  rows_put = store t (8 * u.rows) (statement_row u s)

-- the tables of memory (kept folded, or the check computes whole tables of zeros), and how each changes where a statement is stored
unfoldable pub tables_of : layout.Memory → Tables
tables_of m = tables_in m

pub record Puts (u : layout.Used) (s : Statement) (t t' : Tables) : Type 0 where
  pub names-put : t'.names ≡ names_put u s t.names
  pub strings-put : t'.strings ≡ strings_put u s t.strings
  pub bits_put : t'.bits ≡ bits_put_at u s t.bits
  pub wires-put : t'.wires ≡ wires_put u s t.wires
  pub rows-put : t'.rows ≡ rows_put u s t.rows

-- how much is used with the statement, and that it fits the tables' lengths
unfoldable pub used_after : layout.Used → Statement → layout.Used
used_after u s =
    record {
      names = u.names + length (name_bytes s);
      strings = u.strings + length (bytes_of_string s);
      bits = u.bits + length (bit_codes s);
      wires = u.wires + length (wire_rows u s);
      rows = u.rows + 1;
      modules = u.modules + count (a_module ∷ []) s;
    }

pub record RoomFor (u : layout.Used) (s : Statement) : Type 0 where
  pub names : u.names + length (name_bytes s) ≤ names_length
  pub strings : u.strings + length (bytes_of_string s) ≤ strings_length
  pub bits : u.bits + length (bit_codes s) ≤ bits_length
  pub wires : u.wires + length (wire_rows u s) ≤ most_wires
  pub rows : u.rows + 1 ≤ most_rows

-- a table has room for n values from a place on, and its places are words
abbrev pub Fits : ℕ → ℕ → List ℕ → Type 0
Fits at n t = (at + n ≤ length t) × (length t < 4294967296)

-- the constant of an attribute or a parameter, and of a parameter that may have none
abbrev pub constant_in : List ℕ → ConstantSpan → rules.Constant
constant_in f c = kept (literal_in f c)

abbrev pub optional_in : List ℕ → Optional ConstantSpan → Option rules.Constant
optional_in f c = map kept (value_in f c)

-- the columns of such a constant, zeros where there is none; its string's bytes and its value's digits
unfoldable pub optional_columns : layout.Used → Option rules.Constant → List ℕ
optional_columns u c = Option-elim c (0 ∷ 0 ∷ 0 ∷ []) (constant_columns u)

unfoldable pub optional_bytes : Option rules.Constant → List ℕ
optional_bytes c = Option-elim c [] bytes_of

unfoldable pub optional_digits : Option rules.Constant → List Digit
optional_digits c = Option-elim c [] digits_of

-- the row of a statement of a name and such a constant
unfoldable pub valued_row : layout.Used → ℕ → Name → Option rules.Constant → ℕ → List ℕ
valued_row u kind n c sort = row (kind ∷ u.names ∷ length n ∷ optional_columns u c ++ sort ∷ [])

-- it keeps the number rules, a string has its end, and there is room for what it puts
pub record ConstantFits (f : List ℕ) (c : ConstantSpan) (u : Used) (strings bits : List ℕ) : Type 0 where
  pub good : good_literal (literal_in f c) ≡ true
  pub whole : Whole f c
  pub strings-fit : Fits u.strings (length (bytes_of (constant_in f c))) strings
  pub bits_fit : Fits u.bits (length (digits_of (constant_in f c))) bits

abbrev pub OptionalFits : List ℕ → Optional ConstantSpan → Used → List ℕ → List ℕ → Type 0
OptionalFits f c u strings bits = ValueHolds (λ k. ConstantFits f k u strings bits) c

-- the numbers of a wire
pub record WireHas (width offset flags' port : ℕ) (w : Wire) : Type 0 where
  pub width_is : w.width ≡ width
  pub offset-is : twos_complement w.offset ≡ offset
  pub flags-are : flags w ≡ flags'
  pub port-is : Option-elim w.port 0 (λ p. p.1) ≡ port

-- the tables with a wire more, whatever the wire that has these numbers
abbrev pub WirePut : Used → Name → ℕ → ℕ → ℕ → ℕ → (names names' wires wires' rows rows' : List ℕ) → Type 0
WirePut u n width offset flags' port names names' wires wires' rows rows' =
    (w : Wire) → WireHas width offset flags' port w →
    (names' ≡ names_put (used_of u) (wire-stmt w n) names)
    × (wires' ≡ wires_put (used_of u) (wire-stmt w n) wires)
    × (rows' ≡ rows_put (used_of u) (wire-stmt w n) rows)

-- a step's signals stand in scratch, there is room for them and for its row, and their width and number are words
pub record StepFits (width count : ℕ) (u : Used) (scratch bits rows : List ℕ) : Type 0 where
  pub narrow : width ≤ most_width
  pub few : count ≤ longest_file
  pub stand : count * width ≤ length scratch
  pub bits_fit : Fits u.bits (count * width) bits
  pub row_fits : 8 * u.rows + 8 ≤ length rows

-- the tables with a step more, whatever the step that has this code
abbrev pub StepPut : (code width count : ℕ) → Used → (scratch bits bits' rows rows' : List ℕ) → Type 0
StepPut p w n u scratch bits bits' rows rows' =
    (q : Step) → step_named p ≡ some q →
    (bits' ≡ bits_put_at (used_of u) (step-stmt q (signals_in scratch w n)) bits)
    × (rows' ≡ rows_put (used_of u) (step-stmt q (signals_in scratch w n)) rows)
