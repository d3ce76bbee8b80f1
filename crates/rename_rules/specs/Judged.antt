-- A rename's refusal by the tables that hold the design with its standing renames.
use Rattle.std.specs.Prelude.{ℕ, zero, suc, ◌+◌, ◌≤◌, ◌≡◌, List, reverse, Bool, true, not, cond, ◌||◌, leb, ltb, length, Result, Ok, Err}
use Rattle.rules.specs.Limits.{name_room, most_renames}
use Rattle.rules.specs.Bytes.{same, any, legal}
use Rattle.rules.specs.Tokens.{Name}
use Rattle.rules.specs.Statements.{Statement, a_memory, a_cell, a_process}
use Rattle.rules.specs.Session.{Rename, is_port}
use Rattle.rules.specs.Layout.{rooms}
use Rattle.wires.specs.Rows.{wire_of}
use Rattle.context.specs.Place.{place_of}
use Rattle.context.specs.declared.place.Place.{Place}
use Rattle.admitted.specs.Admitted.{admitted, closes}
use Rattle.name_index.specs.Index.{wire_key, Indexed}
use Rattle.netlist.specs.Rows.{names_between}
use Rattle.netlist.specs.Kinds.{is_kind, four_kinds}
use Rattle.netlist.specs.Laid.{Laid, Wired}
use Rattle.modules.specs.Ranges.{wire_range, row_range}
use Rattle.wire_names.specs.Now.{wires_in}
use Rattle.wire_names.specs.declared.Module.{Module}

-- whether a memory or a cell of module m has this name, in the rows of so many statements
unfoldable pub object_taken : (names rows : List ℕ) → (total m : ℕ) → Name → Bool
object_taken names rows total m n =
    any (same n) (names_between names rows (is_kind (four_kinds a_memory a_cell a_process a_process)) (row_range rows total m).first (row_range rows total m).count)

-- whether the name space of a module has this name now
unfoldable pub name_taken : (names wires rows : List ℕ) → Module → Name → Bool
name_taken names wires rows m n =
    any (λ x. same n x.0) (wires_in names wires rows m) || object_taken names rows m.from m.number.0 n

-- 64 renames stand, or the names and the new one pass 16,384 bytes
unfoldable pub exceeds_room : (standing room size : ℕ) → Bool
exceeds_room standing room size = leb most_renames standing || ltb name_room (room + size)

-- module m as code holds it: the rows of its wires, and the rows of the renames, which stand behind the statements
abbrev pub module_by : (wires : List ℕ) → Place → (standing m : ℕ) → Module
module_by wires p standing m =
    record {
      number = record { 0 = m };
      first = (wire_range wires p.wires m).first;
      wires = (wire_range wires p.wires m).count;
      from = p.rows;
      renames = standing;
    }

-- an index of wires by their own names, those of the module among them
pub record ModuleIndexed (heads chain names wires : List ℕ) (m : Module) : Type 0 where
  pub total : ℕ
  pub indexed : Indexed heads chain (wire_key names wires) total
  pub inside : m.first + m.wires ≤ total

-- what is answered for a number: the refusal that has it, and for 0 none
unfoldable pub refusal : ℕ → Result (Unit {0}) ℕ
refusal zero = Ok tt
refusal (suc n) = Err (suc n)

-- the lowest number that applies, 0 if none does, where it is known whether the name is taken
unfoldable pub number_by : (wires : List ℕ) → Module → (room w : ℕ) → Name → (taken : Bool) → ℕ
number_by wires m room w n taken =
    cond (not (legal n)) 4
    (cond (leb m.wires w) 8
    (cond (is_port (wire_of wires (m.first + w))) 6
    (cond taken 9
    (cond (exceeds_room m.renames room (length n)) 11 0))))

-- the lowest number that applies, 0 if none does: the rules' number, where statements and renames lie in the tables (JudgedLaws)
unfoldable pub judged : (names wires rows : List ℕ) → Place → (standing room m w : ℕ) → Name → ℕ
judged names wires rows p standing room m w n =
    let own = wire_range wires p.wires m in
    cond (not (legal n)) 4
    (cond (leb own.count w) 8
    (cond (is_port (wire_of wires (own.first + w))) 6
    (cond (name_taken names wires rows (module_by wires p standing m) n) 9
    (cond (exceeds_room standing room (length n)) 11 0))))

-- statements in file order and renames that lie in these tables; and behind them the place, and how much they use
pub record Lies (names wires rows : List ℕ) (p : Place) (many used : ℕ) (ss : List Statement) (rs : List Rename) : Type 0 where
  pub admitted : admitted (reverse ss) ≡ true
  pub closes : closes (reverse ss) ≡ true
  pub laid : Laid (rooms ss rs) names rows
  pub wired : Wired (rooms ss rs) names wires
  pub place : place_of (reverse ss) ≡ p
  pub standing : length rs ≡ many
  pub room : length (rooms ss rs).names ≡ used
