-- The sorted indexes of a design's modules, by the tables that hold it with its standing renames.
use Rattle.std.specs.Prelude.{ℕ, ◌<◌, List}
use Rattle.lists.specs.Lists.{up}
use Rattle.context.specs.declared.place.Place.{Place}
use Rattle.modules.specs.Ranges.{wire_range}
use Rattle.wire_names.specs.declared.Module.{Module}
use Rattle.byte_order.specs.Order.{Apart, indexes_up}
use Rattle.name_order.specs.Named.{name_in}

-- module m as code holds it: the rows of its wires, and the rows of the renames, which stand behind the statements
abbrev pub module_at : (wires : List ℕ) → Place → (standing m : ℕ) → Module
module_at wires p standing m =
    record {
      number = record { 0 = m };
      first = (wire_range wires p.wires m).first;
      wires = (wire_range wires p.wires m).count;
      from = p.rows;
      renames = standing;
    }

-- the indexes of so many modules
abbrev pub indexes_in : (names wires rows : List ℕ) → Place → (standing modules : ℕ) → List ℕ
indexes_in names wires rows p standing modules =
    indexes_up (λ m. name_in names wires rows (module_at wires p standing m)) (λ m. (wire_range wires p.wires m).count) modules

-- no two wires of a module have one name
abbrev pub NamesApart : (names wires rows : List ℕ) → Place → (standing : ℕ) → Type 0
NamesApart names wires rows p standing =
    (m : ℕ) → m < p.modules → Apart (up (name_in names wires rows (module_at wires p standing m)) (wire_range wires p.wires m).count 0)
