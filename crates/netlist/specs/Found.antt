-- The name space of a statement's own name, by the rows that it is.
use Rattle.std.specs.Prelude.{ℕ, ◌-◌, Bool, cond, List, eqb, ltb}
use Rattle.rules.specs.Statements.{attribute_kind, module_kind, parameter_kind, wire_kind, memory_kind, cell_kind, cell_parameter_kind, connection_kind, process_kind}
use Rattle.rules.specs.Bytes.{same, any}
use Rattle.rules.specs.Tokens.{Name}
use Rattle.netlist.specs.Rows.{names_between}
use Rattle.netlist.specs.Kinds.{is_kind}
use Rattle.netlist.specs.declared.rows.Kinds.{Kinds}
use Rattle.context.specs.declared.place.Place.{Place}

-- its first row, by the code of the statement's kind; of a kind without a name the rows are none
unfoldable pub space_from : Place → ℕ → ℕ
space_from p k =
    cond (eqb k attribute_kind) p.object_from
    (cond (eqb k module_kind) 0
    (cond (ltb k parameter_kind) p.rows (cond (ltb k cell_parameter_kind) p.module_from (cond (ltb k connection_kind) p.cell_from (cond (eqb k process_kind) p.module_from p.rows)))))

-- the kinds that share it
abbrev pub shared_kinds : Kinds
shared_kinds = record { a = wire_kind; b = memory_kind; c = cell_kind; d = process_kind }

abbrev pub own_kind : ℕ → Kinds
own_kind k = record { a = k; b = k; c = k; d = k }

unfoldable pub kinds_from : ℕ → Kinds
kinds_from k = cond (ltb k wire_kind) (own_kind k) (cond (ltb k cell_parameter_kind) shared_kinds (cond (eqb k process_kind) shared_kinds (own_kind k)))

-- whether a name is found there
unfoldable pub found_in : (names rows : List ℕ) → Place → (kind : ℕ) → Name → Bool
found_in names rows p k n = any (same n) (names_between names rows (is_kind (kinds_from k)) (space_from p k) (p.rows - space_from p k))
