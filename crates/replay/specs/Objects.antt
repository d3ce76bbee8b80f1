-- The kinds that attributes may stand before, and attributes.
use Rattle.std.specs.Prelude.{List, [], ◌∷◌}
use Rattle.rules.specs.Statements.{Kind, an_attribute, a_wire, a_memory, a_cell, a_process}

unfoldable pub object_kinds : List Kind
object_kinds = an_attribute ∷ a_wire ∷ a_memory ∷ a_cell ∷ a_process ∷ []
