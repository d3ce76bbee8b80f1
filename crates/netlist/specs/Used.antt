-- How much of each table the statements so far use, in the rules' words.
use Rattle.std.specs.Prelude.{◌+◌}
use Rattle.rules.specs.Layout as layout
use Rattle.context.specs.declared.place.Place.{Place}
use Rattle.context.specs.declared.sizes.Sizes.{Sizes}
use Rattle.netlist.specs.declared.used.Used.{Used}

abbrev pub used_of : Used → layout.Used
used_of u =
    record {
      names = u.names;
      strings = u.strings;
      bits = u.bits;
      wires = u.wires;
      rows = u.rows;
      modules = u.modules;
    }

-- by the place behind the statements and the sums of their sizes
abbrev pub used_by : Place → Sizes → layout.Used
used_by p z =
    record {
      names = z.name_bytes;
      strings = z.string_bytes;
      bits = z.value_bits + z.signal_bits;
      wires = p.wires;
      rows = p.rows;
      modules = p.modules;
    }
