-- What a design that is lent holds: its memory, and the tables of that.
use Rattle.rules.specs.Layout.{Memory}
use Rattle.netlist.specs.Results.{lent}
use Rattle.netlist.specs.Tables.{Tables, tabled}
use Rattle.netlist.specs.declared.design.Design.{Design}

abbrev pub lent_in : Design → Memory
lent_in d = lent d.names.now d.strings.now d.bits.now d.wires.now d.rows.now d.renames d.room

abbrev pub tabled_in : Design → Tables
tabled_in d = tabled d.names.now d.strings.now d.bits.now d.wires.now d.rows.now
