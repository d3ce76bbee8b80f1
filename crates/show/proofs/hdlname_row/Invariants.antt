-- The search from row k on, with what is found, is the whole search.
use Rattle.std.specs.Prelude.{◌≡◌}
use Rattle.show.specs.Rows.{hdlname_row}
use Rattle.show.proofs.hdlname_row.Given as goal

abbrev pub invariant-loop-k : goal.invariant-loop-k
invariant-loop-k l = hdlname_row l.design.names.now l.design.rows.now l.line 0 ≡ hdlname_row l.design.names.now l.design.rows.now l.k l.found
