use Prim.Native.Nat.{◌-◌, ◌*◌, ◌≤◌}
use lib.ListN.{length}
use Rattle.netlist.specs.Results.{lent}
use Rattle.calls.specs.Calls.{calls_from, calls_in}
use Rattle.calls.proofs.CallLaws.{Going}
use Rattle.calls.proofs.make_calls.Given as goal

abbrev pub invariant-loop-i : goal.invariant-loop-i
invariant-loop-i l = record {
  words : 5 * l.many ≤ length l.calls;
  going : Going (lent l.initial.names l.strings l.bits l.wires l.initial.rows l.renames l.room) l.initial.answers (calls_in l.calls l.texts) (calls_from l.calls l.texts (l.many - l.i) l.i) l.i (lent l.names l.strings l.bits l.wires l.rows l.standing l.used) l.answers;
}
