-- The loop's invariant: the lines of the first w wires are put.
use Prim.Native.Nat.{◌-◌, ◌≤◌}
use Rattle.plain.specs.Put.{PutAt}
use Rattle.listing.specs.Lines.{lines_at}
use Rattle.listing.proofs.put_lines.Given as goal

abbrev pub invariant-loop-w : goal.invariant-loop-w
invariant-loop-w l = PutAt 0 (lines_at l.design.names.now l.design.strings.now l.design.wires.now l.design.rows.now l.m l.w) l.initial.out l.out l.end
