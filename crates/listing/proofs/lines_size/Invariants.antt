-- The loop's invariant: the size of the lines of the first w wires.
use mathlib.Core.Path.{◌≡◌}
use Prim.Native.Nat.{◌-◌, ◌≤◌}
use lib.ListN.{length}
use Rattle.listing.specs.Lines.{lines_at}
use Rattle.listing.proofs.lines_size.Given as goal

abbrev pub invariant-loop-w : goal.invariant-loop-w
invariant-loop-w l = l.size ≡ length (lines_at l.design.names.now l.design.strings.now l.design.wires.now l.design.rows.now l.m l.w)
