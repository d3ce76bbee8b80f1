-- The invariant: the options so far are held, and what the rest of the line gives with them is what the whole line gives.
-- Assumes nothing.
use mathlib.Core.List.{List}
use Prim.Native.Nat.{ℕ, ◌-◌, ◌/◌}
use lib.ListN.{length}
use Rattle.options.proofs.Rest.{Reached}
use Rattle.options.proofs.line_of.Given as goal

abbrev pub invariant-loop-c : goal.invariant-loop-c
invariant-loop-c l = (f : List ℕ) → Reached f l.memory l.tokens l.at l.i l.options

abbrev pub decreases-loop-c : goal.decreases-loop-c
decreases-loop-c l = length l.tokens / 4 - l.i
