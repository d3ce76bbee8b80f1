use mathlib.Core.List.{List}
use mathlib.Core.Path.{◌≡◌}
use Prim.Native.Nat.{ℕ}
use lib.ListN.{length}
use Rattle.strings.specs.Machine.{inside_of}
use Rattle.strings.proofs.Reached.{Reached}
use Rattle.strings.proofs.string_size.Given as goal

-- The loop has reached `i`, and `size` is the count of the bytes given so far.
abbrev pub invariant-loop-i : goal.invariant-loop-i
invariant-loop-i l = (ds : List ℕ) × Reached l.s l.at l.i (inside_of l.inside) ds × (l.size ≡ length ds)
