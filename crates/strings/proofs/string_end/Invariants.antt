use mathlib.Core.List.{List}
use Prim.Native.Nat.{ℕ}
use Rattle.strings.specs.Machine.{inside_of}
use Rattle.strings.proofs.Reached.{Reached}
use Rattle.strings.proofs.string_end.Given as goal

-- The loop has reached `i`, whatever bytes were given so far.
abbrev pub invariant-loop-i : goal.invariant-loop-i
invariant-loop-i l = (ds : List ℕ) × Reached l.s l.at l.i (inside_of l.inside) ds
