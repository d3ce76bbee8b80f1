use mathlib.Core.List.{List}
use mathlib.Core.Path.{◌≡◌}
use Prim.Native.Nat.{ℕ, ◌+◌}
use lib.ListN.{length}
use lib.Seq.{slice}
use Rattle.tables.specs.Store.{store}
use Rattle.strings.specs.Machine.{inside_of}
use Rattle.strings.proofs.Reached.{Reached}
use Rattle.strings.proofs.put_string.Given as goal

-- The loop has reached `i`, and the bytes given so far are stored from `to` on, up to `end`: the plain ones before the loop starts.
abbrev pub invariant-loop-i : goal.invariant-loop-i
invariant-loop-i l =
    (ds : List ℕ) × Reached l.s l.at l.i (inside_of l.inside) ds × (l.end ≡ l.to + length ds) × ((t : List ℕ) → l.initial.out ≡ store t l.to (slice l.at l.first l.s) → l.out ≡ store t l.to ds) × (length l.out ≡ length l.initial.out)
