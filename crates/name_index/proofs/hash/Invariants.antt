-- `hash` meets its contract. The invariant: what is left of the name, from the hash so far, gives the hash of the whole.
-- Assumes nothing.
use Prim.Native.Nat.{◌<◌}
use mathlib.Core.Path.{◌≡◌}
use lib.ListN.{drop}
use Rattle.name_index.specs.Index.{hash_count, hash_from, hash_of}
use Rattle.name_index.proofs.hash.Given as goal

abbrev pub invariant-loop-b : goal.invariant-loop-b
invariant-loop-b l = (l.h < hash_count) × (hash_of l.name ≡ hash_from l.h (drop l.b-index l.name))
