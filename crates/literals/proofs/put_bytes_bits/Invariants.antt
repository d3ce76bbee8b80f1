-- The loop's invariant: the bits of the first j bytes are stored.
use mathlib.Core.Path.{◌≡◌}
use mathlib.Core.List.{flat_map}
use lib.ListN.{length, take}
use Rattle.tables.specs.Store.{store}
use Rattle.literals.specs.Codes.{word_codes}
use Rattle.literals.proofs.put_bytes_bits.Given as goal

abbrev pub invariant-loop-j : goal.invariant-loop-j
invariant-loop-j l = (length l.out ≡ length l.initial.out) × (l.out ≡ store l.initial.out l.at (flat_map (word_codes 8) (take l.j l.bytes)))
