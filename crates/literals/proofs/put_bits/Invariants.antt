-- The loop's invariant: the codes of the first j places are stored.
use mathlib.Core.Path.{◌≡◌}
use lib.ListN.{length, take}
use Rattle.tables.specs.Store.{store}
use Rattle.literals.specs.Codes.{word_codes}
use Rattle.literals.proofs.put_bits.Given as goal

abbrev pub invariant-loop-j : goal.invariant-loop-j
invariant-loop-j l = (length l.out ≡ length l.initial.out) × (l.out ≡ store l.initial.out l.at (take l.j (word_codes l.k l.w)))
