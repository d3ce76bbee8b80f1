-- The loop's invariant: the codes of the first j digits are stored.
use mathlib.Core.Path.{◌≡◌}
use mathlib.Core.List.{map}
use lib.ListN.{length, take}
use Rattle.rules.specs.Tokens.{digit}
use Rattle.rules.specs.Layout.{digit_code}
use Rattle.tables.specs.Store.{store}
use Rattle.literals.proofs.put_digits.Given as goal

abbrev pub invariant-loop-j : goal.invariant-loop-j
invariant-loop-j l = (length l.out ≡ length l.initial.out) × (l.out ≡ store l.initial.out l.digits (take l.j (map (λ b. digit_code (digit b)) l.ds)))
