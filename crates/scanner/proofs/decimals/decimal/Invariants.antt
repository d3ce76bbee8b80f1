-- `decimal` meets its contract. The invariant: going on with n from i on gives, capped, the whole number.
-- Assumes nothing.
use mathlib.Core.Path.{◌≡◌}
use Prim.Native.Nat.{◌≤◌}
use lib.ListN.{drop}
use Rattle.rules.specs.Tokens.{number, decimal}
use Rattle.scanner.specs.Numbers.{capped}
use Rattle.scanner.proofs.decimals.decimal.Given as goal

abbrev pub invariant-loop-b : goal.invariant-loop-b
invariant-loop-b l = (l.n ≤ 2147483649) × (capped (decimal l.ds) ≡ capped (number 10 l.n (drop l.b-index l.ds)))
