-- A quote mark past the file's end has no digits behind it.
use Prim.Native.Nat.{◌+◌}
use native.Mathlib.Omega.{arith}
use mathlib.Core.Path.{sym}
use Rattle.lists.specs.Parts.{slice-past}
use Rattle.literal_rules.proofs.value_digits.Goals as goal

pub returns-then-f-quote : goal.returns-then-f-quote
returns-then-f-quote c = sym (slice-past (c.args.quote + 1) c.args.end c.args.f.now (omega (arith, c.if-f-quote.true)))
