-- By the constant.
use mathlib.Core.Path.{refl}
use native.Mathlib.Omega.{arith}
use Rattle.rules.specs.Signals.{literal_width}
use Rattle.scanner.specs.Numbers.{capped}
use Rattle.scanner.proofs.NumberLaws.{capped_le}
use Rattle.tokens.specs.Rows.{literal_in}
use Rattle.literal_rules.proofs.literal_width.Goals as goal

pub returns-in-Integer : goal.returns-in-Integer
unfolding literal_in literal_width capped
returns-in-Integer c = rw c.in-Integer.is (refl, omega arith)

pub returns-in-Value : goal.returns-in-Value
unfolding literal_in literal_width
returns-in-Value c = rw c.in-Value.is (rw c.part.ensures at c.decimal.ensures, rw c.decimal.ensures (capped_le _))

pub returns-in-Text : goal.returns-in-Text
unfolding literal_in literal_width
returns-in-Text c = rw c.in-Text.is (c.text_width.ensures, rw c.text_width.ensures (capped_le _))
