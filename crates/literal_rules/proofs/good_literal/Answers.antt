-- By the constant.
use mathlib.Core.Path.{◌∙◌}
use Rattle.rules.specs.Numbers.{good_literal}
use Rattle.tokens.specs.Rows.{literal_in}
use Rattle.literal_rules.proofs.ReadLaws.{read_fits}
use Rattle.literal_rules.proofs.good_literal.Goals as goal

pub returns-in-Integer : goal.returns-in-Integer
unfolding literal_in good_literal
returns-in-Integer c = rw c.in-Integer.is (c.fits.ensures ∙ read_fits _ _ _ _ c.part.ensures c.decimal.ensures)

pub returns-in-Value : goal.returns-in-Value
returns-in-Value c = rw c.in-Value.is c.good_value.ensures

pub returns-in-Text : goal.returns-in-Text
unfolding literal_in good_literal
returns-in-Text c = rw c.in-Text.is
