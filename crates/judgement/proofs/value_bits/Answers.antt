-- By the constant.
use Rattle.rules.specs.Statements.{statements_open}
use Rattle.rules.specs.Signals.{kept}
use Rattle.rules.specs.Judgement.{sum}
use Rattle.tokens.specs.Rows.{literal_in}
use Rattle.line_forms.specs.Forms.{value_in}
use Rattle.judgement.specs.Parts.{constants_in, digits_in}
use Rattle.judgement.proofs.PartLaws.{value-digits}
use Rattle.judgement.proofs.value_bits.Goals as goal

pub returns-in_default : goal.returns-in_default
unfolding digits_in constants_in value_in literal_in kept sum statements_open
returns-in_default c = rw c.in_default.is

pub returns-in-Integer : goal.returns-in-Integer
unfolding digits_in constants_in value_in literal_in kept sum statements_open
returns-in-Integer c = rw (c.in-Some.is, c.in-Integer.is)

pub returns-in-Value : goal.returns-in-Value
returns-in-Value c = rw (c.in-Some.is, c.in-Value.is) (value-digits _ _ _ _ (rw (c.in-Some.is, c.in-Value.is) at c.requires).good _ (rw c.in-Value.is at c.literal_width.ensures.0))

pub returns-in-Text : goal.returns-in-Text
unfolding digits_in constants_in value_in literal_in kept sum statements_open
returns-in-Text c = rw (c.in-Some.is, c.in-Text.is)
