-- By the constant; a string is no longer than the file.
use native.Mathlib.Omega.{arith}
use Rattle.rules.specs.Statements.{statements_open}
use Rattle.rules.specs.Signals.{kept}
use Rattle.rules.specs.Judgement.{sum}
use Rattle.tokens.specs.Rows.{literal_in}
use Rattle.line_forms.specs.Forms.{value_in}
use Rattle.judgement.specs.Parts.{constants_in, bytes_in}
use Rattle.strings.proofs.StringLaws.{decoded-length}
use Rattle.judgement.proofs.string_bytes.Goals as goal

pub returns-in_default : goal.returns-in_default
unfolding bytes_in constants_in value_in literal_in kept sum statements_open
returns-in_default c = rw c.in_default.is

pub overflow_cast-result : goal.overflow_cast-result
overflow_cast-result c = omega (arith, c.string_size.ensures, decoded-length c.args.f.now c.in-Text.start, c.requires)

pub returns-in-Integer : goal.returns-in-Integer
unfolding bytes_in constants_in value_in literal_in kept sum statements_open
returns-in-Integer c = rw (c.in-Some.is, c.in-Integer.is)

pub returns-in-Value : goal.returns-in-Value
unfolding bytes_in constants_in value_in literal_in kept sum statements_open
returns-in-Value c = rw (c.in-Some.is, c.in-Value.is)

pub returns-in-Text : goal.returns-in-Text
unfolding bytes_in constants_in value_in literal_in kept sum statements_open
returns-in-Text c = rw (c.in-Some.is, c.in-Text.is) (omega (arith, c.string_size.ensures))
