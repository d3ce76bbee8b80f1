use mathlib.Core.Path.{sym, ◌∙◌}
use native.Mathlib.Omega.{arith}
use Rattle.strings.proofs.Plain.{plain-above, plain-quote, plain-below}
use Rattle.strings.proofs.is_plain.Goals as goal

pub returns-then-b-gt34 : goal.returns-then-b-gt34
returns-then-b-gt34 c = sym (plain-above c.args.b c.if-b-gt34.true (omega arith))

pub returns-then-b-eq34 : goal.returns-then-b-eq34
returns-then-b-eq34 c = sym (plain-quote c.args.b c.if-b-eq34.true)

pub is_string_byte-requires : goal.is_string_byte-requires
is_string_byte-requires c = tt

pub returns : goal.returns
returns c = c.is_string_byte.ensures ∙ sym (plain-below c.args.b c.if-b-gt34.false c.if-b-eq34.false)
