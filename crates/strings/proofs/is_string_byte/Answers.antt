use native.Mathlib.Omega.{arith}
use borrow.Author.Tests.{ne_eqb}
use Rattle.rules.specs.Bytes.{is_string_byte, is_line_end, within}
use Rattle.strings.proofs.Turns.{byte-in}
use Rattle.strings.proofs.is_string_byte.Goals as goal

pub returns-then-b-eq0 : goal.returns-then-b-eq0
unfolding is_string_byte is_line_end within
returns-then-b-eq0 c = rw c.if-b-eq0.true

pub returns-then-b-eq10 : goal.returns-then-b-eq10
unfolding is_string_byte is_line_end within
returns-then-b-eq10 c = rw c.if-b-eq10.true

pub returns : goal.returns
unfolding is_string_byte is_line_end
returns c = rw (byte-in c.args.b c.if-b-eq0.false (omega arith), ne_eqb _ 10 c.if-b-eq10.false)
