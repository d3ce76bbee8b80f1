use borrow.Author.Tests.{eq-eqb, ne_eqb}
use Rattle.rules.specs.Tokens.{octal_byte, onto, plain_turn}
use Rattle.rules.specs.Bytes.{within}
use Rattle.strings.specs.Machine.{machine_open}
use Rattle.lists.specs.Bytes.{within-above}
use Rattle.strings.proofs.Turns.{byte-in}
use Rattle.strings.proofs.octal_before.Goals as goal

pub returns-then-n-eq0 : goal.returns-then-n-eq0
unfolding octal_byte onto within plain_turn machine_open
returns-then-n-eq0 c = rw c.if-n-eq0.true

pub returns-then-n-gt255 : goal.returns-then-n-gt255
unfolding octal_byte onto plain_turn machine_open
returns-then-n-gt255 c = rw (within-above 1 255 _ c.if-n-gt255.true)

pub returns-then-b-eq34 : goal.returns-then-b-eq34
unfolding octal_byte onto plain_turn machine_open
returns-then-b-eq34 c = rw (byte-in _ c.if-n-eq0.false c.if-n-gt255.false, eq-eqb _ _ c.if-b-eq34.true)

pub returns-then-b-eq92 : goal.returns-then-b-eq92
unfolding octal_byte onto plain_turn machine_open
returns-then-b-eq92 c = rw (byte-in _ c.if-n-eq0.false c.if-n-gt255.false, ne_eqb _ _ c.if-b-eq34.false, eq-eqb _ _ c.if-b-eq92.true)

pub returns-then-is_string_byte : goal.returns-then-is_string_byte
unfolding octal_byte onto plain_turn machine_open
returns-then-is_string_byte c = rw (byte-in _ c.if-n-eq0.false c.if-n-gt255.false, ne_eqb _ _ c.if-b-eq34.false, ne_eqb _ _ c.if-b-eq92.false, ← c.is_string_byte.ensures, c.if-is_string_byte.true)

pub returns : goal.returns
unfolding octal_byte onto plain_turn machine_open
returns c = rw (byte-in _ c.if-n-eq0.false c.if-n-gt255.false, ne_eqb _ _ c.if-b-eq34.false, ne_eqb _ _ c.if-b-eq92.false, ← c.is_string_byte.ensures, c.if-is_string_byte.false)
