use native.Mathlib.Omega.{arith}
use borrow.Author.Tests.{ne_eqb}
use Rattle.rules.specs.Tokens.{plain_turn}
use Rattle.strings.specs.Machine.{machine_open}
use Rattle.strings.proofs.plain_turn.Goals as goal

pub returns-in-34 : goal.returns-in-34
unfolding plain_turn machine_open
returns-in-34 c = rw c.in-34.is

pub returns-in-92 : goal.returns-in-92
unfolding plain_turn machine_open
returns-in-92 c = rw c.in-92.is

pub returns-in_default : goal.returns-in_default
unfolding plain_turn machine_open
returns-in_default c = rw (ne_eqb c.args.b 34 (λ e. omega arith), ne_eqb c.args.b 92 (λ e. omega arith), ← c.is_string_byte.ensures, c.if-is_string_byte.true)

pub returns-in_default-2 : goal.returns-in_default-2
unfolding plain_turn machine_open
returns-in_default-2 c = rw (ne_eqb c.args.b 34 (λ e. omega arith), ne_eqb c.args.b 92 (λ e. omega arith), ← c.is_string_byte.ensures, c.if-is_string_byte.false)
