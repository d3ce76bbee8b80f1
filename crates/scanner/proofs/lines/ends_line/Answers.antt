-- `ends_line` meets its contract.
-- Assumes nothing.
use native.Mathlib.Omega.{arith}
use borrow.Author.Tests.{eq-eqb, ne_eqb}
use Rattle.rules.specs.Bytes.{is_line_end}
use Rattle.scanner.proofs.lines.ends_line.Goals as goal

pub returns-then-b-gt13 : goal.returns-then-b-gt13
unfolding is_line_end
returns-then-b-gt13 c = rw (ne_eqb c.args.b 10 (λ e. omega arith), ne_eqb c.args.b 13 (λ e. omega arith))

pub returns-then-b-eq10 : goal.returns-then-b-eq10
unfolding is_line_end
returns-then-b-eq10 c = rw (eq-eqb c.args.b 10 c.if-b-eq10.true)

pub returns : goal.returns
unfolding is_line_end
returns c = rw (ne_eqb c.args.b 10 c.if-b-eq10.false)
