-- `decimal` meets its contract. The invariant: going on with n from there on gives, capped, the whole number.
-- Assumes nothing.
use mathlib.Core.Path.{refl, sym, ◌∙◌}
use borrow.Author.Rules.{rules}
use Rattle.rules.specs.Tokens.{decimal}
use Rattle.scanner.proofs.NumberLaws.{capped_le, number_more, number-end}
use Rattle.scanner.proofs.decimals.decimal.Goals as goal

pub loop-b-init : goal.loop-b-init
unfolding decimal
loop-b-init c = (search rules, refl)

pub loop-b-preserved : goal.loop-b-preserved
loop-b-preserved c = (rw c.more_digit-n.ensures (capped_le _), c.loop-b.invariant.1 ∙ number_more _ _ _ c.loop-b-test.true ∙ rw c.more_digit-n.ensures)

pub returns : goal.returns
returns c = sym (c.loop-b.invariant.1 ∙ number-end _ _ _ c.loop-b-test.false c.loop-b.invariant.0)
