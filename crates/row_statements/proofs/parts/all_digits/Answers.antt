use Rattle.std.proofs.Common.{refl, arith}
use Rattle.rules.specs.Bytes.{all}
use Rattle.row_statements.specs.Parts.{is_digit}
use Rattle.row_statements.proofs.PartLaws.{all-next, all-taken}
use Rattle.row_statements.proofs.parts.all_digits.Goals as goal

pub loop-code-init : goal.loop-code-init
unfolding all
loop-code-init c = refl

pub loop-code-preserved : goal.loop-code-preserved
unfolding is_digit
loop-code-preserved c = rw c.loop-code.invariant (all-next is_digit _ _ (omega arith))

pub returns : goal.returns
returns c = rw c.loop-code.invariant (all-taken is_digit _ _ (omega arith))
