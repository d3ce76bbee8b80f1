-- `signed::signed_of` meets its contract.
use borrow.Author.Tests.{lt-ltb}
use mathlib.Core.Path.{◌∙◌}
use native.Mathlib.Omega.{arith}
use lib.IntN.{pos, negsuc}
use mir.Facts.{to_z-of_z}
use Rattle.numbers.specs.Signed.{signed_of}
use Rattle.numbers.proofs.SumLaws.{sum_fits, read_pos, upper}
use Rattle.numbers.proofs.signed.signed_of.Goals as goal

pub overflow_sub-result : goal.overflow_sub-result
overflow_sub-result c = rw (read_pos c.args.w (omega arith)) (sum_fits (pos c.args.w) (negsuc 4294967295) (omega arith))

pub returns-then-w-lt-FIRST_NEGATIVE : goal.returns-then-w-lt-FIRST_NEGATIVE
unfolding signed_of
returns-then-w-lt-FIRST_NEGATIVE c = rw (read_pos c.args.w (omega arith), lt-ltb _ _ c.if-w-lt-FIRST_NEGATIVE.true)

pub returns-else-w-lt-FIRST_NEGATIVE : goal.returns-else-w-lt-FIRST_NEGATIVE
returns-else-w-lt-FIRST_NEGATIVE c =
    rw (read_pos c.args.w (omega arith))
    (to_z-of_z (sum_fits (pos c.args.w) (negsuc 4294967295) (omega arith)) ∙ upper c.args.w c.if-w-lt-FIRST_NEGATIVE.false (omega arith))
