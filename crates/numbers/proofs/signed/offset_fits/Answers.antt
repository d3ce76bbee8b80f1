-- `signed::offset_fits` meets its contract.
use Prim.Native.Nat.{◌-◌}
use borrow.Author.Tests.{eq-eqb, ne_eqb}
use native.Mathlib.Omega.{arith}
use Rattle.numbers.proofs.SumLaws.{sum-fits-at, sum-at, sum-int32}
use Rattle.numbers.proofs.signed.offset_fits.Goals as goal

pub returns-then-width-eq0 : goal.returns-then-width-eq0
returns-then-width-eq0 c = rw (eq-eqb _ _ c.if-width-eq0.true)

pub overflow_add-last : goal.overflow_add-last
overflow_add-last c = sum-fits-at c.signed_of.result c.args.offset (c.args.width - 1) c.signed_of.ensures (omega arith)

pub returns : goal.returns
returns c =
    rw (
      ne_eqb _ _ c.if-width-eq0.false,
      sum-at c.signed_of.result c.args.offset (c.args.width - 1) c.signed_of.ensures (omega arith),
    )
    (sum-int32 c.args.offset (c.args.width - 1))
