-- The loop's invariant: the size of what the first i bytes become.
use mathlib.Core.Path.{refl}
use mathlib.Core.List.{flat_map}
use Prim.Native.Nat.{◌+◌}
use native.Mathlib.Omega.{arith}
use lib.ListN.{take}
use lib.Seq.{length-take-le}
use Rattle.rules.specs.Plain.{low}
use Rattle.plain.specs.Put.{flat_map-most, size-more}
use Rattle.plain.specs.FormLaws.{low-most}
use Rattle.plain.proofs.shown_size.Goals as goal

pub loop-b-init : goal.loop-b-init
unfolding flat_map
loop-b-init c = (omega arith, refl)

pub overflow_add-size : goal.overflow_add-size
overflow_add-size c =
    let args = c.args in
    let loop = c.loop-b in
    let loop-test = c.loop-b-test in
    let low-size = c.low_size-size in
    omega (arith, size-more low args.s.now loop.b-index loop.size low-size.result loop-test.true loop.invariant.1 low-size.ensures, flat_map-most low 4 low-most (take (loop.b-index + 1) args.s.now), length-take-le (loop.b-index + 1) args.s.now (omega arith))

pub loop-b-preserved : goal.loop-b-preserved
loop-b-preserved c = (omega arith, size-more low c.args.s.now c.loop-b.b-index c.loop-b.size c.low_size-size.result c.loop-b-test.true c.loop-b.invariant.1 c.low_size-size.ensures)
