-- The loop's invariant: what the first i bytes become is put.
use mathlib.Core.List.{flat_map}
use native.Mathlib.Omega.{arith}
use Rattle.rules.specs.Plain.{low}
use Rattle.lists.specs.Lists.{flat_map-more}
use Rattle.plain.specs.Put.{put-none, put-kept, put_then, put_as, part-fits}
use Rattle.plain.proofs.put_shown.Goals as goal

pub loop-b-init : goal.loop-b-init
unfolding flat_map
loop-b-init c = (omega arith, put-none c.args.at c.args.out.now)

pub put_low-end-requires : goal.put_low-end-requires
put_low-end-requires c =
    let args = c.args in
    let pre = c.requires in
    let loop = c.loop-b in
    let loop-test = c.loop-b-test in
    omega (arith, pre, loop.invariant.1.place, put-kept loop.invariant.1, part-fits low args.s.now loop.b-index loop-test.true)

pub loop-b-preserved : goal.loop-b-preserved
loop-b-preserved c =
    let args = c.args in
    let loop = c.loop-b in
    let put_low = c.put_low-end in
    (omega arith, put_as (put_then loop.invariant.1 put_low.ensures) (flat_map-more low args.s.now loop.b-index 0 (omega arith)))
