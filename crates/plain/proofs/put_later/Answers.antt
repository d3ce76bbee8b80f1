-- The loop's invariant: what the first i bytes become is put.
use mathlib.Core.List.{flat_map}
use native.Mathlib.Omega.{arith}
use Rattle.rules.specs.Plain.{plain_byte}
use Rattle.lists.specs.Lists.{flat_map-more}
use Rattle.plain.specs.Put.{put-none, put-kept, put_then, put_as, part-fits}
use Rattle.plain.proofs.put_later.Goals as goal

pub loop-b-init : goal.loop-b-init
unfolding flat_map
loop-b-init c = (omega arith, put-none c.args.at c.args.out.now)

pub put_plain-end-requires : goal.put_plain-end-requires
put_plain-end-requires c =
    let args = c.args in
    let pre = c.requires in
    let loop = c.loop-b in
    let loop-test = c.loop-b-test in
    omega (arith, pre, loop.invariant.1.place, put-kept loop.invariant.1, part-fits plain_byte args.s.now loop.b-index loop-test.true)

pub loop-b-preserved : goal.loop-b-preserved
loop-b-preserved c =
    let args = c.args in
    let loop = c.loop-b in
    let put-plain = c.put_plain-end in
    (omega arith, put_as (put_then loop.invariant.1 put-plain.ensures) (flat_map-more plain_byte args.s.now loop.b-index 0 (omega arith)))
