-- The loop's invariant: the first i bytes of s are written, each as it stands in a string.
use native.Mathlib.Omega.{arith}
use mathlib.Core.List.{flat_map}
use Rattle.rules.specs.Text.{escaped}
use Rattle.text.specs.Written.{written_none, written-most, written_then, written_as}
use Rattle.lists.specs.Lists.{flat_map-more}
use Rattle.constant_text.proofs.put_mixed.Goals as goal

pub loop-b-init : goal.loop-b-init
unfolding flat_map
loop-b-init c = (omega arith, written_none c.args.at c.args.out.now c.requires)

pub put_escaped-end-requires : goal.put_escaped-end-requires
put_escaped-end-requires c = written-most c.loop-b.invariant.1

pub loop-b-preserved : goal.loop-b-preserved
loop-b-preserved c =
    let args = c.args in
    let loop = c.loop-b in
    let put-escaped = c.put_escaped-end in (
      omega arith,
      written_as (written_then loop.invariant.1 put-escaped.ensures)
          (flat_map-more escaped args.s.now loop.b-index 0 (omega arith)),
    )
