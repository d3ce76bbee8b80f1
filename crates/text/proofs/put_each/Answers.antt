-- The loop's invariant: the first i bytes of s are written.
use native.Mathlib.Omega.{arith}
use Rattle.text.specs.Written.{written_none, written-most, written_then, written_as}
use Rattle.text.proofs.TextLaws.{bytes-more}
use Rattle.text.proofs.put_each.Goals as goal

pub loop-b-init : goal.loop-b-init
loop-b-init c = (omega arith, written_none c.args.at c.args.out.now c.requires)

pub put_byte-end-requires : goal.put_byte-end-requires
put_byte-end-requires c = written-most c.loop-b.invariant.1

pub loop-b-preserved : goal.loop-b-preserved
loop-b-preserved c =
    let args = c.args in
    let loop = c.loop-b in
    let put_byte = c.put_byte-end in (
      omega arith,
      written_as (written_then loop.invariant.1 put_byte.ensures)
          (bytes-more args.s.now loop.b-index (omega arith)),
    )
