-- The loop's invariant: i spaces are written.
use native.Mathlib.Omega.{arith}
use Rattle.text.specs.Written.{written_none, written-most, written_then, written_as}
use Rattle.text.proofs.TextLaws.{spaces-more}
use Rattle.text.proofs.put_spaces.Goals as goal

pub loop-init : goal.loop-init
loop-init c = (omega arith, written_none c.args.at c.args.out.now c.requires)

pub put_byte-end-requires : goal.put_byte-end-requires
put_byte-end-requires c = written-most c.loop.invariant.1

pub loop-preserved : goal.loop-preserved
loop-preserved c = (omega arith, written_as (written_then c.loop.invariant.1 c.put_byte-end.ensures) (spaces-more c.loop.counter))
