-- The loop's invariant: the lines of the rows before k are written.
-- Assumes nothing.
use native.Mathlib.Omega.{arith}
use Rattle.text.specs.Written.{written-most}
use Rattle.text.specs.Reaches.{reaches-start, reaches-next, reaches_end}
use Rattle.design_text.proofs.Loops.{kind-next, kind-none}
use Rattle.design_text.proofs.put_kind.Goals as goal

pub loop-k-init : goal.loop-k-init
loop-k-init c = reaches-start _ _ _ c.requires.0

pub put_row-end-requires : goal.put_row-end-requires
put_row-end-requires c =
    let pre = c.requires in
    let loop = c.loop-k in
    (written-most loop.invariant.written, pre.1, pre.2)

pub loop-k-preserved : goal.loop-k-preserved
loop-k-preserved c = reaches-next c.loop-k.invariant c.put_row-end.ensures (kind-next _ _ _ _ _ _ (omega arith))

pub shape_of-out : goal.shape_of-out
shape_of-out c = c.loop-k.invariant.written.kept

pub returns : goal.returns
returns c = reaches_end c.loop-k.invariant (kind-none _ _ _ _ _ _ (omega arith))
