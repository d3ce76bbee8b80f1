-- The loop's invariant: the lines of the rows before k are written.
-- Assumes nothing.
use native.Mathlib.Omega.{arith}
use Rattle.text.specs.Written.{written-most}
use Rattle.text.specs.Reaches.{reaches-start, reaches-next, reaches_end}
use Rattle.process_text.specs.Rows.{row_line}
use Rattle.process_text.specs.RowLaws.{lines_next, lines_none}
use Rattle.process_text.proofs.put_rows.Goals as goal

pub loop-k-init : goal.loop-k-init
loop-k-init c = reaches-start _ _ _ c.requires.0

pub put_line-end-requires : goal.put_line-end-requires
put_line-end-requires c =
    let pre = c.requires in
    let loop = c.loop-k in
    (written-most loop.invariant.written, pre.2, pre.1)

pub loop-k-preserved : goal.loop-k-preserved
unfolding row_line
loop-k-preserved c = reaches-next c.loop-k.invariant c.put_line-end.ensures (lines_next _ _ _ _ _ (omega arith))

pub shape_of-out : goal.shape_of-out
shape_of-out c = c.loop-k.invariant.written.kept

pub returns : goal.returns
returns c = reaches_end c.loop-k.invariant (lines_none _ _ _ _ _ (omega arith))
