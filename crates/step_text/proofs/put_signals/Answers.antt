-- The loop's invariant: what is left is the text of the signals from word `start` of the bits on.
-- Assumes nothing.
use Prim.Native.Nat.{◌+◌, ◌≤◌}
use native.Mathlib.Omega.{arith}
use lib.ListN.{length}
use Rattle.text.specs.Written.{written-most, written_as}
use Rattle.text.specs.Reaches.{reaches-start, reaches-next, reaches_end}
use Rattle.step_text.specs.StepLaws.{words-le, pieces-left, pieces_end, row-signals}
use Rattle.step_text.proofs.put_signals.Goals as goal

pub loop-left-init : goal.loop-left-init
loop-left-init c = (omega arith, reaches-start _ _ _ c.requires.0)

pub put_listed-end-requires : goal.put_listed-end-requires
put_listed-end-requires c =
    let loop = c.loop-left in
    let args = c.args in
    let signal = c.part-s in
    let h : length signal.result.now ≤ length args.design.now.bits.now = words-le args.design.now.bits.now signal.result.now loop.start (loop.start + c.column-width.result) signal.ensures in
    (written-most loop.invariant.1.written, omega (arith, c.requires.2))

pub loop-left-preserved : goal.loop-left-preserved
loop-left-preserved c =
    (omega arith, reaches-next c.loop-left.invariant.1 c.put_listed-end.ensures (pieces-left _ _ _ _ _ _ _ (omega arith) c.part-s.ensures))

pub shape_of-out : goal.shape_of-out
shape_of-out c = c.loop-left.invariant.1.written.kept

pub returns : goal.returns
returns c = written_as (reaches_end c.loop-left.invariant.1 (pieces_end _ _ _ _ _ _ (omega arith))) (row-signals _ _ _ _ _ _ _ _ c.column-width.ensures c.column-start.ensures c.column-left.ensures)
