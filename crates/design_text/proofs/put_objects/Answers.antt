-- The loop's invariant: the objects in the rows before k are written.
-- Assumes nothing.
use native.Mathlib.Omega.{arith}
use Rattle.text.specs.Written.{written-most}
use Rattle.text.specs.Reaches.{reaches-start, reaches-next, reaches_end}
use Rattle.design_text.proofs.Loops.{object-next, object-none}
use Rattle.design_text.proofs.put_objects.Goals as goal

pub loop-k-init : goal.loop-k-init
loop-k-init c = reaches-start _ _ _ c.requires.0

pub put_object-end-requires : goal.put_object-end-requires
put_object-end-requires c = (written-most c.loop-k.invariant.written, c.requires.1, omega arith)

pub row_kind-requires : goal.row_kind-requires
row_kind-requires c = tt

pub loop-k-preserved : goal.loop-k-preserved
loop-k-preserved c = reaches-next c.loop-k.invariant c.put_object-end.ensures (object-next _ _ _ _ _ _ _ _ (omega arith) c.row_kind.ensures c.waiting_from-first.ensures)

pub shape_of-out : goal.shape_of-out
shape_of-out c = c.loop-k.invariant.written.kept

pub returns : goal.returns
returns c = reaches_end c.loop-k.invariant (object-none _ _ _ _ _ _ (omega arith))
