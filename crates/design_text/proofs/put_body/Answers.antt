-- One pass behind another.
-- Assumes nothing.
use Rattle.text.specs.Written.{written-most}
use Rattle.design_text.proofs.Loops.{body-written}
use native.Mathlib.Omega.{arith}
use Rattle.design_text.proofs.put_body.Goals as goal

pub put_kind-set-requires : goal.put_kind-set-requires
put_kind-set-requires c = (c.requires.0, c.requires.1, omega arith)

pub put_objects-declared-requires : goal.put_objects-declared-requires
put_objects-declared-requires c = (written-most c.put_kind-set.ensures, c.requires.1)

pub put_objects-memories-requires : goal.put_objects-memories-requires
put_objects-memories-requires c = (written-most c.put_objects-declared.ensures, c.requires.1)

pub put_objects-cells-requires : goal.put_objects-cells-requires
put_objects-cells-requires c = (written-most c.put_objects-memories.ensures, c.requires.1)

pub put_objects-processes-requires : goal.put_objects-processes-requires
put_objects-processes-requires c = (written-most c.put_objects-cells.ensures, c.requires.1)

pub put_kind-requires : goal.put_kind-requires
put_kind-requires c = (written-most c.put_objects-processes.ensures, c.requires.1, omega arith)

pub returns : goal.returns
returns c =
    let put-objects3 = c.put_objects-cells in
    let put-objects4 = c.put_objects-processes in
    let put-kind2 = c.put_kind in
    body-written _ _ _ _ c.put_kind-set.ensures c.put_objects-declared.ensures c.put_objects-memories.ensures put-objects3.ensures put-objects4.ensures
    put-kind2.ensures

pub shape_of-out : goal.shape_of-out
shape_of-out c = (returns c).kept
