-- One piece behind another.
-- Assumes nothing.
use Rattle.text.specs.Written.{written-most}
use Rattle.design_text.proofs.Loops.{cell-written}
use native.Mathlib.Omega.{arith}
use Rattle.design_text.proofs.put_cell.Goals as goal

pub put_kind-set-requires : goal.put_kind-set-requires
put_kind-set-requires c = (written-most c.put_line-line.ensures, c.requires.1, omega arith)

pub put_kind-tied-requires : goal.put_kind-tied-requires
put_kind-tied-requires c = (written-most c.put_kind-set.ensures, c.requires.1, omega arith)

pub put_bytes-requires : goal.put_bytes-requires
put_bytes-requires c = written-most c.put_kind-tied.ensures

pub returns : goal.returns
returns c =
    let args = c.args in
    let next_row = c.next_row-end in
    let put-line = c.put_line-line in
    let put-kind = c.put_kind-set in
    let put-kind2 = c.put_kind-tied in
    let put-bytes = c.put_bytes in
    cell-written _ _ args.k _ next_row.result next_row.ensures put-line.ensures put-kind.ensures
    put-kind2.ensures put-bytes.ensures

pub shape_of-out : goal.shape_of-out
shape_of-out c = (returns c).kept
