-- A module line: its attributes, itself, what stands in it and its end; of any other row nothing.
-- Assumes nothing.
use native.Mathlib.Omega.{arith}
use Rattle.text.specs.Written.{written-most}
use Rattle.design_text.proofs.Loops.{module-other, module-written}
use Rattle.design_text.proofs.put_module.Goals as goal

pub row_kind-requires : goal.row_kind-requires
row_kind-requires c = tt

pub returns-then-row_kind-ne-MODULE_KIND : goal.returns-then-row_kind-ne-MODULE_KIND
returns-then-row_kind-ne-MODULE_KIND c = module-other _ _ _ _ _ _ c.row_kind.result c.row_kind.ensures c.if-row_kind-ne-MODULE_KIND.true _ _ c.requires.0

pub module_of-m-requires : goal.module_of-m-requires
module_of-m-requires c = tt

pub next_row-to-requires : goal.next_row-to-requires
next_row-to-requires c = tt

pub put_kind-set-requires : goal.put_kind-set-requires
put_kind-set-requires c =
    let pre = c.requires in
    (pre.0, pre.1, omega arith)

pub put_line-line-requires : goal.put_line-line-requires
put_line-line-requires c = (written-most c.put_kind-set.ensures, omega arith, c.requires.1)

pub put_body-body-requires : goal.put_body-body-requires
put_body-body-requires c =
    let pre = c.requires in
    let put-line = c.put_line-line in
    (written-most put-line.ensures, pre.1)

pub put_bytes-requires : goal.put_bytes-requires
put_bytes-requires c = written-most c.put_body-body.ensures

pub returns : goal.returns
returns c =
    let args = c.args in
    let row-kind = c.row_kind in
    let if1 = c.if-row_kind-ne-MODULE_KIND in
    let module-of = c.module_of-m in
    let next_row = c.next_row-to in
    let put-kind = c.put_kind-set in
    let put-line = c.put_line-line in
    let put-body = c.put_body-body in
    let put-bytes = c.put_bytes in
    module-written _ _ _ _ args.k _ row-kind.result row-kind.ensures module-of.result next_row.result
    if1.false module-of.ensures next_row.ensures put-kind.ensures put-line.ensures
    put-body.ensures put-bytes.ensures

pub shape_of-out : goal.shape_of-out
shape_of-out c = (returns c).kept
