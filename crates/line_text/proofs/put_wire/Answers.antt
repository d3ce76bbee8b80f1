-- The word, the options, the name now.
-- Assumes nothing.
use mathlib.Core.Path.{◌≡◌, ◌∙◌}
use Prim.Native.Nat.{◌-◌}
use Rattle.text.specs.Written.{written-most, written_then, written_as}
use Rattle.line_text.specs.LineLaws.{own-now, line-wire}
use native.Mathlib.Omega.{arith}
use Rattle.line_text.proofs.put_wire.Goals as goal
use Rattle.line_text.proofs.put_wire.Goals.{else-m-k, then-m-k}

pub put_wire_options-end-requires : goal.put_wire_options-end-requires
put_wire_options-end-requires c = (written-most c.put_bytes-first.ensures, omega arith)

pub put_token-requires : goal.put_token-requires
put_token-requires c = written-most c.put_wire_options-end.ensures

pub returns : goal.returns
returns c =
    let args = c.args in
    let column = c.column-k in
    let if1 = c.if-m-k in
    let put-bytes = c.put_bytes-first in
    let put-wire-options = c.put_wire_options-end in
    let name-now = c.name_now in
    let put-token = c.put_token in
    let e : if1.n ≡ column.result - args.m.first = (elim if1.branch [ then-m-k w ↦ omega arith | else-m-k w ↦ omega arith ]) in
    rw (← column.ensures)
    (written_as
    (written_then put-bytes.ensures (written_then put-wire-options.ensures put-token.ensures))
    (line-wire _ _
    (name-now.ensures ∙ own-now args.design.now.names.now args.design.now.wires.now args.design.now.rows.now args.m column.result if1.n e)
    _))

pub shape_of-out : goal.shape_of-out
shape_of-out c = (returns c).kept
