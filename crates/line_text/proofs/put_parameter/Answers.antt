-- The word, the name, and the constant if there is one.
-- Assumes nothing.
use Rattle.text.specs.Written.{written-most, written_then, written_as}
use Rattle.line_text.specs.LineLaws.{span-name, line-no-constant, line-parameter}
use native.Mathlib.Omega.{arith}
use Rattle.line_text.proofs.put_parameter.Goals as goal

pub put_token-end-requires : goal.put_token-end-requires
put_token-end-requires c = written-most c.put_bytes-first.ensures

pub returns-then-column-eq0 : goal.returns-then-column-eq0
returns-then-column-eq0 c =
    let args = c.args in
    let put-bytes = c.put_bytes-first in
    let bytes-at = c.bytes_at in
    let put-token = c.put_token-end in
    written_as (written_then put-bytes.ensures put-token.ensures)
    (line-no-constant _ _ (span-name args.design.now.names.now args.design.now.rows.now _ args.row 1 bytes-at.ensures)
    args.design.now.strings.now args.design.now.bits.now args.design.now.rows.now args.row 3 _ c.column.ensures
    c.if-column-eq0.true)

pub shape_of-out-then-column-eq0 : goal.shape_of-out-then-column-eq0
shape_of-out-then-column-eq0 c = (returns-then-column-eq0 c).kept

pub put_constant-requires : goal.put_constant-requires
put_constant-requires c = (written-most c.put_token-end.ensures, omega arith, omega arith, omega arith)

pub returns : goal.returns
returns c =
    let args = c.args in
    let put-bytes = c.put_bytes-first in
    let bytes-at = c.bytes_at in
    let put-token = c.put_token-end in
    let column = c.column in
    let if1 = c.if-column-eq0 in
    let put-constant = c.put_constant in
    written_as (written_then put-bytes.ensures (written_then put-token.ensures put-constant.ensures))
    (line-parameter _ _ (span-name args.design.now.names.now args.design.now.rows.now _ args.row 1 bytes-at.ensures)
    args.design.now.strings.now args.design.now.bits.now args.design.now.rows.now args.row 3 _ column.ensures if1.false)

pub shape_of-out : goal.shape_of-out
shape_of-out c = (returns c).kept
