-- The word, the name, the constant.
-- Assumes nothing.
use Rattle.text.specs.Written.{written-most, written_then, written_as}
use Rattle.line_text.specs.LineLaws.{span-name, line-attribute}
use native.Mathlib.Omega.{arith}
use Rattle.line_text.proofs.put_attribute.Goals as goal

pub put_token-end-requires : goal.put_token-end-requires
put_token-end-requires c = written-most c.put_bytes-first.ensures

pub put_constant-requires : goal.put_constant-requires
put_constant-requires c = (written-most c.put_token-end.ensures, omega arith, omega arith, omega arith)

pub returns : goal.returns
returns c =
    let args = c.args in
    let put-bytes = c.put_bytes-first in
    let bytes-at = c.bytes_at in
    let put-token = c.put_token-end in
    let put-constant = c.put_constant in
    written_as (written_then put-bytes.ensures (written_then put-token.ensures put-constant.ensures))
    (line-attribute _ _ (span-name args.design.now.names.now args.design.now.rows.now _ args.row 1 bytes-at.ensures) _)

pub shape_of-out : goal.shape_of-out
shape_of-out c = (returns c).kept
