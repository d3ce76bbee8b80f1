-- The word, the type, the name.
-- Assumes nothing.
use Rattle.text.specs.Written.{written-most, written_then, written_as}
use Rattle.line_text.specs.LineLaws.{span-name, line-cell}
use Rattle.line_text.proofs.put_cell.Goals as goal

pub put_token-end-requires : goal.put_token-end-requires
put_token-end-requires c = written-most c.put_bytes-first.ensures

pub put_token-requires : goal.put_token-requires
put_token-requires c = written-most c.put_token-end.ensures

pub returns : goal.returns
returns c =
    let args = c.args in
    let put-bytes = c.put_bytes-first in
    let bytes-at = c.bytes_at in
    let put-token = c.put_token-end in
    let bytes-at2 = c.bytes_at-2 in
    let put-token2 = c.put_token in
    written_as (written_then put-bytes.ensures (written_then put-token.ensures put-token2.ensures))
    (line-cell _ _ (span-name args.design.now.names.now args.design.now.rows.now _ args.row 3 bytes-at2.ensures) _ _
    (span-name args.design.now.names.now args.design.now.rows.now _ args.row 1 bytes-at.ensures))

pub shape_of-out : goal.shape_of-out
shape_of-out c = (returns c).kept
