-- The word, the name.
-- Assumes nothing.
use Rattle.text.specs.Written.{written-most, written_then, written_as}
use Rattle.line_text.specs.LineLaws.{span-name, line-named}
use Rattle.line_text.proofs.put_named.Goals as goal

pub put_token-requires : goal.put_token-requires
put_token-requires c = written-most c.put_bytes-end.ensures

pub returns : goal.returns
returns c =
    let args = c.args in
    let put-bytes = c.put_bytes-end in
    let bytes-at = c.bytes_at in
    let put-token = c.put_token in
    written_as (written_then put-bytes.ensures put-token.ensures)
    (line-named _ _ (span-name args.design.now.names.now args.design.now.rows.now _ args.row 1 bytes-at.ensures) _)

pub shape_of-out : goal.shape_of-out
shape_of-out c = (returns c).kept
