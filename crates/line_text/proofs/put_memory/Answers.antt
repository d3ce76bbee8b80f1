-- The word, the options, the name.
-- Assumes nothing.
use Rattle.text.specs.Written.{written-most, written_then, written_as}
use Rattle.line_text.specs.LineLaws.{span-name, line-memory}
use native.Mathlib.Omega.{arith}
use Rattle.line_text.proofs.put_memory.Goals as goal

pub put_memory_options-end-requires : goal.put_memory_options-end-requires
put_memory_options-end-requires c = (written-most c.put_bytes-first.ensures, omega arith)

pub put_token-requires : goal.put_token-requires
put_token-requires c = written-most c.put_memory_options-end.ensures

pub returns : goal.returns
returns c =
    let args = c.args in
    let put-bytes = c.put_bytes-first in
    let put-memory-options = c.put_memory_options-end in
    let bytes-at = c.bytes_at in
    let put-token = c.put_token in
    written_as (written_then put-bytes.ensures (written_then put-memory-options.ensures put-token.ensures))
    (line-memory _ _ (span-name args.design.now.names.now args.design.now.rows.now _ args.row 1 bytes-at.ensures) _)

pub shape_of-out : goal.shape_of-out
shape_of-out c = (returns c).kept
