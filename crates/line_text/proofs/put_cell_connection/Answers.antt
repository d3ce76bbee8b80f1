-- The word, the name, the signal.
-- Assumes nothing.
use mathlib.Core.Path.{ap}
use Rattle.rules.specs.Text.{sig}
use Rattle.text.specs.Written.{written-most, written_then, written_as}
use Rattle.wire_names.specs.Now.{wires_in}
use Rattle.line_text.specs.LineLaws.{span-le, span-name, span-signal, line-cell-connection}
use native.Mathlib.Omega.{arith}
use Rattle.line_text.proofs.put_cell_connection.Goals as goal

pub put_token-end-requires : goal.put_token-end-requires
put_token-end-requires c = written-most c.put_bytes-first.ensures

pub put_signal-requires : goal.put_signal-requires
put_signal-requires c = (written-most c.put_token-end.ensures, omega (arith, span-le _ _ _ _ _ c.words_at.ensures))

pub returns : goal.returns
returns c =
    let args = c.args in
    let put-bytes = c.put_bytes-first in
    let bytes-at = c.bytes_at in
    let put-token = c.put_token-end in
    let words-at = c.words_at in
    let put-signal = c.put_signal in
    written_as (written_then put-bytes.ensures (written_then put-token.ensures put-signal.ensures))
    (line-cell-connection _ _
    (span-name args.design.now.names.now args.design.now.rows.now _ args.row 1 bytes-at.ensures) _ _
    (ap (sig (wires_in args.design.now.names.now args.design.now.wires.now args.design.now.rows.now args.m))
    (span-signal args.design.now.bits.now args.design.now.rows.now _ args.row 3 words-at.ensures)))

pub shape_of-out : goal.shape_of-out
shape_of-out c = (returns c).kept
