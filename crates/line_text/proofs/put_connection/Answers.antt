-- The word, the two signals.
-- Assumes nothing.
use mathlib.Core.Path.{ap}
use Rattle.rules.specs.Text.{sig}
use Rattle.text.specs.Written.{written-most, written_then, written_as}
use Rattle.wire_names.specs.Now.{wires_in}
use Rattle.line_text.specs.LineLaws.{span-le, span-signal, line-connection}
use native.Mathlib.Omega.{arith}
use Rattle.line_text.proofs.put_connection.Goals as goal

pub put_signal-end-requires : goal.put_signal-end-requires
put_signal-end-requires c = (written-most c.put_bytes-first.ensures, omega (arith, span-le _ _ _ _ _ c.words_at.ensures))

pub put_signal-requires : goal.put_signal-requires
put_signal-requires c = (written-most c.put_signal-end.ensures, omega (arith, span-le _ _ _ _ _ c.words_at-2.ensures))

pub returns : goal.returns
returns c =
    let args = c.args in
    let put-bytes = c.put_bytes-first in
    let words-at = c.words_at in
    let put-signal = c.put_signal-end in
    let words-at2 = c.words_at-2 in
    let put-signal2 = c.put_signal in
    written_as (written_then put-bytes.ensures (written_then put-signal.ensures put-signal2.ensures))
    (line-connection _ _ _ _
    (ap (sig (wires_in args.design.now.names.now args.design.now.wires.now args.design.now.rows.now args.m))
    (span-signal args.design.now.bits.now args.design.now.rows.now _ args.row 1 words-at.ensures))
    (ap (sig (wires_in args.design.now.names.now args.design.now.wires.now args.design.now.rows.now args.m))
    (span-signal args.design.now.bits.now args.design.now.rows.now _ args.row 3 words-at2.ensures)))

pub shape_of-out : goal.shape_of-out
shape_of-out c = (returns c).kept
