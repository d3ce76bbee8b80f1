-- `[h]` or `[h:l]`.
-- Assumes nothing.
use mathlib.Core.Path.{refl}
use Rattle.text.specs.Written.{written-most, written_then, written_as}
use Rattle.signal_text.specs.CutLaws.{bounds-one, bounds-two}
use Rattle.signal_text.proofs.put_bounds.Goals as goal

pub put_decimal-high-requires : goal.put_decimal-high-requires
put_decimal-high-requires c = written-most c.put_bytes-open.ensures

pub put_byte-requires : goal.put_byte-requires
put_byte-requires c = written-most c.put_decimal-high.ensures

pub returns-then-count-eq1 : goal.returns-then-count-eq1
returns-then-count-eq1 c =
    let args = c.args in
    let put-bytes = c.put_bytes-open in
    let put-decimal = c.put_decimal-high in
    let if1 = c.if-count-eq1 in
    let put_byte = c.put_byte in
    written_as (written_then put-bytes.ensures (written_then put-decimal.ensures put_byte.ensures))
    (bounds-one args.low args.count _ refl if1.true)

pub shape_of-out-then-count-eq1 : goal.shape_of-out-then-count-eq1
shape_of-out-then-count-eq1 c = (returns-then-count-eq1 c).kept

pub put_byte-colon-requires : goal.put_byte-colon-requires
put_byte-colon-requires c = written-most c.put_decimal-high.ensures

pub put_decimal-end-requires : goal.put_decimal-end-requires
put_decimal-end-requires c = written-most c.put_byte-colon.ensures

pub put_byte-requires-2 : goal.put_byte-requires-2
put_byte-requires-2 c = written-most c.put_decimal-end.ensures

pub returns : goal.returns
returns c =
    let args = c.args in
    let put-bytes = c.put_bytes-open in
    let put-decimal = c.put_decimal-high in
    let if1 = c.if-count-eq1 in
    let put-byte2 = c.put_byte-colon in
    let put-decimal2 = c.put_decimal-end in
    let put-byte3 = c.put_byte-2 in
    written_as
    (written_then put-bytes.ensures
    (written_then put-decimal.ensures (written_then put-byte2.ensures (written_then put-decimal2.ensures put-byte3.ensures))))
    (bounds-two args.low args.count _ refl if1.false)

pub shape_of-out : goal.shape_of-out
shape_of-out c = (returns c).kept
