-- One piece behind another.
use Rattle.rules.specs.Text.{refusal}
use Rattle.text.specs.Written.{written-most, written_then}
use Rattle.text.proofs.put_refusal.Goals as goal

pub put_byte-space-requires : goal.put_byte-space-requires
put_byte-space-requires c = written-most c.put_decimal-first.ensures

pub put_decimal-second-requires : goal.put_decimal-second-requires
put_decimal-second-requires c = written-most c.put_byte-space.ensures

pub put_byte-requires : goal.put_byte-requires
put_byte-requires c = written-most c.put_decimal-second.ensures

pub returns : goal.returns
unfolding refusal
returns c =
    let put-decimal = c.put_decimal-first in
    let put_byte = c.put_byte-space in
    let put-decimal2 = c.put_decimal-second in
    let put-byte2 = c.put_byte in
    written_then (written_then put-decimal.ensures (written_then put_byte.ensures put-decimal2.ensures))
    put-byte2.ensures
