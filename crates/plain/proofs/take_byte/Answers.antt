-- One law for each return.
use Prim.Native.Nat.{◌+◌}
use native.Mathlib.Omega.{arith}
use lib.ListN.{get_or}
use Rattle.plain.proofs.ByteLaws.{hex-most}
use Rattle.plain.proofs.TakenLaws.{taken-kept, taken-nothing, taken-digits}
use Rattle.plain.proofs.take_byte.Goals as goal

pub returns-then-b-ne95 : goal.returns-then-b-ne95
returns-then-b-ne95 c = taken-kept c.args.form.now c.args.i c.requires c.if-b-ne95.true

pub returns-then-form-i-lt-HEX_ESCAPE : goal.returns-then-form-i-lt-HEX_ESCAPE
returns-then-form-i-lt-HEX_ESCAPE c = taken-nothing c.args.form.now c.args.i c.requires c.if-b-ne95.false c.if-form-i-lt-HEX_ESCAPE.true

pub overflow_mul-value : goal.overflow_mul-value
overflow_mul-value c = omega (arith, c.hex_value.ensures, hex-most (get_or c.args.form.now (c.args.i + 1) 0))

pub overflow_add-value : goal.overflow_add-value
overflow_add-value c =
    let args = c.args in
    let hex-value = c.hex_value in
    let hex-value2 = c.hex_value-2 in
    omega (arith, hex-value.ensures, hex-value2.ensures, hex-most (get_or args.form.now (args.i + 1) 0), hex-most (get_or args.form.now (args.i + 2) 0))

pub returns : goal.returns
returns c =
    let args = c.args in
    let pre = c.requires in
    let if1 = c.if-b-ne95 in
    let if2 = c.if-form-i-lt-HEX_ESCAPE in
    let hex-value = c.hex_value in
    let hex-value2 = c.hex_value-2 in
    taken-digits args.form.now args.i (pre) if1.false if2.false _ (rw (hex-value.ensures, hex-value2.ensures))
