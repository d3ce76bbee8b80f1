-- A space, then the constant by its kind.
-- Assumes nothing.
use Rattle.text.specs.Written.{written-most, written_then, written_as}
use Rattle.line_text.specs.LineLaws.{span-le, constant-value, constant-integer, constant-string}
use native.Mathlib.Omega.{arith}
use Rattle.line_text.proofs.put_constant.Goals as goal

pub put_value-requires : goal.put_value-requires
put_value-requires c = record {
  at_le_past_text = written-most c.put_byte-space.ensures;
  bits_len_bound = omega (arith, span-le _ _ _ _ _ c.words_at.ensures);
}

pub returns-then-kind-eq-CONSTANT_VALUE : goal.returns-then-kind-eq-CONSTANT_VALUE
returns-then-kind-eq-CONSTANT_VALUE c =
    let args = c.args in
    let put_byte = c.put_byte-space in
    let column = c.column-kind in
    let if1 = c.if-kind-eq-CONSTANT_VALUE in
    let words-at = c.words_at in
    let put-value = c.put_value in
    written_as (written_then put_byte.ensures put-value.ensures)
    (constant-value args.design.now.strings.now args.design.now.bits.now args.design.now.rows.now args.row args.c
    column.result column.ensures _ words-at.ensures if1.true)

pub shape_of-out-then-kind-eq-CONSTANT_VALUE : goal.shape_of-out-then-kind-eq-CONSTANT_VALUE
shape_of-out-then-kind-eq-CONSTANT_VALUE c = (returns-then-kind-eq-CONSTANT_VALUE c).kept

pub put_integer-requires : goal.put_integer-requires
put_integer-requires c = written-most c.put_byte-space.ensures

pub returns-then-kind-eq-CONSTANT_INTEGER : goal.returns-then-kind-eq-CONSTANT_INTEGER
returns-then-kind-eq-CONSTANT_INTEGER c =
    let args = c.args in
    let put_byte = c.put_byte-space in
    let column = c.column-kind in
    let if2 = c.if-kind-eq-CONSTANT_INTEGER in
    let column2 = c.column in
    let put-integer = c.put_integer in
    written_as (written_then put_byte.ensures put-integer.ensures)
    (constant-integer args.design.now.strings.now args.design.now.bits.now args.design.now.rows.now args.row args.c
    column.result column.ensures _ column2.ensures if2.true)

pub shape_of-out-then-kind-eq-CONSTANT_INTEGER : goal.shape_of-out-then-kind-eq-CONSTANT_INTEGER
shape_of-out-then-kind-eq-CONSTANT_INTEGER c = (returns-then-kind-eq-CONSTANT_INTEGER c).kept

pub put_string-requires : goal.put_string-requires
put_string-requires c = written-most c.put_byte-space.ensures

pub returns : goal.returns
returns c =
    let args = c.args in
    let put_byte = c.put_byte-space in
    let column = c.column-kind in
    let if1 = c.if-kind-eq-CONSTANT_VALUE in
    let if2 = c.if-kind-eq-CONSTANT_INTEGER in
    let bytes-at = c.bytes_at in
    let put-string = c.put_string in
    written_as (written_then put_byte.ensures put-string.ensures)
    (constant-string args.design.now.strings.now args.design.now.bits.now args.design.now.rows.now args.row args.c
    column.result column.ensures _ bytes-at.ensures if1.false if2.false)

pub shape_of-out : goal.shape_of-out
shape_of-out c = (returns c).kept
