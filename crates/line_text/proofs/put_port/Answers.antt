-- One of three directions, or nothing.
-- Assumes nothing.
use Rattle.text.specs.Written.{written_none, written-most, written_then, written_as}
use borrow.Author.Tests.{ne_eqb}
use mathlib.Core.List.{Option-to_list}
use lib.IntN.{pos}
use Rattle.rules.specs.Bytes.{bytes}
use Rattle.rules.specs.Text.{setting, direction_word, option_tokens, integer_text, behind}
use Rattle.wires.specs.Rows.{port_of}
use Rattle.signal_text.specs.Pieces.{spread}
use Rattle.line_text.specs.LineLaws.{option-number}
use Rattle.line_text.proofs.put_port.Goals as goal

pub put_number-requires : goal.put_number-requires
put_number-requires c = written-most c.put_bytes-end.ensures

pub returns-then-direction-eq-PORT_INPUT : goal.returns-then-direction-eq-PORT_INPUT
unfolding port_of Option-to_list direction_word setting integer_text
returns-then-direction-eq-PORT_INPUT c =
    let args = c.args in
    let if1 = c.if-direction-eq-PORT_INPUT in
    let put-bytes = c.put_bytes-end in
    let put-number = c.put_number in
    rw if1.true
    (written_as (written_then put-bytes.ensures put-number.ensures) (option-number (bytes "input") (pos args.n)))

pub shape_of-out-then-direction-eq-PORT_INPUT : goal.shape_of-out-then-direction-eq-PORT_INPUT
shape_of-out-then-direction-eq-PORT_INPUT c = (returns-then-direction-eq-PORT_INPUT c).kept

pub put_number-requires-then-direction-eq-PORT_OUTPUT : goal.put_number-requires-then-direction-eq-PORT_OUTPUT
put_number-requires-then-direction-eq-PORT_OUTPUT c = written-most c.put_bytes-end-then-direction-eq-PORT_OUTPUT.ensures

pub returns-then-direction-eq-PORT_OUTPUT : goal.returns-then-direction-eq-PORT_OUTPUT
unfolding port_of Option-to_list direction_word setting integer_text
returns-then-direction-eq-PORT_OUTPUT c =
    let args = c.args in
    let if2 = c.if-direction-eq-PORT_OUTPUT in
    let put-bytes2 = c.put_bytes-end-then-direction-eq-PORT_OUTPUT in
    let put-number2 = c.put_number-then-direction-eq-PORT_OUTPUT in
    rw if2.true
    (written_as (written_then put-bytes2.ensures put-number2.ensures) (option-number (bytes "output") (pos args.n)))

pub shape_of-out-then-direction-eq-PORT_OUTPUT : goal.shape_of-out-then-direction-eq-PORT_OUTPUT
shape_of-out-then-direction-eq-PORT_OUTPUT c = (returns-then-direction-eq-PORT_OUTPUT c).kept

pub put_number-requires-then-direction-eq-PORT_INOUT : goal.put_number-requires-then-direction-eq-PORT_INOUT
put_number-requires-then-direction-eq-PORT_INOUT c = written-most c.put_bytes-end-then-direction-eq-PORT_INOUT.ensures

pub returns-then-direction-eq-PORT_INOUT : goal.returns-then-direction-eq-PORT_INOUT
unfolding port_of Option-to_list direction_word setting integer_text
returns-then-direction-eq-PORT_INOUT c =
    let args = c.args in
    let if3 = c.if-direction-eq-PORT_INOUT in
    let put-bytes3 = c.put_bytes-end-then-direction-eq-PORT_INOUT in
    let put-number3 = c.put_number-then-direction-eq-PORT_INOUT in
    rw if3.true
    (written_as (written_then put-bytes3.ensures put-number3.ensures) (option-number (bytes "inout") (pos args.n)))

pub shape_of-out-then-direction-eq-PORT_INOUT : goal.shape_of-out-then-direction-eq-PORT_INOUT
shape_of-out-then-direction-eq-PORT_INOUT c = (returns-then-direction-eq-PORT_INOUT c).kept

pub returns : goal.returns
unfolding port_of Option-to_list direction_word setting integer_text option_tokens spread behind
returns c = rw (ne_eqb _ _ c.if-direction-eq-PORT_INPUT.false, ne_eqb _ _ c.if-direction-eq-PORT_OUTPUT.false, ne_eqb _ _ c.if-direction-eq-PORT_INOUT.false) (written_none c.args.at c.args.out.now c.requires)
