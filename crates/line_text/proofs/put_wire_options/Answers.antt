-- One option behind another.
-- Assumes nothing.
use Rattle.text.specs.Written.{written-most, written_then, written_as}
use Rattle.rules.specs.Text.{setting}
use Rattle.line_text.specs.LineLaws.{wire-options}
use Rattle.line_text.proofs.put_wire_options.Goals as goal

pub put_offset-offset-requires : goal.put_offset-offset-requires
put_offset-offset-requires c = written-most c.put_setting-width.ensures

pub put_flag-upto-requires : goal.put_flag-upto-requires
put_flag-upto-requires c = written-most c.put_offset-offset.ensures

pub put_port-port-requires : goal.put_port-port-requires
put_port-port-requires c = written-most c.put_flag-upto.ensures

pub put_flag-requires : goal.put_flag-requires
put_flag-requires c = written-most c.put_port-port.ensures

pub returns : goal.returns
unfolding setting
returns c =
    let args = c.args in
    let column = c.column-flags in
    let column2 = c.column in
    let put-setting = c.put_setting-width in
    let column3 = c.column-2 in
    let put-offset = c.put_offset-offset in
    let put-flag = c.put_flag-upto in
    let column4 = c.column-3 in
    let put-port = c.put_port-port in
    let put-flag2 = c.put_flag in
    written_as
    (written_then put-setting.ensures
    (written_then put-offset.ensures (written_then put-flag.ensures (written_then put-port.ensures put-flag2.ensures))))
    (wire-options args.wires.now args.row _ _ _ _ column2.ensures column3.ensures column.ensures column4.ensures)

pub shape_of-out : goal.shape_of-out
shape_of-out c = (returns c).kept
