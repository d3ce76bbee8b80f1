-- One option behind another.
-- Assumes nothing.
use Rattle.text.specs.Written.{written-most, written_then, written_as}
use Rattle.rules.specs.Text.{setting}
use Rattle.line_text.specs.LineLaws.{memory-options}
use Rattle.line_text.proofs.put_memory_options.Goals as goal

pub put_setting-size-requires : goal.put_setting-size-requires
put_setting-size-requires c = written-most c.put_setting-width.ensures

pub put_offset-requires : goal.put_offset-requires
put_offset-requires c = written-most c.put_setting-size.ensures

pub returns : goal.returns
unfolding setting
returns c =
    let args = c.args in
    let column = c.column in
    let put-setting = c.put_setting-width in
    let column2 = c.column-2 in
    let put-setting2 = c.put_setting-size in
    let column3 = c.column-3 in
    let put-offset = c.put_offset in
    written_as (written_then put-setting.ensures (written_then put-setting2.ensures put-offset.ensures))
    (memory-options args.rows.now args.row _ _ _ column.ensures column2.ensures column3.ensures)

pub shape_of-out : goal.shape_of-out
shape_of-out c = (returns c).kept
