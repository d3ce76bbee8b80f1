-- One piece behind another.
-- Assumes nothing.
use Rattle.text.specs.Written.{written-most}
use Rattle.process_text.specs.RowLaws.{process-written}
use Rattle.process_text.proofs.put_process.Goals as goal

pub put_inside-end-requires : goal.put_inside-end-requires
put_inside-end-requires c = (written-most c.put_line-line.ensures, c.requires.1)

pub put_bytes-requires : goal.put_bytes-requires
put_bytes-requires c = written-most c.put_inside-end.ensures

pub returns : goal.returns
returns c =
    let args = c.args in
    let put-line = c.put_line-line in
    let put-inside = c.put_inside-end in
    let put-bytes = c.put_bytes in
    process-written _ _ args.k args.to put-line.ensures put-inside.ensures put-bytes.ensures

pub shape_of-out : goal.shape_of-out
shape_of-out c = (returns c).kept
