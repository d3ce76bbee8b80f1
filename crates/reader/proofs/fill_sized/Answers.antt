use mathlib.Core.Path.{◌∙◌, sym, ap}
use Rattle.reader.specs.Fill.{leaves}
use Rattle.reader.proofs.HalfLaws.{left-accepted, left-refused, left-long, read-any}
use Rattle.reader.proofs.fill_sized.Goals as goal

pub returns-then-f-gt-MOST_FILE_BYTES : goal.returns-then-f-gt-MOST_FILE_BYTES
returns-then-f-gt-MOST_FILE_BYTES c =
    left-long c.args.f.now c.if-f-gt-MOST_FILE_BYTES.true c.clear_tables.ensures

pub returns-in-Ok : goal.returns-in-Ok
returns-in-Ok c =
    left-accepted _ _ _ c.read_file.ensures c.in-Ok.is ∙ sym (ap leaves (read-any c.args.f.now c.if-f-gt-MOST_FILE_BYTES.false))

pub returns-in-Err : goal.returns-in-Err
returns-in-Err c =
    left-refused _ _ _ _ c.read_file.ensures c.in-Err.is c.clear_tables-in-Err.ensures ∙ sym (ap leaves (read-any c.args.f.now c.if-f-gt-MOST_FILE_BYTES.false))
