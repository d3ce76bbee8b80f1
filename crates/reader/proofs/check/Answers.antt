use mathlib.Core.Path.{refl}
use Rattle.file_reader.proofs.ZeroLaws.{zero-tables}
use Rattle.reader.proofs.HalfLaws.{checked-long, checked-accepted, checked_refused}
use Rattle.reader.proofs.check.Goals as goal

pub returns-then-size-gt-MOST_FILE_BYTES : goal.returns-then-size-gt-MOST_FILE_BYTES
returns-then-size-gt-MOST_FILE_BYTES c = checked-long _ c.if-size-gt-MOST_FILE_BYTES.true

pub read_file-requires-clause-rows_value : goal.read_file-requires-clause-rows_value
read_file-requires-clause-rows_value c = zero-tables refl refl refl refl refl

pub returns-in-Ok : goal.returns-in-Ok
returns-in-Ok c =
    checked-accepted _ c.if-size-gt-MOST_FILE_BYTES.false _ _ _ c.read_file.ensures c.in-Ok.is

pub returns-in-Err : goal.returns-in-Err
returns-in-Err c =
    checked_refused _ c.if-size-gt-MOST_FILE_BYTES.false _ _ _ c.read_file.ensures c.in-Err.is
