use mathlib.Core.Path.{refl}
use Rattle.std.proofs.lemmas.Result.{err_from_is_err_and}
use Rattle.file_reader.proofs.ZeroLaws.{zero-tables}
use Rattle.one_wire.proofs.SeekLaws.{sought-long, sought-accepted, sought-refused}
use Rattle.one_wire.proofs.seek_wire.Goals as goal

pub returns-then-size-gt-MOST_FILE_BYTES : goal.returns-then-size-gt-MOST_FILE_BYTES
returns-then-size-gt-MOST_FILE_BYTES c = sought-long _ _ _ c.if-size-gt-MOST_FILE_BYTES.true

pub read_until-requires-clause-rows_value : goal.read_until-requires-clause-rows_value
read_until-requires-clause-rows_value c = zero-tables refl refl refl refl refl

pub returns-in_err-standing : goal.returns-in_err-standing
returns-in_err-standing c =
    let p = err_from_is_err_and c.from_residual.result c.from_residual.ensures.1 in
    rw (p.1, p.2) (sought-refused _ _ _ c.if-size-gt-MOST_FILE_BYTES.false _ _ _ c.read_until.ensures c.in_err-standing.was)

pub returns : goal.returns
returns c =
    sought-accepted _ _ _ c.if-size-gt-MOST_FILE_BYTES.false _ _ _ c.read_until.ensures c.in_ok-standing.was c.find_wire.result c.find_wire.ensures
