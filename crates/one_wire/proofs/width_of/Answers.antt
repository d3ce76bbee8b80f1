use Rattle.one_wire.proofs.SeekLaws.{width-told, width-refused}
use Rattle.one_wire.proofs.width_of.Goals as goal

pub returns-in-Ok : goal.returns-in-Ok
returns-in-Ok c = width-told _ _ _ _ c.seek_wire.ensures _ c.in-Ok.is

pub returns-in-Err : goal.returns-in-Err
returns-in-Err c = width-refused _ _ _ _ c.seek_wire.ensures _ c.in-Err.is
