use mathlib.Core.Path.{ap, ◌∙◌}
use Rattle.one_wire.specs.declared.BitIndex.{BitIndex}
use Rattle.one_wire.proofs.SeekLaws.{index-told, index-refused}
use Rattle.one_wire.proofs.index_of.Goals as goal

pub returns-in-Ok : goal.returns-in-Ok
returns-in-Ok c = index-told _ _ _ _ c.seek_wire.ensures _ c.in-Ok.is _ _ c.index_in.ensures

pub returns-in-Err : goal.returns-in-Err
returns-in-Err c =
    ap (λ (r : BitIndex). (r.number, r.place, r.index)) c.no_index.ensures
    ∙ index-refused _ _ _ _ c.seek_wire.ensures _ c.in-Err.is _
