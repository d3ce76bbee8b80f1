-- The name's bytes are those of `\hdlname`.
-- Assumes nothing.
use Rattle.show.specs.Rows.{is_hdlname}
use Rattle.show.proofs.is_hdlname.Goals as goal

pub returns : goal.returns
unfolding is_hdlname
returns c = rw (← c.row_name.ensures) c.same_bytes.ensures
