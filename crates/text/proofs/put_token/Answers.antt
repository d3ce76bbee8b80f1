-- One piece behind another.
-- Assumes nothing.
use Rattle.text.specs.Written.{written-most, written_then}
use Rattle.text.proofs.put_token.Goals as goal

pub put_bytes-requires : goal.put_bytes-requires
put_bytes-requires c = written-most c.put_byte-space.ensures

pub returns : goal.returns
returns c = written_then c.put_byte-space.ensures c.put_bytes.ensures
