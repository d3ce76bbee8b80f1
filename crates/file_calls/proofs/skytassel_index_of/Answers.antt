-- What `one_wire::index_of` ensures. The index is signed, and a local holds its bits.
-- Assumes nothing.
use mir.Syntax.{w64}
use mir.Facts.{to_z-of_z}
use borrow.Author.Rules.{rules}
use Rattle.file_calls.proofs.skytassel_index_of.Goals as goal

pub returns : goal.returns
returns c = rw (to_z-of_z {w = w64} {z = c.index_of-given.result.index} (search rules)) c.index_of-given.ensures
