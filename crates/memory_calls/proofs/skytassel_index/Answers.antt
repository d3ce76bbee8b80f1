-- What `look_up::index` ensures, of plain numbers. The index is signed, and a local holds its bits.
-- Assumes nothing.
use mir.Syntax.{w64}
use mir.Facts.{to_z-of_z}
use borrow.Author.Rules.{rules}
use Rattle.memory_calls.proofs.skytassel_index.Goals as goal

pub returns : goal.returns
returns c = rw (to_z-of_z {w = w64} {z = c.index-given.result.index} (search rules)) c.index-given.ensures
