-- What `session::rename` ensures, of plain numbers.
-- Assumes nothing.
use Rattle.card_calls.proofs.rename_by_number.Goals as goal

pub returns : goal.returns
returns c = c.rename.ensures
