-- What `reader::check` ensures.
-- Assumes nothing.
use Rattle.file_calls.proofs.skytassel_check.Goals as goal

pub returns : goal.returns
returns c = c.check-found.ensures
