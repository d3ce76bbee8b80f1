-- What `one_wire::width_of` ensures.
-- Assumes nothing.
use Rattle.file_calls.proofs.skytassel_width_of.Goals as goal

pub returns : goal.returns
returns c = c.width_of-wide.ensures
