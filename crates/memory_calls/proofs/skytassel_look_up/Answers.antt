-- What `look_up::look_up` ensures, of a plain number.
-- Assumes nothing.
use Rattle.memory_calls.proofs.skytassel_look_up.Goals as goal

pub returns : goal.returns
returns c = c.look_up-found.ensures
