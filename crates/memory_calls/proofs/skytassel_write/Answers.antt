-- What `writer::write` ensures.
-- Assumes nothing.
use Rattle.memory_calls.proofs.skytassel_write.Goals as goal

pub returns : goal.returns
returns c = c.write-written.ensures
