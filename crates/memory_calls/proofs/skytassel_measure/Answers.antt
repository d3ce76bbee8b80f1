-- What `writer::measure` ensures.
-- Assumes nothing.
use Rattle.memory_calls.proofs.skytassel_measure.Goals as goal

pub returns : goal.returns
returns c = c.measure-measured.ensures
