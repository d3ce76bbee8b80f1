-- By what is asked.
-- Assumes nothing.
use Rattle.replay.proofs.LineLaws.{asked-none, asked-one}
use Rattle.replay.proofs.turns.asked_fits.Goals as goal

pub returns-in-None : goal.returns-in-None
returns-in-None c = asked-none _ _ _ _ _ _ c.asked_width.ensures c.in-None.is

pub returns-in-Some : goal.returns-in-Some
returns-in-Some c = asked-one _ _ _ _ _ _ c.asked_width.ensures _ c.in-Some.is
