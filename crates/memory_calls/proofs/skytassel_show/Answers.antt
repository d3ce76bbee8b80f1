-- What is shown lies in order, and its part is answered.
-- Assumes nothing.
use Rattle.memory_calls.proofs.PartLaws.{in_order}
use Rattle.memory_calls.proofs.skytassel_show.Goals as goal

pub part_of-requires : goal.part_of-requires
part_of-requires c = in_order c.args.names.now c.args.strings.now c.find_shown-shown.result c.find_shown-shown.ensures.in_range

pub returns : goal.returns
returns c = (_, c.find_shown-shown.ensures.shown_at, c.find_shown-shown.ensures.in_range, c.find_shown-shown.ensures.shown_as, c.part_of.ensures)
