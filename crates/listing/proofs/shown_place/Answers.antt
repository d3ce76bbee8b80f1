-- The place that is found is the definition's.
use Rattle.listing.specs.Lines.{place_at}
use Rattle.listing.proofs.shown_place.Goals as goal

pub returns : goal.returns
unfolding place_at
returns c = c.shown_wire.ensures
