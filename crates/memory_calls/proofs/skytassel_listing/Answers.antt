-- What `listing::listing` ensures.
-- Assumes nothing.
use Rattle.memory_calls.proofs.skytassel_listing.Goals as goal

pub returns : goal.returns
returns c = c.listing-listed.ensures
