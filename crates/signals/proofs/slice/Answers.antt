-- `slice` meets its contract: by the bounds that keep the number rules.
-- Assumes nothing.
use Rattle.signals.specs.Reads.{slot_in}
use Rattle.signals.proofs.SliceLaws.{slice-high, slice-low, slice-one, slice-two}
use Rattle.signals.proofs.slice.Goals as goal

pub returns-in_default : goal.returns-in_default
returns-in_default c = slice-high _ _ _ _ c.merge.ensures (rw c.in_default.is at c.integer_of.ensures)

pub returns-in_default-integer_of : goal.returns-in_default-integer_of
unfolding slot_in
returns-in_default-integer_of c = rw c.in-Some-low.is (slice-low _ _ _ _ c.merge.ensures (rw c.in_default-integer_of.is at c.integer_of-in-Some-low.ensures))

pub returns-in-None : goal.returns-in-None
unfolding slot_in
returns-in-None c =
    let H = rw c.in-Some.is at c.integer_of.ensures in
    rw c.in-None.is (slice-one _ _ _ _ H.0 H.1 c.cut.ensures)

pub returns-in-Some-integer_of : goal.returns-in-Some-integer_of
unfolding slot_in
returns-in-Some-integer_of c =
    let H = rw c.in-Some.is at c.integer_of.ensures in
    let L = rw c.in-Some-integer_of.is at c.integer_of-in-Some-low.ensures in
    rw c.in-Some-low.is (slice-two _ _ _ _ H.0 H.1 _ _ L.0 L.1 c.cut-in-Some-low.ensures)
