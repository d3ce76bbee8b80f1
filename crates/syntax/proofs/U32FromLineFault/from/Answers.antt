-- By the fault.
use Rattle.syntax.specs.Statements.{number_of}
use Rattle.syntax.proofs.U32FromLineFault.from.Goals as goal

pub returns-in-NoShape : goal.returns-in-NoShape
unfolding number_of
returns-in-NoShape c = rw c.in-NoShape.is

pub returns-in-BadNumber : goal.returns-in-BadNumber
unfolding number_of
returns-in-BadNumber c = rw c.in-BadNumber.is

pub returns-in-MissingWire : goal.returns-in-MissingWire
unfolding number_of
returns-in-MissingWire c = rw c.in-MissingWire.is
