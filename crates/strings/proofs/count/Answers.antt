use Rattle.strings.specs.Machine.{given_of}
use Rattle.strings.proofs.count.Goals as goal

pub returns-in-Nothing : goal.returns-in-Nothing
unfolding given_of
returns-in-Nothing c = rw c.in-Nothing.is

pub returns-in-One : goal.returns-in-One
unfolding given_of
returns-in-One c = rw c.in-One.is

pub returns-in-Two : goal.returns-in-Two
unfolding given_of
returns-in-Two c = rw c.in-Two.is
