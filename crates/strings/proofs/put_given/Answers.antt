use native.Mathlib.Numerals.{towards_suc}
use native.Mathlib.Omega.{arith}
use lib.ListN.{length-set}
use Rattle.tables.specs.Store.{store}
use Rattle.strings.specs.Machine.{given_of}
use Rattle.strings.proofs.put_given.Goals as goal

pub bounds-out-to : goal.bounds-out-to
unfolding given_of
bounds-out-to c = let h = rw c.in-One.is at c.requires in omega (arith, h)

pub bounds-out-to-in-Two : goal.bounds-out-to-in-Two
unfolding given_of
bounds-out-to-in-Two c = let h = rw c.in-Two.is at c.requires in omega (arith, h)

pub bounds-out-to-in-Two-2 : goal.bounds-out-to-in-Two-2
unfolding given_of
bounds-out-to-in-Two-2 c = let h = rw c.in-Two.is at c.requires in simp length-set (omega (arith, h))

pub returns-in-Nothing : goal.returns-in-Nothing
unfolding given_of store
returns-in-Nothing c = record {
  value = rw c.in-Nothing.is (omega arith);
  out_after = rw c.in-Nothing.is;
}

pub shape_of-out-in-One : goal.shape_of-out-in-One
shape_of-out-in-One c = simp length-set

pub returns-in-One : goal.returns-in-One
unfolding given_of store
returns-in-One c = record {
  value = rw c.in-One.is;
  out_after = rw c.in-One.is;
}

pub shape_of-out-in-Two : goal.shape_of-out-in-Two
shape_of-out-in-Two c = simp length-set

pub returns-in-Two : goal.returns-in-Two
unfolding given_of store
returns-in-Two c = record {
  value = rw c.in-Two.is;
  out_after = rw c.in-Two.is (simp towards_suc);
}
