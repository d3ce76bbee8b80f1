-- The steps of the calls: memory that is open to them, and why it is not.
use Rattle.std.specs.Prelude.{ℕ, ◌≡◌, true, false, List, reverse, Result, Ok, Err}
use Rattle.rules.specs.Statements.{Statement}
use Rattle.rules.specs.Session.{Rename}
use Rattle.rules.specs.Layout.{Memory}
use Rattle.context.specs.Place.{place_of}
use Rattle.context.specs.declared.place.Place.{Place}
use Rattle.admitted.specs.Holds.{Holds}
use Rattle.netlist.specs.Lengths.{right_lengths}
use Rattle.session.specs.Called.{Damaged}

-- memory of the right lengths that holds a design, whose statements end at a place
pub record Holding (m : Memory) (p : Place) : Type 0 where
  pub statements : List Statement
  pub renames : List Rename
  pub lengths : right_lengths m ≡ true
  pub holds : Holds m statements renames
  pub place : place_of (reverse statements) ≡ p

pub data NotOpen (m : Memory) (n : ℕ) : Type 0 where
  wrong-sizes : right_lengths m ≡ false → n ≡ 1 → NotOpen m n
  none-held : right_lengths m ≡ true → Damaged m → n ≡ 3 → NotOpen m n

abbrev pub OpenedIs : Memory → Result Place ℕ → Type 0
OpenedIs m (Ok p) = Holding m p
OpenedIs m (Err n) = NotOpen m n
