-- What a call leaves: number, place and all memory lent.
use Rattle.std.specs.Prelude.{ℕ, List}
use Rattle.rules.specs.Layout.{Memory}

-- number, place, and all memory lent
pub record Result : Type 0 where
  pub number : ℕ
  pub place : ℕ
  pub memory : Memory

abbrev pub result : ℕ → ℕ → Memory → Result
result n p m = record { number = n; place = p; memory = m }

-- the five tables with the counts of the card
abbrev pub lent : (names strings bits wires rows : List ℕ) (renames room : ℕ) → Memory
lent n s b w r k m = record { names = n; strings = s; bits = b; wires = w; rows = r; renames = k; room = m }
