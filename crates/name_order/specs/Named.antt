-- The names now of a module's wires by their numbers, and what a search among them finds.
use Rattle.std.specs.Prelude.{ℕ, ◌+◌, ◌-◌, ◌<◌, List, Some, None}
use Rattle.std.specs.Prelude.{Option as Optional}
use Rattle.rules.specs.Tokens.{Name}
use Rattle.rules.specs.Judgement.{Verdict, accepted, refused}
use Rattle.numbers.specs.declared.kinds.WireNumber.{WireNumber}
use Rattle.wire_names.specs.Now.{name_now}
use Rattle.wire_names.specs.declared.Module.{Module}
use Rattle.byte_order.specs.Order.{Halved}
use Rattle.name_order.specs.declared.Halves.{Halves}

-- the name now of wire j of a module
abbrev pub name_in : (names wires rows : List ℕ) → Module → ℕ → Name
name_in names wires rows m j = name_now names wires rows m.from m.renames m.number.0 j (m.first + j)

unfoldable pub sought : Optional WireNumber → Verdict ℕ
sought (Some w) = accepted w.0
sought None = refused 8

-- what is left behind a turn of the halving: less
pub record NextHalves (n : Name) (ms : List Name) (left next : Halves) : Type 0 where
  pub halved : Halved n ms next.low next.high
  pub less : next.high - next.low < left.high - left.low
