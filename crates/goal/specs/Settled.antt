-- The test that ends a reading early.
use Rattle.std.specs.Prelude.{◌≡◌, Bool, false, List, ℕ, Some, None, Option as Optional}
use Rattle.rules.specs.Tokens.{Name}
use Rattle.rules.specs.Judgement.{Past}
use Rattle.rules.specs.Quick.{settles}
use Rattle.numbers.specs.declared.kinds.ModuleNumber.{ModuleNumber}
use Rattle.context.specs.Place.{place_of}
use Rattle.context.specs.declared.place.Place.{Place}
use Rattle.netlist.specs.Laid.{rooms_of, Laid}

-- without a module it never holds
unfoldable pub stop_of : Optional ModuleNumber → Name → Past → Bool
stop_of (Some m) n ss = settles m.0 n ss
stop_of None n ss = false

-- r is its answer of any statements that lie so in the tables
abbrev pub SettledAs : (names rows : List ℕ) → Place → Optional ModuleNumber → Name → Bool → Type 0
SettledAs names rows p g n r = (ss : Past) → place_of ss ≡ p → Laid (rooms_of ss) names rows → r ≡ stop_of g n ss
