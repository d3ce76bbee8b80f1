-- The three directions, the last one first.
-- Assumes nothing.
use mathlib.Core.List.{[]}
use mathlib.Core.Path.{refl}
use mathlib.Core.Option.{Option-elim}
use Rattle.rules.specs.Statements.{input, output, inout}
use Rattle.rules.specs.Bytes.{all}
use Rattle.rules.specs.Numbers.{port_of}
use Rattle.rules.specs.Layout.{direction_code}
use Rattle.option_rules.specs.Limits.{ports_in, ports_good}
use Rattle.option_rules.proofs.port_of.Goals as goal

pub returns : goal.returns
unfolding ports_in ports_good port_of all direction_code Option-elim
returns c = c.joined.ensures input _ refl (c.joined-behind.ensures output _ refl (c.joined-last.ensures inout [] refl (refl, refl, refl)))
