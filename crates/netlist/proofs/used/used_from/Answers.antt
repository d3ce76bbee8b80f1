-- `used::used_from` meets its contract: each field is the place's or the sizes' own.
use mathlib.Core.Path.{refl}
use Rattle.netlist.proofs.used.used_from.Goals as goal

pub returns : goal.returns
returns c = refl
