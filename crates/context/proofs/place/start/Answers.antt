-- `place::start` meets its contract.
use mathlib.Core.Path.{refl}
use Rattle.rules.specs.Judgement.{sum, until, nested, scope, context, of_module, of_cell, of_object}
use Rattle.context.specs.Place.{scope_code, wires_in, place_of}
use Rattle.context.proofs.place.start.Goals as goal

pub returns : goal.returns
unfolding sum until nested scope context of_module of_cell of_object scope_code wires_in place_of
returns c = refl
