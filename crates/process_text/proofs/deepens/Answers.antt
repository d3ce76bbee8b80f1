-- Each of the three tests.
-- Assumes nothing.
use mathlib.Core.Path.{ap}
use mathlib.Core.Bool.{Bool, ◌||◌}
use lib.Dec.{eqb}
use Rattle.process_text.specs.Rows.{deepens}
use Rattle.process_text.proofs.deepens.Goals as goal

pub returns : goal.returns
unfolding deepens
returns c = ap (λ (b : Bool). eqb c.args.step 20 || eqb c.args.step 21 || b) c.is_sync.ensures
