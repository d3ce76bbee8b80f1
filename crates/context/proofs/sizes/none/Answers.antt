-- `sizes::none` meets its contract.
use mathlib.Core.Path.{refl}
use Rattle.rules.specs.Judgement.{sum}
use Rattle.context.specs.Sizes.{sizes_by, sums_of}
use Rattle.context.proofs.sizes.none.Goals as goal

pub returns : goal.returns
unfolding sum sizes_by sums_of
returns c = refl
