-- `sizes::within` meets its contract.
use mathlib.Core.Path.{ap}
use mathlib.Core.Bool.{not}
use lib.Dec.{ltb}
use Rattle.rules.specs.Limits.{most_modules}
use Rattle.rules.specs.Bytes.{any}
use Rattle.context.specs.Sizes.{limits, exceeds}
use Rattle.context.proofs.SizeLaws.{or_from, or_from_lem, limit_tests}
use Rattle.context.proofs.sizes.within.Goals as goal

pub returns : goal.returns
unfolding any limits exceeds or_from limit_tests
returns c =
    let u = c.args.u in
    ap not (or_from_lem (ltb most_modules u.modules) (limit_tests u))
