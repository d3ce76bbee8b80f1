-- Cut at the length, the span is the same part.
use mathlib.Core.Logic.{inl, inr}
use native.Mathlib.Omega.{arith}
use lib.ListN.{length}
use Rattle.lists.specs.Tests.{by_order}
use Rattle.scanner.proofs.RunLaws.{cut-part}
use Rattle.scanner.proofs.parts.part.Goals as goal

pub returns : goal.returns
returns g c =
    let m = c.min-stop.ensures in
    cut-part c.args.start c.args.end c.min-stop.result c.args.s.now
    (by_order (length c.args.s.now) c.args.end (λ h. inr (h, omega (arith, m))) (λ h. inl (omega (arith, m))))
