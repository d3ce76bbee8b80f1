-- The loop's invariant: what is found so far and what the values from the next on tell is what all of them tell.
use mathlib.Core.Path.{sym, ◌∙◌}
use Rattle.zeros.proofs.BlockLaws.{turned, ended}
use Rattle.zeros.proofs.all_same.Goals as goal

pub loop-value-preserved : goal.loop-value-preserved
loop-value-preserved g c =
    rw c.eq-same.ensures
    (turned (g.T.PartialEq.eq c.args.wanted) c.args.part.now c.loop-value.value-index c.loop-value.same _ c.loop-value-test.true c.value-item.is ∙ c.loop-value.invariant)

pub returns : goal.returns
returns g c = sym (ended (g.T.PartialEq.eq c.args.wanted) c.args.part.now c.loop-value.value-index c.loop-value.same c.loop-value-test.false) ∙ c.loop-value.invariant
