use Rattle.std.proofs.Common.{◌-◌, sym, ◌∙◌, arith}
use Rattle.show.proofs.StepLaws.{line-end, line-here, line-next}
use Rattle.show.proofs.wire_line.Goals as goal

pub returns-then-declares : goal.returns-then-declares
returns-then-declares c =
    sym
    (c.loop-k.invariant
    ∙ line-here _ _ c.loop-k.k (c.loop-k.k - 1) _ (omega arith) c.declares.ensures c.if-declares.true)

pub loop-k-preserved : goal.loop-k-preserved
loop-k-preserved c =
    c.loop-k.invariant
    ∙ line-next _ _ c.loop-k.k (c.loop-k.k - 1) _ (omega arith) c.declares.ensures c.if-declares.false

pub returns : goal.returns
returns c = sym (c.loop-k.invariant ∙ line-end _ _ c.loop-k.k (omega arith))
