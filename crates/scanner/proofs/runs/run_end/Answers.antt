-- `run_end` meets its contract. The invariant: from i on the run ends where it ends from `at` on.
-- Assumes nothing.
use mathlib.Core.Path.{sym, ◌∙◌}
use Rattle.scanner.proofs.ClassLaws.{inside, below, above}
use Rattle.scanner.proofs.RunLaws.{end_of-all, end_of-more, end_of-stop}
use Rattle.scanner.proofs.runs.run_end.Goals as goal
use Rattle.scanner.proofs.runs.run_end.Goals.{then-c-lo-via-then-c-lo, then-c-lo-via-else-c-lo+then-hi-c}

pub returns-then-c-lo : goal.returns-then-c-lo
returns-then-c-lo c =
    let ends = end_of-stop _ _ _ c.loop-i-test.true in
    sym (c.loop-i.invariant ∙ ends (elim c.then-c-lo.branch [
      | then-c-lo-via-then-c-lo w ↦ below _ _ _ _ c.class_in-c.ensures w.if-c-lo.true
      | then-c-lo-via-else-c-lo+then-hi-c w ↦ above _ _ _ _ c.class_in-c.ensures w.if-hi-c.true
    ]))

pub loop-i-preserved : goal.loop-i-preserved
loop-i-preserved c = c.loop-i.invariant ∙ end_of-more _ _ _ c.loop-i-test.true (inside _ _ _ _ c.class_in-c.ensures c.if-c-lo.false c.if-hi-c.false)

pub returns : goal.returns
returns c = c.max.ensures ∙ end_of-all _ _ _ _ c.loop-i.auto.i c.loop-i.auto.i-end c.loop-i-test.false c.loop-i.invariant
