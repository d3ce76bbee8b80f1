-- `line_end` meets its contract. The invariant: from i on the line ends where it ends from `at` on.
-- Assumes nothing.
use mathlib.Core.Path.{sym, ap, ◌∙◌}
use mathlib.Core.Bool.{not}
use Rattle.scanner.proofs.ClassLaws.{in-line}
use Rattle.scanner.proofs.RunLaws.{end_of-all, end_of-more, end_of-stop}
use Rattle.scanner.proofs.lines.line_end.Goals as goal

pub returns-then-ends_line : goal.returns-then-ends_line
returns-then-ends_line c = sym (c.loop-i.invariant ∙ end_of-stop _ _ _ c.loop-i-test.true (in-line _ _ c.ends_line.ensures ∙ ap not c.if-ends_line.true))

pub loop-i-preserved : goal.loop-i-preserved
loop-i-preserved c = c.loop-i.invariant ∙ end_of-more _ _ _ c.loop-i-test.true (in-line _ _ c.ends_line.ensures ∙ ap not c.if-ends_line.false)

pub returns : goal.returns
returns c = c.max.ensures ∙ end_of-all _ _ _ _ c.loop-i.auto.i c.loop-i.auto.i-end c.loop-i-test.false c.loop-i.invariant
