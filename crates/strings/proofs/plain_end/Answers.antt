-- The loop has reached `i`, and the run of plain bytes ends where it ends from `at` on.
use mathlib.Core.Path.{sym, ◌∙◌}
use borrow.Author.Tests.{not-true, not-false}
use Rattle.scanner.proofs.RunLaws.{end_of-all, end_of-more, end_of-stop}
use Rattle.strings.proofs.plain_end.Goals as goal

pub returns-then-not-is_plain : goal.returns-then-not-is_plain
returns-then-not-is_plain c = sym (c.loop-i.invariant ∙ end_of-stop _ _ _ c.loop-i-test.true (sym c.is_plain.ensures ∙ not-true _ c.if-not-is_plain.true-raw))

pub loop-i-preserved : goal.loop-i-preserved
loop-i-preserved c = c.loop-i.invariant ∙ end_of-more _ _ _ c.loop-i-test.true (sym c.is_plain.ensures ∙ not-false _ c.if-not-is_plain.false-raw)

pub returns : goal.returns
returns c = c.max.ensures ∙ end_of-all _ _ _ _ c.loop-i.auto.i c.loop-i.auto.i-end c.loop-i-test.false c.loop-i.invariant
