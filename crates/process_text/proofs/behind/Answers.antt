-- The two numbers.
-- Assumes nothing.
use mathlib.Core.Path.{sym, ◌∙◌}
use native.Mathlib.Omega.{arith}
use Rattle.process_text.specs.RowLaws.{level-most, behind-below, behind-beside}
use Rattle.process_text.proofs.behind.Goals as goal

pub overflow_add-result : goal.overflow_add-result
overflow_add-result c =
    let args = c.args in
    let pre = c.requires in
    let level-of = c.level_of-level in
    omega (arith, level-of.ensures, level-most args.z args.kind args.step pre.0 pre.1)

pub returns-then-deepens : goal.returns-then-deepens
returns-then-deepens c = behind-below c.args.z c.args.kind c.args.step _ _ c.opened_by-opened.ensures c.level_of-level.ensures (sym c.deepens.ensures ∙ c.if-deepens.true)

pub returns : goal.returns
returns c = behind-beside c.args.z c.args.kind c.args.step _ _ c.opened_by-opened.ensures c.level_of-level.ensures (sym c.deepens.ensures ∙ c.if-deepens.false)
