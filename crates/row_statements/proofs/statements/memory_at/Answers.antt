-- The name, the numbers, then the row.
-- Assumes nothing.
use mathlib.Core.Path.{refl, sym, ◌∙◌}
use native.Mathlib.Omega.{arith}
use borrow.Author.Tests.{not-true, not-false, le-leb, lt-leb}
use Rattle.rules.specs.Layout.{padded, row}
use Rattle.tables.specs.Row.{words}
use Rattle.lists.specs.Bytes.{within-yes, within-below, within-above}
use Rattle.row_statements.proofs.PartLaws.{positive}
use Rattle.row_statements.proofs.KindLaws.{memory-name, memory-width, memory-size, memory-settled}
use Rattle.row_statements.proofs.statements.memory_at.Goals as goal

pub returns-then-not-name_stands : goal.returns-then-not-name_stands
returns-then-not-name_stands c = memory-name _ _ _ (sym c.name_stands.ensures ∙ not-true _ c.if-not-name_stands.true-raw)

pub returns-then-r-eq0 : goal.returns-then-r-eq0
returns-then-r-eq0 c = memory-width _ _ _ (within-below 1 2048 _ (omega (arith, c.if-r-eq0.true)))

pub returns-then-r-gt-MOST_WIDTH : goal.returns-then-r-gt-MOST_WIDTH
returns-then-r-gt-MOST_WIDTH c = memory-width _ _ _ (within-above 1 2048 _ c.if-r-gt-MOST_WIDTH.true)

pub returns-then-r-gt-MOST_MEMORY_SIZE : goal.returns-then-r-gt-MOST_MEMORY_SIZE
returns-then-r-gt-MOST_MEMORY_SIZE c = memory-size _ _ _ (lt-leb _ _ c.if-r-gt-MOST_MEMORY_SIZE.true)

pub returns : goal.returns
unfolding words row padded
returns c =
    let name-stands = c.name_stands in
    let if1 = c.if-not-name_stands in
    let if2 = c.if-r-eq0 in
    let if3 = c.if-r-gt-MOST_WIDTH in
    memory-settled _ _ _ (sym name-stands.ensures ∙ not-false _ if1.false-raw)
    (within-yes 1 2048 _ (positive _ if2.false) if3.false) (le-leb _ _ c.if-r-gt-MOST_MEMORY_SIZE.false) (omega arith) _
    refl _ c.settle.ensures
