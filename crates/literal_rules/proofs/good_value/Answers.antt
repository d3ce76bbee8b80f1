-- The width is read with a cap that is above 2,048.
use mathlib.Core.Path.{◌∙◌}
use borrow.Author.Tests.{lt-leb}
use Rattle.literal_rules.proofs.ReadLaws.{read_wide, read-good}
use Rattle.literal_rules.proofs.good_value.Goals as goal

pub returns-then-width-le-MOST_WIDTH : goal.returns-then-width-le-MOST_WIDTH
returns-then-width-le-MOST_WIDTH c = read-good _ _ _ _ _ _ c.part.ensures c.decimal-width.ensures _ c.value_digits.ensures c.if-width-le-MOST_WIDTH.true

pub returns-else-width-le-MOST_WIDTH : goal.returns-else-width-le-MOST_WIDTH
returns-else-width-le-MOST_WIDTH c =
    lt-leb _ _ c.if-width-le-MOST_WIDTH.false
    ∙ read_wide _ _ _ _ _ _ c.part.ensures c.decimal-width.ensures c.if-width-le-MOST_WIDTH.false
