-- `name_stands` meets its contract.
-- Assumes nothing.
use mathlib.Core.Path.{refl, ap, ◌∙◌}
use borrow.Author.Tests.{not-true, not-false}
use Rattle.rules.specs.Bytes.{legal}
use Rattle.row_statements.specs.Parts.{span, name_stands}
use Rattle.row_statements.proofs.PartLaws.{part_out, part_in}
use Rattle.row_statements.proofs.parts.name_stands.Goals as goal

pub returns-then-not-is_whole : goal.returns-then-not-is_whole
unfolding name_stands
returns-then-not-is_whole c = part_out _ _ _ (c.is_whole.ensures _ refl) _ (not-true _ c.if-not-is_whole.true-raw)

pub returns : goal.returns
unfolding name_stands span
returns c = part_in _ _ _ (c.is_whole.ensures _ refl) (not-false _ c.if-not-is_whole.false-raw) (c.legal.ensures ∙ ap legal c.part.ensures)
