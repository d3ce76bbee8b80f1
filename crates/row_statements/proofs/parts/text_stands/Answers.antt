-- The span, then its bytes.
-- Assumes nothing.
use mathlib.Core.Path.{refl, sym, ap, ◌∙◌}
use native.Mathlib.Omega.{arith}
use borrow.Author.Tests.{not-true, not-false}
use Rattle.rules.specs.Bytes.{all, within}
use Rattle.row_statements.proofs.Spans.{whole-inside}
use Rattle.row_statements.specs.Parts.{text_stands}
use Rattle.row_statements.proofs.PartLaws.{taken-span, part_out, part_in, text-none}
use Rattle.row_statements.proofs.parts.text_stands.Goals as goal

pub returns-then-not-is_whole : goal.returns-then-not-is_whole
unfolding text_stands
returns-then-not-is_whole c = part_out _ _ _ (c.is_whole.ensures _ refl) _ (not-true _ c.if-not-is_whole.true-raw)

pub returns-then-size-eq0 : goal.returns-then-size-eq0
returns-then-size-eq0 c = text-none _ _ _ c.if-size-eq0.true

pub slice_bounds-all_given-end : goal.slice_bounds-all_given-end
slice_bounds-all_given-end c = whole-inside c.args.strings.now c.args.at c.args.size (sym (c.is_whole.ensures c.args.strings.now refl) ∙ not-false _ c.if-not-is_whole.false-raw) (omega arith)

pub returns : goal.returns
unfolding text_stands
returns c = part_in _ _ _ (c.is_whole.ensures _ refl) (not-false _ c.if-not-is_whole.false-raw) (c.all_given.ensures ∙ ap (all (within 1 255)) (taken-span c.args.strings.now c.args.at c.args.size))
