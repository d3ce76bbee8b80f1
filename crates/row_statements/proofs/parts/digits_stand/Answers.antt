-- The span, then its width, then its digits.
-- Assumes nothing.
use mathlib.Core.Path.{refl, sym, ap, ◌∙◌}
use native.Mathlib.Omega.{arith}
use borrow.Author.Tests.{not-true, not-false}
use Rattle.rules.specs.Bytes.{all}
use Rattle.row_statements.proofs.Spans.{whole-inside}
use Rattle.row_statements.specs.Parts.{is_digit, digits_stand}
use Rattle.row_statements.proofs.PartLaws.{taken-span, part_out, part-wide, part-all, part_none}
use Rattle.row_statements.proofs.parts.digits_stand.Goals as goal

pub returns-then-not-is_whole : goal.returns-then-not-is_whole
unfolding digits_stand
returns-then-not-is_whole c = part_out _ _ _ (c.is_whole.ensures _ refl) _ (not-true _ c.if-not-is_whole.true-raw)

pub returns-then-size-gt-MOST_WIDTH : goal.returns-then-size-gt-MOST_WIDTH
unfolding digits_stand
returns-then-size-gt-MOST_WIDTH c = part-wide _ _ _ (c.is_whole.ensures _ refl) is_digit (not-false _ c.if-not-is_whole.false-raw) c.if-size-gt-MOST_WIDTH.true

pub returns-then-size-eq0 : goal.returns-then-size-eq0
unfolding digits_stand
returns-then-size-eq0 c = part_none _ _ _ c.if-size-eq0.true is_digit

pub slice_bounds-all_digits-end : goal.slice_bounds-all_digits-end
slice_bounds-all_digits-end c =
    let args = c.args in
    let is_whole = c.is_whole in
    let if1 = c.if-not-is_whole in
    whole-inside args.bits.now args.at args.size
    (sym (is_whole.ensures args.bits.now refl) ∙ not-false _ if1.false-raw) (omega arith)

pub returns : goal.returns
unfolding digits_stand
returns c = part-all _ _ _ (c.is_whole.ensures _ refl) is_digit (not-false _ c.if-not-is_whole.false-raw) c.if-size-gt-MOST_WIDTH.false (c.all_digits.ensures ∙ ap (all is_digit) (taken-span c.args.bits.now c.args.at c.args.size))
