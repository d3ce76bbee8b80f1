-- The span, then its bits.
-- Assumes nothing.
use mathlib.Core.Path.{refl, sym, ap, ◌∙◌}
use native.Mathlib.Omega.{arith}
use borrow.Author.Tests.{not-true, not-false}
use Rattle.rules.specs.Bytes.{all}
use Rattle.row_statements.proofs.Spans.{whole-inside}
use Rattle.row_statements.proofs.PartLaws.{taken-span, bits_out, bits_none, bits-all}
use Rattle.row_statements.proofs.wiring.bits_stand.Goals as goal

pub returns-then-not-is_whole : goal.returns-then-not-is_whole
returns-then-not-is_whole c names = bits_out _ _ _ _ (c.is_whole.ensures _ refl) (not-true _ c.if-not-is_whole.true-raw)

pub returns-then-size-eq0 : goal.returns-then-size-eq0
returns-then-size-eq0 c names = bits_none _ _ _ _ c.if-size-eq0.true

pub slice_bounds-all_fit-end : goal.slice_bounds-all_fit-end
slice_bounds-all_fit-end c =
    let args = c.args in
    let is_whole = c.is_whole in
    let if1 = c.if-not-is_whole in
    whole-inside args.design.now.bits.now args.at args.size
    (sym (is_whole.ensures args.design.now.bits.now refl) ∙ not-false _ if1.false-raw) (omega arith)

pub returns : goal.returns
returns c names = bits-all _ _ _ _ (c.is_whole.ensures _ refl) (not-false _ c.if-not-is_whole.false-raw) (c.all_fit.ensures names ∙ ap (all _) (taken-span c.args.design.now.bits.now c.args.at c.args.size))
