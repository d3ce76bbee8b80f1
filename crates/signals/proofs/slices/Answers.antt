-- `slices` meets its contract. The invariant: the slices from row i on are those that were read and those from row `at` on, and the bits
-- of those that were read are as many as the part's width, from the sum of their low bounds on. The table is written behind the last.
-- Assumes nothing.
use mathlib.Core.Path.{sym, ◌∙◌}
use native.Mathlib.Omega.{arith}
use Rattle.signals.proofs.Parses.{mark-below}
use Rattle.signals.proofs.SliceLaws.{slices-start, slices-read, slices-broken, slices-on}
use Rattle.signals.proofs.slices.Goals as goal

pub loop-at-init : goal.loop-at-init
loop-at-init c = slices-start _ _ _ _ _ _ c.requires.most_width_in_bounds.0 c.requires.tokens_len_bound.1

pub bounds_at-requires : goal.bounds_at-requires
bounds_at-requires c = (c.requires.tokens_len_bound.0, omega (arith, mark-below _ _ _ (sym c.is_mark.ensures ∙ c.loop-at-test.true)))

pub returns-in_err-bounds : goal.returns-in_err-bounds
returns-in_err-bounds c =
    let pre = c.requires in
    let loop = c.loop-at in
    let is-mark = c.is_mark in
    let if1 = c.loop-at-test in
    rw c.from_residual.ensures
    (slices-broken _ _ _ _ _ _ pre.most_width_in_bounds.0 _ _ loop.invariant (sym is-mark.ensures ∙ if1.true) c.in_err-bounds.ensures)

pub loop-at-preserved : goal.loop-at-preserved
loop-at-preserved c =
    let pre = c.requires in
    let loop = c.loop-at in
    let is-mark = c.is_mark in
    let if1 = c.loop-at-test in
    slices-on _ _ _ _ _ _ pre.most_width_in_bounds.0 _ _ loop.invariant (sym is-mark.ensures ∙ if1.true) _
    c.in_ok-bounds.ensures _ c.slice-part.ensures

pub returns : goal.returns
returns c =
    let pre = c.requires in
    let loop = c.loop-at in
    let is-mark = c.is_mark in
    let if1 = c.loop-at-test in
    let move-part = c.move_part in
    slices-read _ _ _ _ _ _ pre.most_width_in_bounds.0 _ _ loop.invariant _ (sym is-mark.ensures ∙ if1.false) move-part.ensures
