-- The invariant: the table begins with the indexes of the first m modules.
-- Assumes nothing.
use Prim.Native.Nat.{◌-◌}
use mathlib.Core.Path.{refl}
use native.Mathlib.Omega.{arith}
use borrow.Author.Tests.{not-true, not-false}
use Rattle.byte_order.specs.Order.{indexes_up}
use Rattle.design_order.specs.IndexesLaws.{module-apart, module-fits, part-long, module-told, module-not, told-all}
use Rattle.design_order.proofs.are_sorted.Goals as goal

pub loop-m-init : goal.loop-m-init
unfolding indexes_up
loop-m-init c = refl

pub slice_bounds-is_sorted-end : goal.slice_bounds-is_sorted-end
slice_bounds-is_sorted-end c =
    let args = c.args in
    let pre = c.requires in
    let loop = c.loop-m in
    let module-at = c.module_at-module in
    module-fits args.design.now.names.now args.design.now.wires.now args.design.now.rows.now args.place args.renames loop.m module-at.result module-at.ensures args.index.now pre.wires_in_bounds

pub returns-then-not-is_sorted : goal.returns-then-not-is_sorted
returns-then-not-is_sorted c =
    let args = c.args in
    let loop = c.loop-m in
    let if1 = c.loop-m-test in
    let module-at = c.module_at-module in
    let is_sorted = c.is_sorted in
    module-not args.design.now.names.now args.design.now.wires.now args.design.now.rows.now args.place args.renames loop.m module-at.result module-at.ensures args.index.now _ is_sorted.ensures if1.true (not-true _ c.if-not-is_sorted.true-raw)

pub loop-m-preserved : goal.loop-m-preserved
loop-m-preserved c =
    let args = c.args in
    let loop = c.loop-m in
    let module-at = c.module_at-module in
    let is_sorted = c.is_sorted in
    module-told args.design.now.names.now args.design.now.wires.now args.design.now.rows.now args.place args.renames loop.m module-at.result module-at.ensures args.index.now _ is_sorted.ensures (not-false _ c.if-not-is_sorted.false-raw) loop.invariant

pub returns : goal.returns
returns c =
    let args = c.args in
    let loop = c.loop-m in
    told-all _ _ _ args.index.now loop.m args.place.modules c.loop-m.auto.m-end c.loop-m-test.false loop.invariant
