-- The invariant: the wires from the one reached on stand in order, in their part of the table.
-- Assumes nothing.
use Prim.Native.Nat.{◌+◌, ◌-◌}
use mathlib.Core.Path.{◌≡◌, ap, ◌∙◌}
use native.Mathlib.Omega.{arith}
use lib.ListN.{length}
use Rattle.tables.specs.Store.{length-store}
use Rattle.name_order.specs.Named.{name_in}
use Rattle.name_order.specs.NamedLaws.{built-start, built-ordered, built-room, built-more}
use Rattle.name_order.proofs.order_module.Goals as goal

pub loop-wire-init : goal.loop-wire-init
loop-wire-init c = built-start _ _ _ _ c.requires

pub slice_bounds-place_among-end : goal.slice_bounds-place_among-end
slice_bounds-place_among-end c =
    let long : length c.loop-wire.index ≡ length c.args.index.now = ap length c.loop-wire.invariant ∙ length-store _ _ _ in
    omega (arith, c.requires, long)

pub place_among-count-requires : goal.place_among-count-requires
place_among-count-requires c =
    let l = c.loop-wire in
    let z : c.args.start + (l.wire - 1) + 1 ≡ c.args.start + l.wire = omega arith in
    rw z (built-ordered _ _ _ _ c.requires _ _ l.invariant l.auto.wire)

pub insert-requires : goal.insert-requires
insert-requires c =
    let l = c.loop-wire in
    let z : c.args.start + (l.wire - 1) + 1 ≡ c.args.start + l.wire = omega arith in
    built-room (name_in c.args.design.now.names.now c.args.design.now.wires.now c.args.design.now.rows.now c.args.m) _ _ _ c.requires _ _ l.invariant l.auto.wire (l.wire - 1) (omega arith) _ c.name_in-name.ensures _ (rw z at c.place_among-count.ensures)

pub loop-wire-preserved : goal.loop-wire-preserved
loop-wire-preserved c =
    let l = c.loop-wire in
    let z : c.args.start + (l.wire - 1) + 1 ≡ c.args.start + l.wire = omega arith in
    built-more (name_in c.args.design.now.names.now c.args.design.now.wires.now c.args.design.now.rows.now c.args.m) _ _ _ c.requires _ _ l.invariant l.auto.wire (l.wire - 1) (omega arith) _ c.name_in-name.ensures _ (rw z at c.place_among-count.ensures) _ c.insert.ensures

pub shape_of-index : goal.shape_of-index
shape_of-index c = ap length c.loop-wire.invariant ∙ length-store _ _ _
