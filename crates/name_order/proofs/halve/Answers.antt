-- The half in which the name's place is.
-- Assumes nothing.
use Prim.Native.Nat.{ℕ, ◌+◌, ◌-◌, ◌/◌}
use native.Mathlib.Omega.{arith}
use Rattle.name_order.specs.Named.{name_in}
use Rattle.name_order.specs.NamedLaws.{middle-inside, upper-half, lower-half}
use Rattle.name_order.proofs.halve.Goals as goal

pub offset_bounds-index-middle : goal.offset_bounds-index-middle
offset_bounds-index-middle c =
    let args = c.args in
    let pre = c.requires in
    let mid : ℕ = args.left.low + (args.left.high - args.left.low) / 2 in
    omega (
      arith,
      middle-inside (name_in args.design.now.names.now args.design.now.wires.now args.design.now.rows.now args.m) args.index.now args.name.now args.left pre.halved mid (omega (arith, pre.low_lt_high)),
    )

pub bounds-index-middle : goal.bounds-index-middle
bounds-index-middle c =
    let args = c.args in
    let pre = c.requires in
    middle-inside (name_in args.design.now.names.now args.design.now.wires.now args.design.now.rows.now args.m) args.index.now args.name.now args.left pre.halved (args.left.low + (args.left.high - args.left.low) / 2) (omega (arith, pre.low_lt_high))

pub returns-then-wire_before : goal.returns-then-wire_before
returns-then-wire_before c =
    let args = c.args in
    let pre = c.requires in
    let wire-before = c.wire_before in
    let mid : ℕ = args.left.low + (args.left.high - args.left.low) / 2 in
    upper-half (name_in args.design.now.names.now args.design.now.wires.now args.design.now.rows.now args.m) args.index.now args.name.now args.left pre.halved mid (omega (arith, pre.low_lt_high)) pre.ordered (omega arith) _ wire-before.ensures c.if-wire_before.true

pub returns : goal.returns
returns c =
    let args = c.args in
    let pre = c.requires in
    let wire-before = c.wire_before in
    let mid : ℕ = args.left.low + (args.left.high - args.left.low) / 2 in
    lower-half (name_in args.design.now.names.now args.design.now.wires.now args.design.now.rows.now args.m) args.index.now args.name.now args.left pre.halved mid (omega (arith, pre.low_lt_high)) pre.ordered (omega arith) _ wire-before.ensures c.if-wire_before.false
