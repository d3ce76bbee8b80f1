-- The invariant: the name's place is in what is left.
-- Assumes nothing.
use Rattle.byte_order.specs.OrderLaws.{halved-end}
use Rattle.name_order.specs.Named.{name_in}
use Rattle.name_order.specs.NamedLaws.{halves-start}
use Rattle.name_order.proofs.place_among.Goals as goal

pub loop-left-init : goal.loop-left-init
loop-left-init c =
    let args = c.args in
    halves-start (name_in args.design.now.names.now args.design.now.wires.now args.design.now.rows.now args.m) args.index.now args.name.now

pub halve-left-requires : goal.halve-left-requires
halve-left-requires c =
    let pre = c.requires in
    let loop = c.loop-left in
    record {
      ordered = pre;
      halved = loop.invariant;
      low_lt_high = c.loop-left-test.true;
    }

pub loop-left-smaller : goal.loop-left-smaller
loop-left-smaller c = c.halve-left.ensures.less

pub loop-left-preserved : goal.loop-left-preserved
loop-left-preserved c = c.halve-left.ensures.halved

pub returns : goal.returns
returns c = halved-end _ _ _ _ c.loop-left.invariant c.loop-left-test.false
