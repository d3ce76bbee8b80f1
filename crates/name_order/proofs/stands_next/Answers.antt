-- The entry first, then the one in front of it.
-- Assumes nothing.
use mathlib.Core.Path.{ap, ◌∙◌}
use Rattle.rules.specs.Sorted.{before}
use Rattle.name_order.specs.Named.{name_in}
use Rattle.name_order.specs.NamedLaws.{next-outside, next-first, next-on}
use Rattle.name_order.proofs.stands_next.Goals as goal

pub returns-then-m-wire : goal.returns-then-m-wire
returns-then-m-wire c = next-outside _ _ _ _ c.if-m-wire.true

pub returns-then-k-eq0 : goal.returns-then-k-eq0
returns-then-k-eq0 c = next-first _ _ _ _ c.if-m-wire.false c.if-k-eq0.true

pub returns : goal.returns
returns c =
    let args = c.args in
    let if1 = c.if-m-wire in
    let if2 = c.if-k-eq0 in
    let its-name = c.name_in-name in
    next-on (name_in args.design.now.names.now args.design.now.wires.now args.design.now.rows.now args.m) args.index.now args.m.wires args.k if1.false if2.false _ (c.wire_before.ensures ∙ ap (before _) its-name.ensures)
