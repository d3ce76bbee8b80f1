-- The wire at the name's place, if it has the name.
-- Assumes nothing.
use mathlib.Core.Path.{refl, sym, ap, ◌∙◌}
use native.Mathlib.Omega.{arith}
use Rattle.rules.specs.Bytes.{same}
use Rattle.rules.specs.Tokens.{Name}
use Rattle.byte_order.specs.ScanLaws.{sorted-ordered, halving-past, halving-found, halving-other}
use Rattle.name_order.specs.Named.{name_in, sought}
use Rattle.name_order.proofs.find_sorted.Goals as goal

pub place_among-at-requires : goal.place_among-at-requires
place_among-at-requires c = sorted-ordered _ _ _ c.requires.index_value

pub returns-then-index-at : goal.returns-then-index-at
unfolding sought
returns-then-index-at c =
    let args = c.args in
    let pre = c.requires in
    let place-among = c.place_among-at in
    sym
    (halving-past (name_in args.design.now.names.now args.design.now.wires.now args.design.now.rows.now args.m) args.name.now args.m.wires pre.apart args.index.now pre.index_value place-among.result place-among.ensures
    (omega (arith, c.if-index-at.true)))

pub returns-then-same_bytes : goal.returns-then-same_bytes
unfolding sought
returns-then-same_bytes c =
    let args = c.args in
    let pre = c.requires in
    let place-among = c.place_among-at in
    let if1 = c.if-index-at in
    let its-name = c.name_in in
    let same_bytes = c.same_bytes in
    sym
    (halving-found (name_in args.design.now.names.now args.design.now.wires.now args.design.now.rows.now args.m) args.name.now args.m.wires pre.apart args.index.now pre.index_value _ place-among.ensures if1.false _ refl _
    (same_bytes.ensures ∙ ap (λ (n : Name). same n args.name.now) its-name.ensures) c.if-same_bytes.true)

pub returns : goal.returns
unfolding sought
returns c =
    let args = c.args in
    let pre = c.requires in
    let place-among = c.place_among-at in
    let if1 = c.if-index-at in
    let its-name = c.name_in in
    let same_bytes = c.same_bytes in
    sym
    (halving-other (name_in args.design.now.names.now args.design.now.wires.now args.design.now.rows.now args.m) args.name.now args.m.wires pre.apart args.index.now pre.index_value _ place-among.ensures if1.false _ refl _
    (same_bytes.ensures ∙ ap (λ (n : Name). same n args.name.now) its-name.ensures) c.if-same_bytes.false)
