-- `indexed_wire` meets its contract. The invariant: the row reached is walked to, along the chain of the name's hash.
-- Assumes nothing.
use Prim.Native.Nat.{ℕ, ◌-◌}
use mathlib.Core.Option.{some}
use mathlib.Core.Path.{sym, ap, ◌∙◌}
use native.Mathlib.Omega.{arith}
use lib.ListN.{length-drop}
use Rattle.wires.specs.Rows.{name_of, wire_of}
use Rattle.wires.specs.Found.{width_found, found_of}
use Rattle.name_index.specs.HashLaws.{hash-less}
use Rattle.name_search.proofs.WireLaws.{wire-first, wire-none, wire-less, wire-found, wire-next}
use Rattle.name_index.specs.Index.{key_count, row_room}
use Rattle.name_search.proofs.indexed_wire.Goals as goal

pub overflow_add-at : goal.overflow_add-at
overflow_add-at c = omega (arith, c.hash-h.ensures, hash-less c.args.name.now)

pub offset_bounds-heads-h : goal.offset_bounds-heads-h
offset_bounds-heads-h c = omega (arith, c.hash-h.ensures, hash-less c.args.name.now)

pub bounds-heads-h : goal.bounds-heads-h
bounds-heads-h c =
    let args = c.args in
    let pre = c.requires in
    omega
    (arith, c.hash-h.ensures, hash-less args.name.now, pre.indexed.keys, length-drop key_count args.heads.now)

pub loop-at-init : goal.loop-at-init
loop-at-init c = wire-first _ _ _ _ _ _ _ c.requires _ c.hash-h.ensures

pub returns-then-same_bytes : goal.returns-then-same_bytes
unfolding width_found found_of wire_of name_of
returns-then-same_bytes c =
    let pre = c.requires in
    let args = c.args in
    let loop = c.loop-at in
    let loop-test = c.loop-at-test in
    let bytes-at = c.bytes_at in
    let same_bytes = c.same_bytes in
    ap width_found
    (wire-found _ _ _ _ _ _ _ pre _ loop.invariant loop-test.true _ _ bytes-at.ensures same_bytes.ensures c.if-same_bytes.true)
    ∙ ap (λ (w : ℕ). some (loop.at - 1 - args.first, w)) (sym c.column.ensures)

pub overflow_add-at-in-loop-at : goal.overflow_add-at-in-loop-at
overflow_add-at-in-loop-at c = omega (arith, c.loop-at.invariant.below)

pub offset_bounds-chain-row : goal.offset_bounds-chain-row
offset_bounds-chain-row c = omega (arith, c.loop-at.invariant.below)

pub bounds-chain-row : goal.bounds-chain-row
bounds-chain-row c =
    let pre = c.requires in
    let args = c.args in
    let loop = c.loop-at in
    omega (arith, loop.invariant.below, pre.indexed.room, length-drop row_room args.chain.now)

pub loop-at-smaller : goal.loop-at-smaller
loop-at-smaller c =
    let pre = c.requires in
    let loop = c.loop-at in
    let loop-test = c.loop-at-test in
    wire-less _ _ _ _ _ _ _ pre _ loop.invariant loop-test.true

pub loop-at-preserved : goal.loop-at-preserved
unfolding name_of
loop-at-preserved c =
    let pre = c.requires in
    let loop = c.loop-at in
    let loop-test = c.loop-at-test in
    let bytes-at = c.bytes_at in
    let same_bytes = c.same_bytes in
    wire-next _ _ _ _ _ _ _ pre _ loop.invariant loop-test.true _ _ bytes-at.ensures same_bytes.ensures
    c.if-same_bytes.false

pub returns : goal.returns
unfolding width_found found_of
returns c = ap width_found (wire-none _ _ _ _ _ _ c.loop-at.invariant c.loop-at-test.false)
