-- `indexed_taken` meets its contract. The invariant: the row reached is walked to, along the chain of the name's hash.
-- Assumes nothing.
use native.Mathlib.Omega.{arith}
use mathlib.Core.Path.{sym}
use Rattle.name_index.specs.HashLaws.{hash-less}
use Rattle.name_index.specs.IndexLaws.{walk_start, walk_end, walk-found, walk-less, walk-next}
use Rattle.name_search.proofs.indexed_taken.Goals as goal

pub offset_bounds-heads-h : goal.offset_bounds-heads-h
offset_bounds-heads-h c = omega (arith, c.hash-h.ensures, hash-less c.args.name.now, c.requires.indexed.keys)

pub bounds-heads-h : goal.bounds-heads-h
bounds-heads-h c = omega (arith, c.hash-h.ensures, hash-less c.args.name.now, c.requires.indexed.keys)

pub loop-at-init : goal.loop-at-init
loop-at-init c = walk_start _ _ _ _ _ _ c.requires.named _ _ c.requires.indexed _ c.hash-h.ensures

pub returns-then-has_name : goal.returns-then-has_name
returns-then-has_name c =
    let pre = c.requires in
    let loop = c.loop-at in
    let loop-test = c.loop-at-test in
    sym
    (walk-found _ _ _ _ _ _ pre.named _ _ pre.indexed _ loop.invariant loop-test.true _ c.has_name.ensures c.if-has_name.true)

pub offset_bounds-chain-row : goal.offset_bounds-chain-row
offset_bounds-chain-row c = omega (arith, c.loop-at.invariant.below)

pub bounds-chain-row : goal.bounds-chain-row
bounds-chain-row c = omega (arith, c.loop-at.invariant.below, c.requires.indexed.room)

pub loop-at-smaller : goal.loop-at-smaller
loop-at-smaller c =
    let pre = c.requires in
    let loop = c.loop-at in
    let loop-test = c.loop-at-test in
    let has-name = c.has_name in
    walk-less _ _ _ _ _ _ pre.named _ _ pre.indexed _ loop.invariant loop-test.true _ has-name.ensures

pub loop-at-preserved : goal.loop-at-preserved
loop-at-preserved c =
    let pre = c.requires in
    let loop = c.loop-at in
    let loop-test = c.loop-at-test in
    let has-name = c.has_name in
    walk-next _ _ _ _ _ _ pre.named _ _ pre.indexed _ loop.invariant loop-test.true _ has-name.ensures
    c.if-has_name.false

pub returns : goal.returns
returns c = sym (walk_end _ _ _ _ _ _ c.requires.named _ c.loop-at.invariant c.loop-at-test.false)
