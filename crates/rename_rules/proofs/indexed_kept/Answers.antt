-- The invariant: the row reached is walked to, along the chain of the name's hash.
-- Assumes nothing.
use mathlib.Core.Path.{sym}
use native.Mathlib.Omega.{arith}
use Rattle.name_index.specs.HashLaws.{hash-less}
use Rattle.rename_rules.proofs.IndexedLaws.{kept-first, kept-end, kept_less, kept-found, kept_next}
use Rattle.rename_rules.proofs.indexed_kept.Goals as goal

pub offset_bounds-heads-h : goal.offset_bounds-heads-h
offset_bounds-heads-h c = omega (arith, c.hash-h.ensures, hash-less c.args.name.now)

pub bounds-heads-h : goal.bounds-heads-h
bounds-heads-h c = omega (arith, c.hash-h.ensures, hash-less c.args.name.now, c.requires.module_indexed.indexed.keys)

pub loop-at-init : goal.loop-at-init
loop-at-init c = λ q. kept-first _ _ _ _ _ c.requires.renamed _ _ q _ c.hash-h.ensures

pub returns-then-row_keeps_name : goal.returns-then-row_keeps_name
returns-then-row_keeps_name c =
    let pre = c.requires in
    let loop = c.loop-at in
    let if1 = c.loop-at-test in
    sym
    (kept-found _ _ _ _ _ pre.renamed _ _ pre.module_indexed _ (loop.invariant pre.module_indexed) if1.true _ c.row_keeps_name.ensures c.if-row_keeps_name.true)

pub bounds-chain-row : goal.bounds-chain-row
bounds-chain-row c =
    let pre = c.requires in
    let loop = c.loop-at in
    omega (arith, (loop.invariant pre.module_indexed).below, pre.module_indexed.indexed.room)

pub loop-at-smaller : goal.loop-at-smaller
loop-at-smaller c =
    let pre = c.requires in
    let loop = c.loop-at in
    let if1 = c.loop-at-test in
    kept_less _ _ _ _ _ pre.renamed _ _ pre.module_indexed _ (loop.invariant pre.module_indexed) if1.true

pub loop-at-preserved : goal.loop-at-preserved
loop-at-preserved c =
    let pre = c.requires in
    let loop = c.loop-at in
    let if1 = c.loop-at-test in
    let row-keeps-name = c.row_keeps_name in
    λ q. kept_next _ _ _ _ _ pre.renamed _ _ q _ (loop.invariant q) if1.true _ row-keeps-name.ensures
    c.if-row_keeps_name.false

pub returns : goal.returns
returns c =
    let pre = c.requires in
    let loop = c.loop-at in
    sym (kept-end _ _ _ _ _ pre.renamed _ _ pre.module_indexed _ (loop.invariant pre.module_indexed) c.loop-at-test.false)
