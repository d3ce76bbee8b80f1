-- The loop's invariant: the search from number k on is the whole search. No wire below the least one that is renamed to the name has it by a rename.
-- Assumes nothing.
use mathlib.Core.Path.{sym, ◌∙◌}
use Prim.Native.Nat.{◌-◌}
use native.Mathlib.Omega.{arith}
use Rattle.rename_rules.specs.Search.{named}
use Rattle.rename_rules.proofs.SearchLaws.{search-start, search-end}
use Rattle.rename_rules.proofs.RenamedLaws.{search-kept, search-renamed, search-passed}
use Rattle.rename_rules.proofs.find_named.Goals as goal

pub returns-then-keeps_name : goal.returns-then-keeps_name
unfolding named
returns-then-keeps_name c =
    let loop = c.loop-k in
    sym
    (loop.invariant
    ∙ search-kept _ _ _ c.args.m _ loop.k (omega (arith, c.renamed_to-least.ensures.below)) (sym c.keeps_name.ensures ∙ c.if-keeps_name.true))

pub loop-k-preserved : goal.loop-k-preserved
loop-k-preserved c =
    let loop = c.loop-k in
    let renamed-to = c.renamed_to-least in
    loop.invariant
    ∙ search-passed _ _ _ c.args.m _ loop.k (omega (arith, renamed-to.ensures.below)) _ renamed-to.ensures c.loop-k-test.true
    (sym c.keeps_name.ensures ∙ c.if-keeps_name.false)

pub returns-then-least-m : goal.returns-then-least-m
unfolding named
returns-then-least-m c =
    let loop = c.loop-k in
    sym
    (loop.invariant
    ∙ search-renamed _ _ _ c.args.m _ loop.k (omega (arith, c.if-least-m.true)) _ (omega arith) c.renamed_to-least.ensures)

pub returns : goal.returns
unfolding named
returns c =
    let loop = c.loop-k in
    sym
    (loop.invariant
    ∙ search-end _ _ _ c.args.m _ _ loop.k (omega (arith, c.renamed_to-least.ensures.below, c.if-least-m.false)))
