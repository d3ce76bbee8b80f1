-- The name, then the sizes.
-- Assumes nothing.
use mathlib.Core.Path.{sym, ◌∙◌}
use native.Mathlib.Omega.{arith}
use borrow.Author.Tests.{not-true, not-false}
use Rattle.context.proofs.PlaceLaws.{after_is}
use Rattle.context.proofs.SizeLaws.{kind-sizes-are}
use Rattle.context.proofs.SizeLaws.{within-small}
use Rattle.replay.proofs.TurnLaws.{told-small, counted-taken, counted-large, counted-exceeds, counted_next}
use Rattle.replay.proofs.turns.counted.Goals as goal

pub returns-then-indexed_found : goal.returns-then-indexed_found
returns-then-indexed_found c = counted-taken _ _ _ _ _ _ _ _ _ _ _ _ c.row_name.ensures c.indexed_found.ensures c.if-indexed_found.true

pub returns-then-not-small_parts : goal.returns-then-not-small_parts
returns-then-not-small_parts c = counted-large _ _ _ _ _ _ _ _ _ _ _ _ c.row_name.ensures c.indexed_found.ensures (sym c.small_parts.ensures ∙ not-true _ c.if-not-small_parts.true-raw)

pub plus-sums-requires : goal.plus-sums-requires
plus-sums-requires c =
    let pre = c.requires in
    let small-parts = c.small_parts in record {
      at_most = within-small _ 2147483647 (omega arith) pre.ready.within;
      at_most_2 = told-small _ _ _ _ _ _ _ pre.told (kind-sizes-are _ _ _ _ _ _ _ c.kind_sizes-more.ensures)
          (sym small-parts.ensures ∙ not-false _ c.if-not-small_parts.false-raw);
    }

pub returns-then-not-within : goal.returns-then-not-within
returns-then-not-within c =
    let row-name = c.row_name in
    let indexed-found = c.indexed_found in
    let kind-sizes = c.kind_sizes-more in
    let plus = c.plus-sums in
    counted-exceeds _ _ _ _ _ _ _ _ _ _ _ _ row-name.ensures indexed-found.ensures _
    (kind-sizes-are _ _ _ _ _ _ _ kind-sizes.ensures) _ plus.ensures c.within.ensures
    (not-true _ c.if-not-within.true-raw)

pub returns : goal.returns
returns c =
    let row-name = c.row_name in
    let indexed-found = c.indexed_found in
    let if1 = c.if-indexed_found in
    let kind-sizes = c.kind_sizes-more in
    let plus = c.plus-sums in
    let within = c.within in
    counted_next _ _ _ _ _ _ _ _ _ _ _ _ row-name.ensures indexed-found.ensures _
    (kind-sizes-are _ _ _ _ _ _ _ kind-sizes.ensures) _ plus.ensures within.ensures if1.false
    (not-false _ c.if-not-within.false-raw) _ (after_is _ _ _ _ c.after.ensures)
