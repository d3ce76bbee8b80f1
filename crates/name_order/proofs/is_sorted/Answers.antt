-- The invariant: each entry in front of k stands behind one whose name comes before its own.
-- Assumes nothing.
use mathlib.Core.Path.{sym, ◌∙◌}
use native.Mathlib.Omega.{arith}
use borrow.Author.Tests.{not-true}
use Rattle.byte_order.specs.PassLaws.{passed, not-passed}
use Rattle.name_order.proofs.is_sorted.Goals as goal

pub returns-then-not-stands_next : goal.returns-then-not-stands_next
returns-then-not-stands_next c =
    let pre = c.requires in
    not-passed _ _ pre.apart _ pre.index_len _ (omega (arith, pre.index_len, c.loop-k-test.true)) (sym c.stands_next.ensures ∙ not-true _ c.if-not-stands_next.true-raw)

pub returns : goal.returns
returns c =
    let pre = c.requires in
    passed _ _ pre.apart _ pre.index_len (λ j h. c.loop-k.invariant j (omega (arith, h, pre.index_len, c.loop-k-test.false)))
