-- The loop's invariant: the first row of the kind is the first one from k on.
-- Assumes nothing.
use mathlib.Core.Path.{◌≡◌, refl, sym, ◌∙◌}
use native.Mathlib.Omega.{arith}
use Prim.Native.Nat.{◌≤◌}
use Rattle.lists.specs.Tests.{by_order}
use Rattle.design_text.proofs.Loops.{row-found, row-later, row-none}
use Rattle.design_text.proofs.next_row.Goals as goal

pub loop-k-init : goal.loop-k-init
loop-k-init c = refl

pub row_kind-requires : goal.row_kind-requires
row_kind-requires c = tt

pub returns-then-row_kind-kind : goal.returns-then-row_kind-kind
returns-then-row_kind-kind c =
    let args = c.args in
    let loop = c.loop-k in
    sym
    (loop.invariant ∙ row-found args.rows.now args.kind loop.k args.to _ c.row_kind.ensures (omega arith) c.if-row_kind-kind.true)

pub loop-k-preserved : goal.loop-k-preserved
loop-k-preserved c =
    let args = c.args in
    let loop = c.loop-k in
    loop.invariant
    ∙ row-later args.rows.now args.kind loop.k args.to _ c.row_kind.ensures
    (omega arith) c.if-row_kind-kind.false

pub returns : goal.returns
returns c =
    let args = c.args in
    let k = c.loop-k.k in
    by_order args.to args.from
    (λ h.
    let end : c.max.result ≡ args.from = omega (arith, c.max.ensures) in
    end ∙ sym (row-none args.rows.now args.kind args.from args.to h))
    (λ h.
    let within : args.from ≤ args.to = omega arith in
    let end : c.max.result ≡ k = omega (arith, c.max.ensures, c.loop-k.auto.k-end within) in
    end ∙ sym (c.loop-k.invariant ∙ row-none args.rows.now args.kind k args.to (omega arith)))
