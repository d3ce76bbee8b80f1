-- `signal` and `bundle` meet their contracts: each member stands behind those before it, and the slices behind what they slice.
-- Assumes nothing.
use mathlib.Core.Path.{sym, ◌∙◌}
use native.Mathlib.Omega.{arith}
use Rattle.signals.proofs.Parses.{mark-below, readable-on, head-deep, head-bundle, head-atom}
use Rattle.signals.proofs.AnswerLaws.{signal-nowhere, signal-no-head, signal-with}
use Rattle.signals.proofs.BundleLaws.{Place, place-behind, place_end, members-on-start, bundle-closed, bundle-broken, bundle-on}
use Rattle.signals.proofs.+bundle_signal.Goals as goal
use Rattle.signals.proofs.+bundle_signal.Goals.{bundle-then-width-lt-MOST_BITS, bundle-else-width-lt-MOST_BITS}

pub bundle-loop-scope-init : goal.bundle-loop-scope-init
bundle-loop-scope-init t c = members-on-start _ _ _ _ _ _ _ c.requires.readable.here

pub bundle-returns-in_err-m : goal.bundle-returns-in_err-m
bundle-returns-in_err-m t c =
    let P : Place c.args.o c.loop-scope.width c.if-width-lt-MOST_BITS.put = elim c.if-width-lt-MOST_BITS.branch [
      | bundle-then-width-lt-MOST_BITS w ↦ place-behind _ _ _ w.if-width-lt-MOST_BITS.true w.put-is
      | bundle-else-width-lt-MOST_BITS w ↦ place_end _ _ _ w.if-width-lt-MOST_BITS.false w.put-is
    ] in
    rw c.from_residual.ensures
    (bundle-broken _ _ _ _ _ _ _ _ _ _ _ c.loop-scope.invariant _ P _ (sym c.is_mark.ensures ∙ c.loop-scope-test.true)
    c.in_err-m.ensures)

pub bundle-loop-scope-preserved : goal.bundle-loop-scope-preserved
bundle-loop-scope-preserved t c =
    let P : Place c.args.o c.loop-scope.width c.if-width-lt-MOST_BITS.put = elim c.if-width-lt-MOST_BITS.branch [
      | bundle-then-width-lt-MOST_BITS w ↦ place-behind _ _ _ w.if-width-lt-MOST_BITS.true w.put-is
      | bundle-else-width-lt-MOST_BITS w ↦ place_end _ _ _ w.if-width-lt-MOST_BITS.false w.put-is
    ] in
    bundle-on _ _ _ _ _ _ _ _ _ _ _ c.loop-scope.invariant _ P _ (sym c.is_mark.ensures ∙ c.loop-scope-test.true) _ _
    c.merge-fault.ensures c.in_ok-m.ensures

pub bundle-returns : goal.bundle-returns
bundle-returns t c =
    bundle-closed _ _ _ _ _ _ _ _ _ _ _ c.loop-scope.invariant _ _ (sym c.is_mark.ensures ∙ c.loop-scope-test.false)
    c.too_wide.ensures c.merge.ensures

pub signal-returns-then-depth-eq0 : goal.signal-returns-then-depth-eq0
signal-returns-then-depth-eq0 t c =
    signal-nowhere _ _ _ _ _ _ _ (head-deep _ _ _ _ c.if-depth-eq0.true (sym c.is_mark.ensures ∙ c.if-is_mark.true))

pub signal-bundle-requires : goal.signal-bundle-requires
signal-bundle-requires t c = (
  omega (arith, c.decreases, c.if-depth-eq0.false),
  (
    readable-on _ _ _ _ c.requires.readable (omega (arith, mark-below _ _ _ (sym c.is_mark.ensures ∙ c.if-is_mark.true))),
    (
      omega (arith, c.requires.depth_in_bounds.0, c.if-depth-eq0.false),
      c.requires.depth_in_bounds.1,
      c.requires.depth_in_bounds.2,
    ),
  ),
)

pub signal-returns-in_err-b : goal.signal-returns-in_err-b
signal-returns-in_err-b t c =
    rw c.from_residual.ensures
    (signal-no-head _ _ _ _ _ _ _ _ _ _
    (head-bundle _ _ _ _ c.if-depth-eq0.false (sym c.is_mark.ensures ∙ c.if-is_mark.true))
    c.in_err-b.ensures)

pub signal-returns-then-is_mark : goal.signal-returns-then-is_mark
signal-returns-then-is_mark t c =
    signal-with _ _ _ _ _ _ _ _ _ _
    (head-bundle _ _ _ _ c.if-depth-eq0.false (sym c.is_mark.ensures ∙ c.if-is_mark.true)) _
    c.in_ok-b.ensures _ _ c.slices.ensures (omega arith)

pub signal-returns-in_err-a : goal.signal-returns-in_err-a
signal-returns-in_err-a t c =
    rw c.from_residual-in_err-a.ensures
    (signal-no-head _ _ _ _ _ _ _ _ _ _ (head-atom _ _ _ _ (sym c.is_mark.ensures ∙ c.if-is_mark.false)) c.in_err-a.ensures)

pub signal-returns : goal.signal-returns
signal-returns t c =
    signal-with _ _ _ _ _ _ _ _ _ _ (head-atom _ _ _ _ (sym c.is_mark.ensures ∙ c.if-is_mark.false)) _
    c.in_ok-a.ensures _ _ c.slices-2.ensures (omega arith)
