-- `signals_from` meets its contract. The loop's invariant: the signals from row `from` on are those that were read and those from row `at` on.
-- Assumes nothing.
use mathlib.Core.Path.{◌≡◌, ◌∙◌}
use mathlib.Core.Bool.{◌&&◌}
use native.Mathlib.Omega.{arith}
use lib.Dec.{ltb}
use Rattle.signals.proofs.Parses.{readable-on}
use Rattle.signal_list.proofs.ReadLaws.{list-start, list-told, list-broken, list_on_lem}
use Rattle.signal_list.proofs.signals_from.Goals as goal
use Rattle.signal_list.proofs.signals_from.Goals.{else-comma, then-comma}

pub loop-at-init : goal.loop-at-init
loop-at-init c = list-start _ _ _ _ _ _ c.requires.readable.here

pub next_signal-requires : goal.next_signal-requires
next_signal-requires c =
    let pre = c.requires in
    let loop = c.loop-at in
    record {
      readable = readable-on _ _ _ _ pre.readable loop.invariant.within;
      scratch_length_in_bounds = (omega (arith, pre.scratch_length_in_bounds, loop.invariant.long), pre.scratch_length_in_bounds.1, pre.scratch_length_in_bounds.2);
    }

pub shape_of-scratch-in_err-signal : goal.shape_of-scratch-in_err-signal
shape_of-scratch-in_err-signal c = c.next_signal.ensures.kept.long ∙ c.loop-at.invariant.long

pub returns-in_err-signal : goal.returns-in_err-signal
returns-in_err-signal c =
    let args = c.args in
    let if1 = c.if-comma in
    let loop-test = c.loop-at-test in
    let loop = c.loop-at in
    let due : if1.next_signal ≡ (args.comma && ltb 0 loop.sum.count) = (elim if1.branch [ then-comma w ↦ w.next_signal-is ∙ rw w.if-comma.true | else-comma w ↦ w.next_signal-is ∙ rw w.if-comma.false ]) in
    rw c.from_residual.ensures (list-broken _ _ _ _ _ _ _ _ _ loop.invariant _ due (omega (arith, loop-test.true)) _ c.in_err-signal.ensures)

pub added-sum-requires : goal.added-sum-requires
added-sum-requires c =
    let pre = c.requires in
    let loop = c.loop-at in
    let A = c.in_ok-signal.ensures in
    (omega (arith, loop.invariant.few, loop.invariant.within, pre.readable.rows), omega (arith, loop.invariant.bits, loop.invariant.from, A.read.0, A.read.1, A.read.2, pre.readable.rows))

pub loop-at-smaller : goal.loop-at-smaller
loop-at-smaller c = let A = c.in_ok-signal.ensures in omega (arith, A.read.0, A.read.1)

pub loop-at-preserved : goal.loop-at-preserved
loop-at-preserved c =
    let args = c.args in
    let if1 = c.if-comma in
    let loop-test = c.loop-at-test in
    let loop = c.loop-at in
    let due : if1.next_signal ≡ (args.comma && ltb 0 loop.sum.count) = (elim if1.branch [ then-comma w ↦ w.next_signal-is ∙ rw w.if-comma.true | else-comma w ↦ w.next_signal-is ∙ rw w.if-comma.false ]) in
    list_on_lem _ _ _ _ _ _ _ _ _ loop.invariant _ due (omega (arith, loop-test.true)) _ _ _ c.in_ok-signal.ensures c.added-sum.ensures

pub shape_of-scratch : goal.shape_of-scratch
shape_of-scratch c = c.loop-at.invariant.long

pub returns : goal.returns
returns c = list-told _ _ _ _ _ _ _ _ _ c.loop-at.invariant _ (omega (arith, c.loop-at-test.false)) c.told.ensures
