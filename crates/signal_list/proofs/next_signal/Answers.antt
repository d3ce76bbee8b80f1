-- `next_signal` meets its contract: the comma, and the signal behind it.
-- Assumes nothing.
use Prim.Native.Nat.{◌/◌, ◌≤◌}
use mathlib.Core.Path.{sym, ◌∙◌}
use native.Mathlib.Omega.{arith}
use lib.ListN.{length}
use Rattle.signals.proofs.Parses.{mark-below, readable-on}
use Rattle.signal_list.proofs.SumLaws.{place-below}
use Rattle.signal_list.proofs.ReadLaws.{next-none, next-with, next-without}
use Rattle.signal_list.proofs.next_signal.Goals as goal
use Rattle.signal_list.proofs.next_signal.Goals.{then-comma+else-not-is_mark, else-comma}

pub returns-then-not-is_mark : goal.returns-then-not-is_mark
returns-then-not-is_mark c = rw c.if-comma.true (next-none _ _ _ _ _ _ (sym c.is_mark.ensures ∙ c.if-not-is_mark.true))

pub signal-requires : goal.signal-requires
signal-requires c =
    let args = c.args in
    let pre = c.requires in
    let h : c.if-comma.at ≤ length args.tokens.now / 4 = elim c.if-comma.branch [
      | then-comma+else-not-is_mark w ↦ let k = mark-below _ _ _ (sym w.is_mark.ensures ∙ w.if-not-is_mark.false) in omega (arith, w.at-is, k)
      | else-comma w ↦ omega (arith, w.at-is, pre.readable.here)
    ] in
    record {
      readable = readable-on _ _ _ _ pre.readable h;
      depth_in_bounds = (omega (arith, pre.scratch_length_in_bounds.0, c.place.ensures, place-below args.total), pre.scratch_length_in_bounds.1, pre.scratch_length_in_bounds.2);
    }

pub returns : goal.returns
returns c =
    let signal = c.signal in
    let place = c.place in
    elim c.if-comma.branch [
      | then-comma+else-not-is_mark w ↦ next-with _ _ _ _ _ _ _ _ _ place.ensures _ _ signal.ensures w.if-comma.true (sym w.is_mark.ensures ∙ w.if-not-is_mark.false) w.at-is
      | else-comma w ↦ next-without _ _ _ _ _ _ _ _ _ place.ensures _ _ signal.ensures w.if-comma.false w.at-is
    ]
