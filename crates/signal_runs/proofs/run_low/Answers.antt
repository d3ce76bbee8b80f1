-- The loop's invariant: the bits from the one below j up to i are a run.
-- Assumes nothing.
use mathlib.Core.Path.{sym, ◌∙◌}
use Prim.Native.Nat.{◌-◌}
use borrow.Author.Tests.{not-false}
use Rattle.signal_runs.specs.RunLaws.{run-top, run_more}
use native.Mathlib.Omega.{arith}
use Rattle.signal_runs.proofs.run_low.Goals as goal

pub loop-j-init : goal.loop-j-init
loop-j-init c = (omega arith, run-top c.args.s.now c.args.i (c.args.i - 1) (omega arith) (omega arith) c.requires.apart)

pub loop-j-preserved : goal.loop-j-preserved
loop-j-preserved c =
    let args = c.args in
    let loop = c.loop-j in
    let joins = c.joins in
    (omega arith, run_more args.s.now args.i (loop.j - 1) (loop.j - 1 - 1) (omega arith) loop.invariant.0 (omega arith) (sym joins.ensures ∙ not-false _ c.if-not-joins.false-raw) loop.invariant.1)
