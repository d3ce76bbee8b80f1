-- The loop's invariant: the runs from bit i up are written, and none of them goes on below it.
-- Assumes nothing.
use mathlib.Core.Path.{◌≡◌, sym}
use Rattle.text.specs.Written.{written_none, written-most, written_then, written_as}
use Rattle.wire_names.specs.Now.{wires_in}
use Rattle.signal_text.specs.RunLaws.{runs-below, runs_none}
use native.Mathlib.Omega.{arith}
use Rattle.signal_text.proofs.put_runs.Goals as goal

pub loop-i-init : goal.loop-i-init
loop-i-init c =
    let args = c.args in
    let pre = c.requires in (
      omega arith,
      λ a b. absurd (omega arith),
      written_as (written_none args.at args.out.now pre.0)
          (sym (runs_none (wires_in args.design.now.names.now args.design.now.wires.now args.design.now.rows.now args.m) args.s.now)),
    )

pub run_low-j-requires : goal.run_low-j-requires
run_low-j-requires c = record {
  i_nonzero = (omega arith, c.loop-i.invariant.0);
  apart = c.loop-i.invariant.1;
}

pub put_run-end-requires : goal.put_run-end-requires
put_run-end-requires c = (written-most c.loop-i.invariant.2, c.run_low-j.ensures.below, c.loop-i.invariant.0, c.requires.1)

pub loop-i-smaller : goal.loop-i-smaller
loop-i-smaller c = c.run_low-j.ensures.below

pub loop-i-preserved : goal.loop-i-preserved
loop-i-preserved c =
    let args = c.args in
    let loop = c.loop-i in
    let run-low = c.run_low-j in
    let put-run = c.put_run-end in (
      omega (arith, run-low.ensures.below, loop.invariant.0),
      run-low.ensures.apart,
      written_as (written_then loop.invariant.2 put-run.ensures)
          (runs-below (wires_in args.design.now.names.now args.design.now.wires.now args.design.now.rows.now args.m) args.s.now loop.i _ run-low.ensures),
    )

pub shape_of-out : goal.shape_of-out
shape_of-out c = c.loop-i.invariant.2.kept

pub returns : goal.returns
returns c =
    let e : c.loop-i.i ≡ 0 = omega arith in
    rw e at c.loop-i.invariant.2
