-- None, one or several runs.
-- Assumes nothing.
use mathlib.Core.Path.{sym, ap}
use Rattle.text.specs.Written.{written-most, written_then, written_as}
use Rattle.signal_text.specs.Pieces.{spread}
use Rattle.wire_names.specs.Now.{wires_in}
use Rattle.signal_text.specs.RunLaws.{signal-none, signal-one, signal-several}
use native.Mathlib.Omega.{arith}
use Rattle.signal_text.proofs.put_signal.Goals as goal

pub returns-then-n-eq0 : goal.returns-then-n-eq0
returns-then-n-eq0 c =
    let args = c.args in
    let if1 = c.if-n-eq0 in
    let put-bytes = c.put_bytes in
    written_as put-bytes.ensures
    (sym (signal-none (wires_in args.design.now.names.now args.design.now.wires.now args.design.now.rows.now args.m) args.s.now if1.true))

pub shape_of-out-then-n-eq0 : goal.shape_of-out-then-n-eq0
shape_of-out-then-n-eq0 c = (returns-then-n-eq0 c).kept

pub run_low-requires : goal.run_low-requires
run_low-requires c = record {
  i_nonzero = (omega arith, omega arith);
  apart = λ a b. absurd (omega arith);
}

pub returns-then-run_low-eq0 : goal.returns-then-run_low-eq0
returns-then-run_low-eq0 c =
    let args = c.args in
    let run-low = c.run_low in
    let if2 = c.if-run_low-eq0 in
    let put-run = c.put_run in
    written_as put-run.ensures
    (ap spread
    (signal-one (wires_in args.design.now.names.now args.design.now.wires.now args.design.now.rows.now args.m) args.s.now
    (rw if2.true at run-low.ensures)))

pub shape_of-out-then-run_low-eq0 : goal.shape_of-out-then-run_low-eq0
shape_of-out-then-run_low-eq0 c = (returns-then-run_low-eq0 c).kept

pub put_runs-end-requires : goal.put_runs-end-requires
put_runs-end-requires c = (written-most c.put_bytes-open.ensures, c.requires.1)

pub put_bytes-requires-2 : goal.put_bytes-requires-2
put_bytes-requires-2 c = written-most c.put_runs-end.ensures

pub returns : goal.returns
returns c =
    let args = c.args in
    let run-low = c.run_low in
    let put-bytes2 = c.put_bytes-open in
    let put-runs = c.put_runs-end in
    let put-bytes3 = c.put_bytes-2 in
    written_as (written_then put-bytes2.ensures (written_then put-runs.ensures put-bytes3.ensures))
    (signal-several (wires_in args.design.now.names.now args.design.now.wires.now args.design.now.rows.now args.m) args.s.now
    _ (omega arith) run-low.ensures)

pub shape_of-out : goal.shape_of-out
shape_of-out c = (returns c).kept
