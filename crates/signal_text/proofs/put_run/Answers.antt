-- A value, or bits of a wire.
-- Assumes nothing.
use mathlib.Core.Path.{ap}
use Prim.Native.Nat.{◌-◌}
use lib.ListN.{drop, length-take}
use Rattle.text.specs.Written.{written-most, written_then, written_as}
use Rattle.signal_text.specs.Pieces.{spread}
use Rattle.rules.specs.Text.{sig_tokens}
use Rattle.wire_names.specs.Now.{wires_in}
use Rattle.wire_names.specs.NowLaws.{length-in}
use Rattle.signal_runs.specs.RunLaws.{narrow}
use Rattle.signal_text.specs.RunLaws.{run-digits, run-wire}
use native.Mathlib.Omega.{arith}
use Rattle.signal_text.proofs.put_run.Goals as goal

pub put_value-requires : goal.put_value-requires
put_value-requires c =
    let a = c.args in
    record {
      at_le_past_text = written-most c.put_byte-behind.ensures;
      bits_len_bound = omega (arith, length-take (a.i - a.j) (drop a.j a.s.now));
    }

pub put_cut-requires : goal.put_cut-requires
put_cut-requires c = (c.requires.0, narrow _ c.decode.ensures c.in-Wire.is, omega arith, omega arith)

pub returns-in-Digit : goal.returns-in-Digit
returns-in-Digit c =
    let args = c.args in
    let decode = c.decode in
    let put_byte = c.put_byte-behind in
    let put-value = c.put_value in
    let ws = wires_in args.design.now.names.now args.design.now.wires.now args.design.now.rows.now args.m in
    written_as (written_then put_byte.ensures put-value.ensures)
    (run-digits args.s.now args.i args.j ws _ decode.ensures _ c.in-Digit.is)

pub shape_of-out-in-Digit : goal.shape_of-out-in-Digit
shape_of-out-in-Digit c = (returns-in-Digit c).kept

pub returns-in-Wire : goal.returns-in-Wire
returns-in-Wire c =
    let a = c.args in
    let ws = wires_in a.design.now.names.now a.design.now.wires.now a.design.now.rows.now a.m in
    let many = length-in a.design.now.names.now a.design.now.wires.now a.design.now.rows.now a.m in
    written_as c.put_cut.ensures (ap (λ x. spread (sig_tokens x)) (run-wire a.s.now a.i a.j ws _ c.decode.ensures _ _ a.m.wires c.in-Wire.is many))

pub shape_of-out-in-Wire : goal.shape_of-out-in-Wire
shape_of-out-in-Wire c = (returns-in-Wire c).kept
