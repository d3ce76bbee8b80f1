use Rattle.netlist.specs.Tables.{tabled}
use Rattle.layout.proofs.Stored.{valued-room, valued-put}
use Rattle.layout.proofs.StepLaws.{step_room, step-put}
use Rattle.layout.proofs.put_statement.Goals as goal

pub put_valued-requires : goal.put_valued-requires
put_valued-requires c =
    let args = c.args in
    let pre = c.requires in
    let as-valued = c.as_valued in
    let whole = valued-room args.f.now args.scratch.now args.statement args.u
    (tabled args.names.now args.strings.now args.bits.now args.wires.now args.rows.now)
    pre _ _ _ _ ((rw c.in-Named.is at as-valued.ensures) args.f.now args.scratch.now pre.sound) in
    record {
      fits = whole.0;
      optional_fits = whole.1.0;
      most_width_in_bounds = whole.1.1.0;
      rows_in_bounds = whole.1.1.1;
    }

pub put_step-requires : goal.put_step-requires
put_step-requires c =
    let args = c.args in
    let pre = c.requires in
    let as-valued = c.as_valued in
    let is = rw c.in-Step.is at as-valued.ensures in
    step_room args.f.now args.scratch.now args.statement args.u _ _ _ is.0 is.1
    (tabled args.names.now args.strings.now args.bits.now args.wires.now args.rows.now) pre

pub returns-in-Named : goal.returns-in-Named
returns-in-Named c =
    let args = c.args in
    let pre = c.requires in
    let as-valued = c.as_valued in
    let put-valued = c.put_valued in
    valued-put args.f.now args.scratch.now args.statement args.u _ _ _ _ _ _ _ _ _ _ _ _ _
    ((rw c.in-Named.is at as-valued.ensures) args.f.now args.scratch.now pre.sound)
    put-valued.ensures.names_after put-valued.ensures.strings_after put-valued.ensures.bits_after
    put-valued.ensures.rows_after

pub returns-in-Step : goal.returns-in-Step
returns-in-Step c =
    let args = c.args in
    let pre = c.requires in
    let as-valued = c.as_valued in
    let put_step = c.put_step in
    let is = rw c.in-Step.is at as-valued.ensures in
    step-put args.f.now args.scratch.now args.statement args.u _ _ _ is.0 is.1 _ _ _ _ _ _ _ pre.sound
    put_step.ensures
