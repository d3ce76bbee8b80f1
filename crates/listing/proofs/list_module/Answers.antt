-- By the room.
use native.Mathlib.Omega.{arith}
use Rattle.plain.specs.Put.{put-kept}
use Rattle.listing.specs.Lines.{lines_at}
use Rattle.listing.proofs.LineLaws.{lines-most, room-short, room-there}
use Rattle.listing.proofs.list_module.Goals as goal

pub lines_size-size-requires : goal.lines_size-size-requires
lines_size-size-requires c = record {
  wires_bound = c.requires.wires_bound;
  names_len = c.requires.names_len;
}

pub returns-then-out-size : goal.returns-then-out-size
returns-then-out-size c =
    let args = c.args in
    room-short (lines_at args.design.now.names.now args.design.now.strings.now args.design.now.wires.now args.design.now.rows.now args.m args.m.wires) args.out.now _ c.lines_size-size.ensures c.if-out-size.true

pub put_lines-requires : goal.put_lines-requires
put_lines-requires c = record {
  wires_bound = c.requires.wires_bound;
  wires_in_bounds = omega (arith, c.lines_size-size.ensures);
}

pub overflow_cast-result : goal.overflow_cast-result
overflow_cast-result c =
    let args = c.args in
    let pre = c.requires in
    omega (arith, pre, c.lines_size-size.ensures, lines-most args.design.now.names.now args.design.now.strings.now args.design.now.wires.now args.design.now.rows.now args.m pre.names_len.0 pre.names_len.1 args.m.wires)

pub shape_of-out : goal.shape_of-out
shape_of-out c = put-kept c.put_lines.ensures

pub returns : goal.returns
returns c =
    let args = c.args in
    room-there (lines_at args.design.now.names.now args.design.now.strings.now args.design.now.wires.now args.design.now.rows.now args.m args.m.wires) args.out.now _ c.lines_size-size.ensures c.if-out-size.false c.put_lines.ensures
