-- The four pieces, one behind another.
use mathlib.Core.Path.{refl, ap}
use mathlib.Core.List.{List}
use Prim.Native.Nat.{ℕ}
use native.Mathlib.Omega.{arith}
use lib.ListN.{length}
use Rattle.rules.specs.Plain.{plain_form}
use Rattle.plain.specs.Put.{put-kept, put_as}
use Rattle.listing.specs.Lines.{name_at}
use Rattle.listing.proofs.LineLaws.{line-long, line-put, line-room, line-behind, line-last}
use Rattle.listing.proofs.put_line.Goals as goal

pub put_form-space-requires : goal.put_form-space-requires
unfolding name_at
put_form-space-requires c =
    let args = c.args in
    omega (arith, c.requires, ap (λ (l : List ℕ). length (plain_form l)) c.name_now.ensures, line-long args.design.now.names.now args.design.now.strings.now args.design.now.wires.now args.design.now.rows.now args.m args.w)

pub bounds-out-space : goal.bounds-out-space
unfolding name_at
bounds-out-space c =
    let args = c.args in
    let f = put_as c.put_form-space.ensures (ap plain_form c.name_now.ensures) in
    let room = line-room args.design.now.names.now args.design.now.strings.now args.design.now.wires.now args.design.now.rows.now args.m args.w args.at _ f c.requires.w_in_bounds in
    omega (arith, room, put-kept f)

pub overflow_add-space : goal.overflow_add-space
unfolding name_at
overflow_add-space c =
    let args = c.args in
    let f = put_as c.put_form-space.ensures (ap plain_form c.name_now.ensures) in
    let room = line-room args.design.now.names.now args.design.now.strings.now args.design.now.wires.now args.design.now.rows.now args.m args.w args.at _ f c.requires.w_in_bounds in
    omega (arith, room)

pub put_shown_part-end-requires : goal.put_shown_part-end-requires
unfolding name_at
put_shown_part-end-requires c =
    let pre = c.requires in
    let name-now = c.name_now in
    let put-form = c.put_form-space in
    let args = c.args in
    let f = put_as put-form.ensures (ap plain_form name-now.ensures) in
    record {
      w_bound = pre.w_bound;
      w_in_bounds = line-behind args.design.now.names.now args.design.now.strings.now args.design.now.wires.now args.design.now.rows.now args.m args.w args.at _ f pre.w_in_bounds;
    }

pub bounds-out-end : goal.bounds-out-end
unfolding name_at
bounds-out-end c =
    let args = c.args in
    let f = put_as c.put_form-space.ensures (ap plain_form c.name_now.ensures) in
    (line-last args.design.now.names.now args.design.now.strings.now args.design.now.wires.now args.design.now.rows.now args.m args.w args.at _ _ f c.requires.w_in_bounds c.put_shown_part-end.ensures).0

pub overflow_add-result : goal.overflow_add-result
unfolding name_at
overflow_add-result c =
    let good = c.well_formed in
    let pre = c.requires in
    let name-now = c.name_now in
    let put-form = c.put_form-space in
    let put-shown-part = c.put_shown_part-end in
    let args = c.args in
    let f = put_as put-form.ensures (ap plain_form name-now.ensures) in
    omega (arith, good, (line-last args.design.now.names.now args.design.now.strings.now args.design.now.wires.now args.design.now.rows.now args.m args.w args.at _ _ f pre.w_in_bounds put-shown-part.ensures).1)

pub shape_of-out : goal.shape_of-out
unfolding name_at
shape_of-out c =
    let args = c.args in
    let f = put_as c.put_form-space.ensures (ap plain_form c.name_now.ensures) in
    put-kept (line-put args.design.now.names.now args.design.now.strings.now args.design.now.wires.now args.design.now.rows.now args.m args.w args.at _ _ f refl c.put_shown_part-end.ensures)

pub returns : goal.returns
unfolding name_at
returns c =
    let args = c.args in
    let f = put_as c.put_form-space.ensures (ap plain_form c.name_now.ensures) in
    line-put args.design.now.names.now args.design.now.strings.now args.design.now.wires.now args.design.now.rows.now args.m args.w args.at _ _ f refl c.put_shown_part-end.ensures
