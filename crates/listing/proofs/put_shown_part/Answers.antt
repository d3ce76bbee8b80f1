-- By the table that the part lies in.
use mathlib.Core.Path.{ap}
use mathlib.Core.List.{List, flat_map}
use Prim.Native.Nat.{ℕ}
use native.Mathlib.Omega.{arith}
use lib.ListN.{length}
use Rattle.rules.specs.Plain.{low}
use Rattle.plain.specs.Put.{put-kept, put_as}
use Rattle.listing.proofs.LineLaws.{name-told, text-told}
use Rattle.listing.proofs.put_shown_part.Goals as goal

pub slice_bounds-put_shown-count : goal.slice_bounds-put_shown-count
slice_bounds-put_shown-count c =
    let args = c.args in
    (name-told args.design.now.names.now args.design.now.strings.now args.design.now.wires.now args.design.now.rows.now args.m args.w _ c.shown_place.ensures _ c.in-Name.is).0

pub slice_bounds-put_shown-start : goal.slice_bounds-put_shown-start
slice_bounds-put_shown-start c =
    let args = c.args in
    (name-told args.design.now.names.now args.design.now.strings.now args.design.now.wires.now args.design.now.rows.now args.m args.w _ c.shown_place.ensures _ c.in-Name.is).0

pub slice_bounds-put_shown-end : goal.slice_bounds-put_shown-end
slice_bounds-put_shown-end c =
    let args = c.args in
    (name-told args.design.now.names.now args.design.now.strings.now args.design.now.wires.now args.design.now.rows.now args.m args.w _ c.shown_place.ensures _ c.in-Name.is).1

pub put_shown-requires : goal.put_shown-requires
put_shown-requires c =
    let args = c.args in
    omega (arith, c.requires, ap (λ (l : List ℕ). length (flat_map low l)) (name-told args.design.now.names.now args.design.now.strings.now args.design.now.wires.now args.design.now.rows.now args.m args.w _ c.shown_place.ensures _ c.in-Name.is).2)

pub slice_bounds-put_shown-count-in-Text : goal.slice_bounds-put_shown-count-in-Text
slice_bounds-put_shown-count-in-Text c =
    let args = c.args in
    (text-told args.design.now.names.now args.design.now.strings.now args.design.now.wires.now args.design.now.rows.now args.m args.w _ c.shown_place.ensures _ c.in-Text.is).0

pub slice_bounds-put_shown-start-in-Text : goal.slice_bounds-put_shown-start-in-Text
slice_bounds-put_shown-start-in-Text c =
    let args = c.args in
    (text-told args.design.now.names.now args.design.now.strings.now args.design.now.wires.now args.design.now.rows.now args.m args.w _ c.shown_place.ensures _ c.in-Text.is).0

pub slice_bounds-put_shown-end-in-Text : goal.slice_bounds-put_shown-end-in-Text
slice_bounds-put_shown-end-in-Text c =
    let args = c.args in
    (text-told args.design.now.names.now args.design.now.strings.now args.design.now.wires.now args.design.now.rows.now args.m args.w _ c.shown_place.ensures _ c.in-Text.is).1

pub put_shown-requires-in-Text : goal.put_shown-requires-in-Text
put_shown-requires-in-Text c =
    let args = c.args in
    omega (arith, c.requires, ap (λ (l : List ℕ). length (flat_map low l)) (text-told args.design.now.names.now args.design.now.strings.now args.design.now.wires.now args.design.now.rows.now args.m args.w _ c.shown_place.ensures _ c.in-Text.is).2)

pub shape_of-out-in-Name : goal.shape_of-out-in-Name
shape_of-out-in-Name c = put-kept c.put_shown.ensures

pub returns-in-Name : goal.returns-in-Name
returns-in-Name c =
    let args = c.args in
    put_as c.put_shown.ensures (ap (flat_map low) (name-told args.design.now.names.now args.design.now.strings.now args.design.now.wires.now args.design.now.rows.now args.m args.w _ c.shown_place.ensures _ c.in-Name.is).2)

pub shape_of-out-in-Text : goal.shape_of-out-in-Text
shape_of-out-in-Text c = put-kept c.put_shown-in-Text.ensures

pub returns-in-Text : goal.returns-in-Text
returns-in-Text c =
    let args = c.args in
    put_as c.put_shown-in-Text.ensures (ap (flat_map low) (text-told args.design.now.names.now args.design.now.strings.now args.design.now.wires.now args.design.now.rows.now args.m args.w _ c.shown_place.ensures _ c.in-Text.is).2)
