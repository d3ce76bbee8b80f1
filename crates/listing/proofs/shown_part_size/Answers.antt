-- By the table that the part lies in.
use mathlib.Core.Path.{ap, ◌∙◌}
use mathlib.Core.List.{List, flat_map}
use Prim.Native.Nat.{ℕ}
use native.Mathlib.Omega.{arith}
use lib.ListN.{length}
use Rattle.rules.specs.Plain.{low}
use Rattle.listing.proofs.LineLaws.{name-told, text-told}
use Rattle.listing.proofs.shown_part_size.Goals as goal

pub slice_bounds-shown_size-count : goal.slice_bounds-shown_size-count
slice_bounds-shown_size-count c =
    let args = c.args in
    (name-told args.design.now.names.now args.design.now.strings.now args.design.now.wires.now args.design.now.rows.now args.m args.w _ c.shown_place.ensures _ c.in-Name.is).0

pub slice_bounds-shown_size-start : goal.slice_bounds-shown_size-start
slice_bounds-shown_size-start c =
    let args = c.args in
    (name-told args.design.now.names.now args.design.now.strings.now args.design.now.wires.now args.design.now.rows.now args.m args.w _ c.shown_place.ensures _ c.in-Name.is).0

pub slice_bounds-shown_size-end : goal.slice_bounds-shown_size-end
slice_bounds-shown_size-end c =
    let args = c.args in
    (name-told args.design.now.names.now args.design.now.strings.now args.design.now.wires.now args.design.now.rows.now args.m args.w _ c.shown_place.ensures _ c.in-Name.is).1

pub shown_size-requires : goal.shown_size-requires
shown_size-requires c =
    let args = c.args in
    omega (arith, c.requires, (name-told args.design.now.names.now args.design.now.strings.now args.design.now.wires.now args.design.now.rows.now args.m args.w _ c.shown_place.ensures _ c.in-Name.is).3)

pub slice_bounds-shown_size-count-in-Text : goal.slice_bounds-shown_size-count-in-Text
slice_bounds-shown_size-count-in-Text c =
    let args = c.args in
    (text-told args.design.now.names.now args.design.now.strings.now args.design.now.wires.now args.design.now.rows.now args.m args.w _ c.shown_place.ensures _ c.in-Text.is).0

pub slice_bounds-shown_size-start-in-Text : goal.slice_bounds-shown_size-start-in-Text
slice_bounds-shown_size-start-in-Text c =
    let args = c.args in
    (text-told args.design.now.names.now args.design.now.strings.now args.design.now.wires.now args.design.now.rows.now args.m args.w _ c.shown_place.ensures _ c.in-Text.is).0

pub slice_bounds-shown_size-end-in-Text : goal.slice_bounds-shown_size-end-in-Text
slice_bounds-shown_size-end-in-Text c =
    let args = c.args in
    (text-told args.design.now.names.now args.design.now.strings.now args.design.now.wires.now args.design.now.rows.now args.m args.w _ c.shown_place.ensures _ c.in-Text.is).1

pub shown_size-requires-in-Text : goal.shown_size-requires-in-Text
shown_size-requires-in-Text c =
    let args = c.args in
    omega (arith, c.requires, (text-told args.design.now.names.now args.design.now.strings.now args.design.now.wires.now args.design.now.rows.now args.m args.w _ c.shown_place.ensures _ c.in-Text.is).3)

pub returns-in-Name : goal.returns-in-Name
returns-in-Name c =
    let args = c.args in
    c.shown_size.ensures ∙ ap (λ (l : List ℕ). length (flat_map low l)) (name-told args.design.now.names.now args.design.now.strings.now args.design.now.wires.now args.design.now.rows.now args.m args.w _ c.shown_place.ensures _ c.in-Name.is).2

pub returns-in-Text : goal.returns-in-Text
returns-in-Text c =
    let args = c.args in
    c.shown_size-in-Text.ensures ∙ ap (λ (l : List ℕ). length (flat_map low l)) (text-told args.design.now.names.now args.design.now.strings.now args.design.now.wires.now args.design.now.rows.now args.m args.w _ c.shown_place.ensures _ c.in-Text.is).2
