-- The part of each case of the place.
-- Assumes nothing.
use mathlib.Core.Path.{subst, ap, ◌∙◌}
use Rattle.std.specs.Prelude.{Ok}
use Rattle.netlist.specs.Results.{lent}
use Rattle.show.specs.Parts.{InRange}
use Rattle.show.proofs.ShowLaws.{shown-name, shown-text, shown-none}
use Rattle.show.proofs.show.Goals as goal

pub slice_bounds-result-count : goal.slice_bounds-result-count
slice_bounds-result-count c =
    let args = c.args in
    let find-shown = c.find_shown in
    (subst (InRange args.design.now.names.now args.design.now.strings.now) (c.in-Ok-Name.is ∙ ap Ok c.in-Ok-Name.field-0-is)
    find-shown.ensures.in_range).0

pub returns-in-Ok-Name : goal.returns-in-Ok-Name
returns-in-Ok-Name c =
    let args = c.args in
    let found = c.find_shown.ensures in
    let all =
    shown-name
    (lent args.design.now.names.now args.design.now.strings.now args.design.now.bits.now args.design.now.wires.now args.design.now.rows.now args.design.now.renames args.design.now.room)
    args.m.0 args.w.0 args.design.now.names.ref_ptr args.design.now.strings.ref_ptr _ (found.shown_at, (found.in_range, found.shown_as)) _
    (c.in-Ok-Name.is ∙ ap Ok c.in-Ok-Name.field-0-is) in
    record { shown_as = all.0; lies_at = all.1 }

pub slice_bounds-result-count-in-Ok-Text : goal.slice_bounds-result-count-in-Ok-Text
slice_bounds-result-count-in-Ok-Text c =
    let args = c.args in
    let find-shown = c.find_shown in
    (subst (InRange args.design.now.names.now args.design.now.strings.now) (c.in-Ok-Text.is ∙ ap Ok c.in-Ok-Text.field-0-is)
    find-shown.ensures.in_range).0

pub returns-in-Ok-Text : goal.returns-in-Ok-Text
returns-in-Ok-Text c =
    let args = c.args in
    let found = c.find_shown.ensures in
    let all =
    shown-text
    (lent args.design.now.names.now args.design.now.strings.now args.design.now.bits.now args.design.now.wires.now args.design.now.rows.now args.design.now.renames args.design.now.room)
    args.m.0 args.w.0 args.design.now.names.ref_ptr args.design.now.strings.ref_ptr _ (found.shown_at, (found.in_range, found.shown_as)) _
    (c.in-Ok-Text.is ∙ ap Ok c.in-Ok-Text.field-0-is) in
    record { shown_as = all.0; lies_at = all.1 }

pub returns-in-Err : goal.returns-in-Err
returns-in-Err c =
    let args = c.args in
    let found = c.find_shown.ensures in
    let all =
    shown-none
    (lent args.design.now.names.now args.design.now.strings.now args.design.now.bits.now args.design.now.wires.now args.design.now.rows.now args.design.now.renames args.design.now.room)
    args.m.0 args.w.0 args.design.now.names.ref_ptr args.design.now.strings.ref_ptr _ (found.shown_at, (found.in_range, found.shown_as)) _
    c.in-Err.is in
    record { shown_as = all.0; lies_at = all.1 }
