-- The sum of the four pieces.
use mathlib.Core.Path.{ap, ◌∙◌}
use mathlib.Core.List.{List}
use Prim.Native.Nat.{ℕ}
use native.Mathlib.Omega.{arith}
use lib.ListN.{length}
use Rattle.rules.specs.Plain.{plain_form}
use Rattle.listing.specs.Lines.{name_at}
use Rattle.listing.proofs.LineLaws.{name-most, line-sum, line-most}
use Rattle.listing.proofs.line_size.Goals as goal

pub form_size-name-requires : goal.form_size-name-requires
unfolding name_at
form_size-name-requires c =
    let args = c.args in
    omega (arith, c.requires, ap length c.name_now.ensures, name-most args.design.now.names.now args.design.now.strings.now args.design.now.wires.now args.design.now.rows.now args.m args.w)

pub overflow_add-result : goal.overflow_add-result
unfolding name_at
overflow_add-result c =
    let args = c.args in
    let pre = c.requires in
    let sum = line-sum args.design.now.names.now args.design.now.strings.now args.design.now.wires.now args.design.now.rows.now args.m args.w _ _ (c.form_size-name.ensures ∙ ap (λ (l : List ℕ). length (plain_form l)) c.name_now.ensures) c.shown_part_size-shown.ensures in
    omega (arith, sum, line-most args.design.now.names.now args.design.now.strings.now args.design.now.wires.now args.design.now.rows.now args.m pre.names_len.0 pre.names_len.1 args.w)

pub overflow_add-result-2 : goal.overflow_add-result-2
unfolding name_at
overflow_add-result-2 c =
    let args = c.args in
    let pre = c.requires in
    let sum = line-sum args.design.now.names.now args.design.now.strings.now args.design.now.wires.now args.design.now.rows.now args.m args.w _ _ (c.form_size-name.ensures ∙ ap (λ (l : List ℕ). length (plain_form l)) c.name_now.ensures) c.shown_part_size-shown.ensures in
    omega (arith, sum, line-most args.design.now.names.now args.design.now.strings.now args.design.now.wires.now args.design.now.rows.now args.m pre.names_len.0 pre.names_len.1 args.w)

pub overflow_add-result-3 : goal.overflow_add-result-3
unfolding name_at
overflow_add-result-3 c =
    let args = c.args in
    let pre = c.requires in
    let sum = line-sum args.design.now.names.now args.design.now.strings.now args.design.now.wires.now args.design.now.rows.now args.m args.w _ _ (c.form_size-name.ensures ∙ ap (λ (l : List ℕ). length (plain_form l)) c.name_now.ensures) c.shown_part_size-shown.ensures in
    omega (arith, sum, line-most args.design.now.names.now args.design.now.strings.now args.design.now.wires.now args.design.now.rows.now args.m pre.names_len.0 pre.names_len.1 args.w)

pub returns : goal.returns
unfolding name_at
returns c =
    let args = c.args in
    line-sum args.design.now.names.now args.design.now.strings.now args.design.now.wires.now args.design.now.rows.now args.m args.w _ _ (c.form_size-name.ensures ∙ ap (λ (l : List ℕ). length (plain_form l)) c.name_now.ensures) c.shown_part_size-shown.ensures
