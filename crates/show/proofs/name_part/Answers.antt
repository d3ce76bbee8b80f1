-- The last rename's name, if there is one.
-- Assumes nothing.
use Prim.Native.Nat.{suc, ◌-◌}
use mathlib.Core.Path.{◌≡◌, ◌∙◌}
use native.Mathlib.Omega.{arith}
use Rattle.show.specs.Parts.{part_by}
use Rattle.show.proofs.StepLaws.{name-at}
use Rattle.show.proofs.name_part.Goals as goal

pub returns-then-last-eq0 : goal.returns-then-last-eq0
unfolding part_by
returns-then-last-eq0 c =
    let args = c.args in
    let last-rename = c.last_rename-last in
    c.span.ensures
    ∙ name-at args.design.now.names.now args.design.now.wires.now args.design.now.rows.now args.from args.count args.m.0
    args.w.0 args.k _ 0 last-rename.ensures c.if-last-eq0.true

pub returns : goal.returns
unfolding part_by
returns c =
    let args = c.args in
    let last-rename = c.last_rename-last in
    let e : last-rename.result ≡ suc (last-rename.result - 1) = omega arith in
    c.span-2.ensures
    ∙ name-at args.design.now.names.now args.design.now.wires.now args.design.now.rows.now args.from args.count args.m.0
    args.w.0 args.k _ _ last-rename.ensures e
