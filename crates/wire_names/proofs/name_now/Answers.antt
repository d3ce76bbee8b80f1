-- The last rename's name, if there is one.
-- Assumes nothing.
use Prim.Native.Nat.{suc, ◌-◌}
use mathlib.Core.Path.{◌≡◌, ◌∙◌}
use Rattle.wire_names.specs.NowLaws.{name_by, name-at}
use native.Mathlib.Omega.{arith}
use Rattle.wire_names.proofs.name_now.Goals as goal

pub returns-then-last-eq0 : goal.returns-then-last-eq0
unfolding name_by
returns-then-last-eq0 c =
    let args = c.args in
    let last-rename = c.last_rename-last in
    c.bytes_at.ensures
    ∙ name-at args.design.now.names.now args.design.now.wires.now args.design.now.rows.now args.m.from args.m.number.0
    args.wire.0 args.k args.m.renames _ 0 last-rename.ensures c.if-last-eq0.true

pub returns : goal.returns
unfolding name_by
returns c =
    let args = c.args in
    let last-rename = c.last_rename-last in
    let e : last-rename.result ≡ suc (last-rename.result - 1) = omega arith in
    c.bytes_at-2.ensures
    ∙ name-at args.design.now.names.now args.design.now.wires.now args.design.now.rows.now args.m.from args.m.number.0
    args.wire.0 args.k args.m.renames _ _ last-rename.ensures e
