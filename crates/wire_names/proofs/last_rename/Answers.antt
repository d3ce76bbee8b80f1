-- The loop's invariant: the last rename of the wire among the first ones that are left is the last of all.
-- Assumes nothing.
use mathlib.Core.Path.{sym, ◌∙◌}
use Prim.Native.Nat.{◌-◌}
use native.Mathlib.Omega.{arith}
use Rattle.wire_names.specs.NowLaws.{rename-none, rename-here, rename-before}
use Rattle.wire_names.proofs.last_rename.Goals as goal

pub returns-then-renames : goal.returns-then-renames
returns-then-renames c =
    let l = c.loop-last in
    omega (arith, l.invariant, rename-here _ _ _ _ l.last (l.last - 1) (omega arith) _ c.renames.ensures c.if-renames.true)

pub loop-last-preserved : goal.loop-last-preserved
loop-last-preserved c =
    let l = c.loop-last in
    l.invariant ∙ rename-before _ _ _ _ l.last (l.last - 1) (omega arith) _ c.renames.ensures c.if-renames.false

pub returns : goal.returns
returns c = sym (c.loop-last.invariant ∙ rename-none _ _ _ _ _ (omega arith))
