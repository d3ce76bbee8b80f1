-- `compare_from_front` meets its contract. The invariant: what is left from i on is the same just where the whole is.
-- Assumes nothing.
use mathlib.Core.Path.{refl, sym, ◌∙◌}
use Prim.Native.Nat.{◌<◌, ◌≤◌}
use lib.ListN.{length}
use native.Mathlib.Omega.{arith}
use Rattle.lists.specs.Bytes.{same_length, same_more, same_end, same-apart}
use Rattle.compare_bench.proofs.compare_from_front.Goals as goal

pub returns-then-a-b : goal.returns-then-a-b
returns-then-a-b c = sym (same_length _ _ c.if-a-b.true)

pub loop-i-init : goal.loop-i-init
loop-i-init c = refl

pub returns-then-a-i : goal.returns-then-a-i
returns-then-a-i c = sym (same-apart _ _ _ c.if-a-i.true)

pub loop-i-preserved : goal.loop-i-preserved
loop-i-preserved c =
    let h : c.loop-i.i < length c.args.b.now = omega arith in
    c.loop-i.invariant ∙ same_more _ _ _ c.loop-i-test.true h c.if-a-i.false

pub returns : goal.returns
returns c =
    let h : length c.args.b.now ≤ c.loop-i.i = omega arith in
    sym (c.loop-i.invariant ∙ same_end _ _ _ c.loop-i-test.false h)
