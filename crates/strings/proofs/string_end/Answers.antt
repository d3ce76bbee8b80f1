use native.Mathlib.Omega.{arith}
use Rattle.strings.specs.Machine.{inside_of, turn_of}
use Rattle.strings.proofs.Reached.{reached-plain, reached-goes, reached-ends, reached-breaks, reached-end, closed_is, broken-is}
use Rattle.strings.proofs.string_end.Goals as goal

pub loop-i-init : goal.loop-i-init
unfolding inside_of
loop-i-init c = (_, reached-plain _ _ _ c.plain_end-i.ensures)

pub loop-i-preserved : goal.loop-i-preserved
unfolding turn_of
loop-i-preserved c =
    let l = c.loop-i in
    let r = reached-goes _ _ _ _ _ l.invariant.1 _ _ c.loop-i-test.true (rw c.in-Goes.is at c.turn_on.ensures) in
    (_, r)

pub returns-in-Ends : goal.returns-in-Ends
unfolding turn_of
returns-in-Ends c =
    let l = c.loop-i in
    let q = reached-ends _ _ _ _ _ l.invariant.1 _ c.loop-i-test.true (rw c.in-Ends.is at c.turn_on.ensures) in
    closed_is _ _ _ _ q (omega (arith, l.invariant.1.few)) (omega arith)

pub returns-in-Breaks : goal.returns-in-Breaks
unfolding turn_of
returns-in-Breaks c =
    let l = c.loop-i in
    let q = reached-breaks _ _ _ _ _ l.invariant.1 c.loop-i-test.true (rw c.in-Breaks.is at c.turn_on.ensures) in
    broken-is _ _ q

pub returns : goal.returns
returns c =
    let l = c.loop-i in
    let q = reached-end _ _ _ _ _ l.invariant.1 c.loop-i-test.false in
    broken-is _ _ q
