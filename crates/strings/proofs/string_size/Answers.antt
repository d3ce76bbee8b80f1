use native.Mathlib.Omega.{arith}
use lib.ListN.{length-append}
use Rattle.scanner.proofs.RunLaws.{end_of-low}
use Rattle.strings.specs.Decoded.{is_plain}
use Rattle.strings.specs.Machine.{inside_of, turn_of}
use Rattle.strings.proofs.StringLaws.{closed-decoded, broken-decoded}
use Rattle.strings.proofs.Reached.{plain_size, reached-plain, reached-goes, reached-ends, ends-few, reached-breaks, reached-end}
use Rattle.strings.proofs.string_size.Goals as goal

pub overflow_sub-size : goal.overflow_sub-size
overflow_sub-size c = omega (arith, end_of-low is_plain c.args.s.now c.args.at, c.plain_end-first.ensures)

pub loop-i-init : goal.loop-i-init
unfolding inside_of
loop-i-init c = (_, reached-plain _ _ _ c.plain_end-first.ensures, plain_size _ _ _ c.plain_end-first.ensures)

pub overflow_add-size : goal.overflow_add-size
unfolding turn_of
overflow_add-size c =
    let l = c.loop-i in
    let r = reached-goes _ _ _ _ _ l.invariant.1 _ _ c.loop-i-test.true (rw c.in-Goes.is at c.turn_on.ensures) in
    omega (arith, simp length-append at r.few, l.invariant.2, c.count-size.ensures)

pub loop-i-preserved : goal.loop-i-preserved
unfolding turn_of
loop-i-preserved c =
    let l = c.loop-i in
    let r = reached-goes _ _ _ _ _ l.invariant.1 _ _ c.loop-i-test.true (rw c.in-Goes.is at c.turn_on.ensures) in
    (_, r, simp length-append (omega (arith, l.invariant.2, c.count-size.ensures)))

pub overflow_add-result : goal.overflow_add-result
unfolding turn_of
overflow_add-result c =
    let l = c.loop-i in
    let f = ends-few _ _ _ _ _ l.invariant.1 _ (rw c.in-Ends.is at c.turn_on.ensures) in
    omega (arith, f, l.invariant.2, c.count.ensures)

pub returns-in-Ends : goal.returns-in-Ends
unfolding turn_of
returns-in-Ends c =
    let l = c.loop-i in
    let q = reached-ends _ _ _ _ _ l.invariant.1 _ c.loop-i-test.true (rw c.in-Ends.is at c.turn_on.ensures) in
    let e = closed-decoded _ _ _ q in
    rw e (simp length-append (omega (arith, l.invariant.2, c.count.ensures)))

pub returns-in-Breaks : goal.returns-in-Breaks
unfolding turn_of
returns-in-Breaks c =
    let l = c.loop-i in
    let q = reached-breaks _ _ _ _ _ l.invariant.1 c.loop-i-test.true (rw c.in-Breaks.is at c.turn_on.ensures) in
    rw (broken-decoded _ q)

pub returns : goal.returns
returns c =
    let l = c.loop-i in
    let q = reached-end _ _ _ _ _ l.invariant.1 c.loop-i-test.false in
    rw (broken-decoded _ q)
