use mathlib.Core.Path.{refl, ap, ◌∙◌}
use native.Mathlib.Omega.{arith}
use lib.ListN.{length, length-append}
use borrow.Author.Rules.{rules}
use Rattle.scanner.proofs.RunLaws.{end_of-low}
use Rattle.strings.specs.Decoded.{is_plain}
use Rattle.tables.specs.Store.{store, store_then, length-store}
use Rattle.strings.specs.Machine.{inside_of, turn_of}
use Rattle.strings.proofs.StringLaws.{closed-decoded, never-broken}
use Rattle.strings.proofs.Reached.{plain_size, reached-plain, reached-goes, reached-ends, reached-breaks, reached-end, reached-room}
use Rattle.strings.proofs.put_string.Goals as goal

pub store-requires : goal.store-requires
store-requires c =
    let h = reached-room _ _ _ _ _ (reached-plain _ _ _ c.plain_end-first.ensures) c.requires.s_value in
    omega (arith, h, ap length c.part.ensures, c.requires.s_in_bounds)

pub overflow_sub-end : goal.overflow_sub-end
overflow_sub-end c =
    let args = c.args in
    let plain-end = c.plain_end-first in
    omega (arith, end_of-low is_plain args.s.now args.at, plain-end.ensures)

pub overflow_add-end : goal.overflow_add-end
overflow_add-end c =
    let h = reached-room _ _ _ _ _ (reached-plain _ _ _ c.plain_end-first.ensures) c.requires.s_value in
    omega (arith, h, plain_size _ _ _ c.plain_end-first.ensures, c.requires.s_in_bounds)

pub loop-i-init : goal.loop-i-init
unfolding inside_of
loop-i-init c = (_, reached-plain _ _ _ c.plain_end-first.ensures, omega (arith, plain_size _ _ _ c.plain_end-first.ensures), (λ l e. e), refl)

pub put_given-end-requires : goal.put_given-end-requires
unfolding turn_of
put_given-end-requires c =
    let pre = c.requires in
    let args = c.args in
    let part = c.part in
    let put-bytes = c.store in
    let loop = c.loop-i in
    let loop-test = c.loop-i-test in
    let turn_on = c.turn_on in
    let r = reached-goes _ _ _ _ _ loop.invariant.1 _ _ loop-test.true (rw c.in-Goes.is at turn_on.ensures) in
    let h = reached-room _ _ _ _ _ r pre.s_value in
    omega (
      arith,
      simp length-append at h,
      loop.invariant.2,
      loop.invariant.4,
      pre.s_in_bounds,
      ap length put-bytes.ensures,
      length-store args.out.now args.to part.result.now,
    )

pub loop-i-preserved : goal.loop-i-preserved
unfolding turn_of
loop-i-preserved c =
    let loop = c.loop-i in
    let loop-test = c.loop-i-test in
    let turn_on = c.turn_on in
    let put-given = c.put_given-end in
    let r = reached-goes _ _ _ _ _ loop.invariant.1 _ _ loop-test.true (rw c.in-Goes.is at turn_on.ensures) in
    let p = put-given.ensures in (
      _,
      r,
      simp length-append (omega (arith, loop.invariant.2, p.value)),
      (λ x e. store_then _ _ _ _ _ _ _ (loop.invariant.3 x e) loop.invariant.2 p.out_after),
      search rules,
    )

pub put_given-requires : goal.put_given-requires
unfolding turn_of
put_given-requires c =
    let pre = c.requires in
    let args = c.args in
    let part = c.part in
    let put-bytes = c.store in
    let loop = c.loop-i in
    let loop-test = c.loop-i-test in
    let turn_on = c.turn_on in
    let q = reached-ends _ _ _ _ _ loop.invariant.1 _ loop-test.true (rw c.in-Ends.is at turn_on.ensures) in
    let e = closed-decoded _ _ _ q in
    omega (
      arith,
      simp length-append at (ap length e),
      loop.invariant.2,
      loop.invariant.4,
      pre.s_in_bounds,
      ap length put-bytes.ensures,
      length-store args.out.now args.to part.result.now,
    )

pub returns-in-Ends : goal.returns-in-Ends
unfolding turn_of
returns-in-Ends c =
    let part = c.part in
    let put-bytes = c.store in
    let loop = c.loop-i in
    let loop-test = c.loop-i-test in
    let turn_on = c.turn_on in
    let put-given2 = c.put_given in
    let q = reached-ends _ _ _ _ _ loop.invariant.1 _ loop-test.true (rw c.in-Ends.is at turn_on.ensures) in
    let e = closed-decoded _ _ _ q in
    let p = put-given2.ensures in
    record {
      value = rw e (simp length-append (omega (arith, loop.invariant.2, p.value)));
      out_after =
          rw e
          (store_then _ _ _ _ _ _ _ (loop.invariant.3 _ (put-bytes.ensures ∙ ap (store _ _) part.ensures)) loop.invariant.2 p.out_after);
    }

pub returns-in-Breaks : goal.returns-in-Breaks
unfolding turn_of
returns-in-Breaks c =
    let l = c.loop-i in
    let q = reached-breaks _ _ _ _ _ l.invariant.1 c.loop-i-test.true (rw c.in-Breaks.is at c.turn_on.ensures) in
    absurd (never-broken _ c.requires.s_value q)

pub returns : goal.returns
returns c =
    let l = c.loop-i in
    let q = reached-end _ _ _ _ _ l.invariant.1 c.loop-i-test.false in
    absurd (never-broken _ c.requires.s_value q)
