use Prim.Native.Nat.{◌-◌}
use native.Mathlib.Omega.{arith}
use Rattle.calls.proofs.CallLaws.{going_start, going_step, going_end, calls-start, calls-next, calls-end}
use Rattle.calls.proofs.make_calls.Goals as goal

pub loop-i-init : goal.loop-i-init
loop-i-init c = record {
  words = omega arith;
  going = going_start _ c.requires _ _ _ (calls-start c.args.calls.now c.args.texts.now);
}

pub loop-i-preserved : goal.loop-i-preserved
loop-i-preserved c = record {
  words = c.loop-i.invariant.words;
  going = going_step c.loop-i.invariant.going _ _ (calls-next c.args.calls.now c.args.texts.now _ c.loop-i.i (omega arith)) _
      c.make_call-left.ensures _ c.put_answer.ensures;
}

pub returns : goal.returns
returns c =
    rw c.accepted.ensures
    (going_end c.loop-i.invariant.going (calls-end c.args.calls.now c.args.texts.now _ c.loop-i.i (omega arith)))
