-- The loop's invariant: what the bytes before i stand for is put.
use Rattle.plain.proofs.TakenLaws.{taken_start, taken_next, taken-all}
use Rattle.plain.proofs.put_taken.Goals as goal

pub loop-i-init : goal.loop-i-init
loop-i-init c = taken_start c.args.form.now c.args.at c.args.out.now

pub loop-i-preserved : goal.loop-i-preserved
loop-i-preserved c = taken_next c.loop-i.invariant c.in-Some.taken c.in-Some.ensures

pub returns : goal.returns
returns c = taken-all c.loop-i.invariant c.loop-i-test.false
