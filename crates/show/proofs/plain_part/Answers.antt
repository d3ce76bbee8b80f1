-- By the first byte, if there is one.
-- Assumes nothing.
use Rattle.show.proofs.StepLaws.{plain-public, plain_other, plain-none}
use Rattle.show.proofs.plain_part.Goals as goal

pub returns-then-names-start-eq92 : goal.returns-then-names-start-eq92
returns-then-names-start-eq92 c = plain-public c.args.names.now c.args.p c.if-start-p.true c.if-names-start-eq92.true

pub returns-else-names-start-eq92 : goal.returns-else-names-start-eq92
returns-else-names-start-eq92 c = plain_other c.args.names.now c.args.p c.if-start-p.true c.if-names-start-eq92.false

pub returns-else-start-p : goal.returns-else-start-p
returns-else-start-p c = plain-none c.args.names.now c.args.p c.if-start-p.false
