-- By the flags.
-- Assumes nothing.
use borrow.Author.Tests.{le-leb, lt-leb}
use Rattle.row_statements.proofs.statements.port_number_stands.Goals as goal

pub returns-then-flags-ge-PORT_FLAG : goal.returns-then-flags-ge-PORT_FLAG
returns-then-flags-ge-PORT_FLAG c = rw (le-leb _ _ c.if-flags-ge-PORT_FLAG.true)

pub returns : goal.returns
returns c = rw (lt-leb _ _ c.if-flags-ge-PORT_FLAG.false)
