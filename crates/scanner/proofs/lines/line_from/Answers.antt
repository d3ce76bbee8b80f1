-- `line_from` meets its contract.
-- Assumes nothing.
use borrow.Author.Tests.{lt-ltb, le-ltb}
use Rattle.scanner.specs.Lines.{line_from}
use Rattle.scanner.proofs.lines.line_from.Goals as goal

pub returns-then-end-s : goal.returns-then-end-s
unfolding line_from
returns-then-end-s c = rw (← c.line_end-end.ensures, lt-ltb _ _ c.if-end-s.true)

pub returns : goal.returns
unfolding line_from
returns c = rw (← c.line_end-end.ensures, le-ltb _ _ c.if-end-s.false)
