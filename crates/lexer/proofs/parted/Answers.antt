-- Outside the bytes there is nothing; inside them the class decides.
use mathlib.Core.Path.{sym, ◌∙◌}
use borrow.Author.Tests.{le-leb}
use Rattle.rules.specs.Bytes.{within}
use Rattle.scanner.specs.Class.{in_class}
use Rattle.scanner.proofs.ClassLaws.{below}
use Rattle.lexer.proofs.Steps.{parted-end, parted-at}
use Rattle.lexer.proofs.parted.Goals as goal

pub returns-then-s-at : goal.returns-then-s-at
returns-then-s-at c = sym (parted-end _ _ c.if-s-at.true)

pub returns-then-k-lt-BLANK : goal.returns-then-k-lt-BLANK
returns-then-k-lt-BLANK c = sym (parted-at _ _ c.if-s-at.false ∙ below _ _ _ _ c.class_in-k.ensures c.if-k-lt-BLANK.true)

pub returns : goal.returns
unfolding in_class within
returns c = sym (parted-at _ _ c.if-s-at.false ∙ rw (← c.class_in-k.ensures, le-leb _ _ c.if-k-lt-BLANK.false))
