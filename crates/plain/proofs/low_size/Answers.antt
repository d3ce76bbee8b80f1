-- By the four cases of a byte.
use mathlib.Core.Path.{sym, ap}
use lib.ListN.{length}
use Rattle.plain.proofs.ByteLaws.{low-kept, low-line-end, low-tab, low-octal}
use Rattle.plain.proofs.low_size.Goals as goal

pub returns-then-b-eq10 : goal.returns-then-b-eq10
returns-then-b-eq10 c = sym (ap length (low-line-end _ c.if-b-eq10.true))

pub returns-then-b-eq9 : goal.returns-then-b-eq9
returns-then-b-eq9 c = sym (ap length (low-tab _ c.if-b-eq9.true))

pub returns-then-b-lt32 : goal.returns-then-b-lt32
returns-then-b-lt32 c = sym (ap length (low-octal _ c.if-b-lt32.true c.if-b-eq10.false c.if-b-eq9.false))

pub returns : goal.returns
returns c = sym (ap length (low-kept _ c.if-b-lt32.false))
