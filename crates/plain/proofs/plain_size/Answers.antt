-- By the two cases of a byte.
use mathlib.Core.Path.{sym, ap, ◌∙◌}
use lib.ListN.{length}
use Rattle.plain.proofs.ByteLaws.{plain-kept, plain_other}
use Rattle.plain.proofs.plain_size.Goals as goal

pub returns-then-is_plain : goal.returns-then-is_plain
returns-then-is_plain c = sym (ap length (plain-kept _ (sym c.is_plain.ensures ∙ c.if-is_plain.true)))

pub returns : goal.returns
returns c = sym (ap length (plain_other _ (sym c.is_plain.ensures ∙ c.if-is_plain.false)))
