-- Plain bytes stand as they are.
use mathlib.Core.Path.{sym, ◌∙◌}
use Rattle.constant_text.specs.Plain.{plain-text}
use Rattle.text.specs.Written.{written_as}
use Rattle.constant_text.proofs.put_inside.Goals as goal

pub returns-then-all_plain : goal.returns-then-all_plain
returns-then-all_plain c = written_as c.put_bytes.ensures (sym (plain-text c.args.s.now (sym c.all_plain.ensures ∙ c.if-all_plain.true)))
