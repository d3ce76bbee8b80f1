-- The loop's invariant: what is found so far and what the bytes from i on tell is what all of them tell.
use mathlib.Core.Path.{sym, ◌∙◌}
use native.Mathlib.Omega.{arith}
use Rattle.constant_text.specs.Plain.{plain}
use Rattle.lists.specs.Elements.{all-turn, all_told}
use Rattle.constant_text.proofs.all_plain.Goals as goal

pub loop-b-preserved : goal.loop-b-preserved
loop-b-preserved c = all-turn plain c.args.s.now c.loop-b.b-index c.loop-b.good c.is_plain-good.result (omega arith) (sym c.is_plain-good.ensures) ∙ c.loop-b.invariant

pub returns : goal.returns
returns c = sym (all_told plain c.args.s.now c.loop-b.b-index c.loop-b.good (omega arith)) ∙ c.loop-b.invariant
