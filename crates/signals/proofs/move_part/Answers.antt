-- `move_part` meets its contract: where a number stands nothing is moved, nor where the part stands at o.
-- Assumes nothing.
use mathlib.Core.Path.{refl, ◌∙◌}
use native.Mathlib.Omega.{arith}
use Rattle.signals.proofs.CutLaws.{moved-still, moved_down}
use Rattle.signals.proofs.Codes.{words-moved}
use Rattle.signals.proofs.move_part.Goals as goal

pub returns-then-above-ne0 : goal.returns-then-above-ne0
returns-then-above-ne0 c =
    let pre = c.requires in
    let if1 = c.if-part-ne0 in
    let room = pre.1 if1.false in
    moved_down _ _ _ _ _ refl pre.0 _ room (c.copy_within.ensures.after ∙ words-moved _ _ _ _ (omega arith) (omega (arith, pre.0, room)))

pub returns-else-above-ne0 : goal.returns-else-above-ne0
returns-else-above-ne0 c = moved-still _ _ _ _ _ refl c.requires.0 c.if-above-ne0.false
