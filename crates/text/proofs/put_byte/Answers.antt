-- A byte past the room's end changes nothing, as a store there does.
use mathlib.Core.Path.{◌≡◌, sym, ◌∙◌}
use lib.ListN.{set}
use lib.Seq.{set_out}
use Rattle.text.proofs.TextLaws.{one_byte, past-byte}
use Rattle.text.proofs.put_byte.Goals as goal
use Rattle.text.proofs.put_byte.Goals.{else-at-out, then-at-out}

pub returns-then-at-ge-TEXT_LENGTH : goal.returns-then-at-ge-TEXT_LENGTH
returns-then-at-ge-TEXT_LENGTH c = past-byte c.args.out.now c.args.at c.args.b c.if-at-ge-TEXT_LENGTH.true

pub returns : goal.returns
returns c =
    let a = c.args in
    let e : c.if-at-out.out ≡ set a.out.now a.at a.b =
    (elim c.if-at-out.branch [ then-at-out w ↦ w.out-is | else-at-out w ↦ w.out-is ∙ sym (set_out a.out.now a.at a.b w.if-at-out.false) ]) in
    one_byte a.out.now c.if-at-out.out a.at a.b e c.if-at-ge-TEXT_LENGTH.false
