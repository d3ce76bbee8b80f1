use Rattle.std.proofs.Common.{get_or, refl, arith}
use Rattle.rules.specs.Bytes.{all, within}
use Rattle.row_statements.proofs.PartLaws.{given-byte, all-next, all-taken}
use Rattle.row_statements.proofs.parts.all_given.Goals as goal

pub loop-byte-init : goal.loop-byte-init
unfolding all
loop-byte-init c = refl

pub loop-byte-preserved : goal.loop-byte-preserved
loop-byte-preserved c =
    let byte = get_or c.args.bytes.now c.loop-byte.byte-index 0 in
    let given = given-byte byte (omega (arith, c.type_inv.bytes c.loop-byte.byte-index)) in
    rw (c.loop-byte.invariant, ← given) (all-next (within 1 255) c.args.bytes.now c.loop-byte.byte-index (omega arith))

pub returns : goal.returns
returns c = rw c.loop-byte.invariant (all-taken (within 1 255) _ _ (omega arith))
