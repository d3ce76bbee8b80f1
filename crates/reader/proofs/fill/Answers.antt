use mathlib.Core.Path.{◌∙◌, sym}
use Rattle.reader.proofs.HalfLaws.{right-sized, into-right, into-wrong}
use Rattle.reader.proofs.fill.Goals as goal

pub fill_sized-requires : goal.fill_sized-requires
fill_sized-requires c =
    right-sized c.args.names.now c.args.strings.now c.args.bits.now c.args.wires.now c.args.rows.now (sym c.right_lengths.ensures ∙ c.if-right_lengths.true)

pub returns-then-right_lengths : goal.returns-then-right_lengths
returns-then-right_lengths c =
    into-right c.args.f.now c.args.names.now c.args.strings.now c.args.bits.now c.args.wires.now c.args.rows.now c.args.renames c.args.room _ c.right_lengths.ensures c.if-right_lengths.true _ c.fill_sized.ensures

pub returns : goal.returns
returns c =
    into-wrong c.args.f.now c.args.names.now c.args.strings.now c.args.bits.now c.args.wires.now c.args.rows.now c.args.renames c.args.room _ c.right_lengths.ensures c.if-right_lengths.false
