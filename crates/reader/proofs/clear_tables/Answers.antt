use Rattle.reader.proofs.HalfLaws.{cleared}
use Rattle.reader.proofs.clear_tables.Goals as goal

pub returns : goal.returns
returns c =
    cleared c.args.names.now c.args.strings.now c.args.bits.now c.args.wires.now c.args.rows.now c.requires c.clear_bytes.ensures c.clear_bytes-2.ensures c.clear_words.ensures c.clear_words-2.ensures c.clear_words-3.ensures
