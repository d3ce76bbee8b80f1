use native.Mathlib.Omega.{arith}
use Rattle.tables.specs.Row.{words}
use Rattle.wires.specs.Rows.{word_at, column}
use Rattle.session.proofs.take_rename.Goals as goal

pub zero_bytes-requires : goal.zero_bytes-requires
unfolding column word_at
zero_bytes-requires c = (omega (arith, c.requires.0, c.word-start.ensures), omega (arith, c.requires.0, c.requires.1, c.word-start.ensures))

pub returns : goal.returns
unfolding words column word_at
returns c =
    let word = c.word-start in
    let zero-bytes = c.zero_bytes in
    let put-row = c.put_row in
    record {
      r_value = word.ensures;
      names_after = rw (← word.ensures) zero-bytes.ensures;
      rows_after = put-row.ensures;
    }
