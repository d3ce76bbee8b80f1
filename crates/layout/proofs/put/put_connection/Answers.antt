use mathlib.Core.Path.{refl}
use native.Mathlib.Omega.{arith}
use Rattle.rules.specs.Statements.{code, holds, contents}
use Rattle.rules.specs.Layout.{padded, row, columns, statement_row}
use Rattle.syntax.specs.SignalLaws.{signal-long}
use Rattle.layout.proofs.PutLaws.{signals-put}
use Rattle.layout.proofs.put.put_connection.Goals as goal

pub returns : goal.returns
unfolding statement_row columns code holds contents row padded
returns c =
    let pre = c.requires in
    let args = c.args in
    let reverse-words = c.reverse_words in
    let reverse-words2 = c.reverse_words-2 in
    let put-columns = c.put_columns in record {
      bits_after = signals-put _ _ _ _ _ _ refl reverse-words.ensures 2048 _ _ refl (omega (arith, pre.left_le_most_width))
          reverse-words2.ensures;
      rows_after = rw
          (signal-long args.scratch.now 0 args.left (omega (arith, pre.left_le_most_width)), signal-long args.scratch.now 2048 args.right pre.left_le_most_width.1)
          put-columns.ensures;
    }
