use mathlib.Core.Path.{refl}
use native.Mathlib.Omega.{arith}
use Rattle.rules.specs.Statements.{code, holds, contents}
use Rattle.rules.specs.Layout.{padded, row, columns, statement_row}
use Rattle.syntax.specs.SignalLaws.{signal-long}
use Rattle.layout.proofs.PutLaws.{name-put, signal-put}
use Rattle.layout.proofs.put.put_cell_connection.Goals as goal

pub returns : goal.returns
unfolding statement_row columns code holds contents row padded
returns c =
    let args = c.args in
    let pre = c.requires in
    let reverse-words = c.reverse_words in
    let put-named = c.put_named in record {
      names_after = name-put _ _ _ _ _ refl put-named.ensures.names_after;
      bits_after = signal-put _ _ _ _ _ _ refl reverse-words.ensures refl;
      rows_after = rw (signal-long args.scratch.now 0 args.width (omega (arith, pre.width_in_bounds))) put-named.ensures.rows_after;
    }
