use Prim.Native.Nat.{ℕ, ◌+◌}
use mathlib.Core.Path.{refl, ap}
use Rattle.rules.specs.Statements.{code, holds, contents}
use Rattle.rules.specs.Layout.{padded, row, columns, statement_row}
use Rattle.layout.proofs.PutLaws.{names-put}
use Rattle.layout.proofs.put.put_cell.Goals as goal

pub returns : goal.returns
unfolding statement_row columns code holds contents row padded
returns c =
    let args = c.args in
    let put-name = c.put_name-first in
    let put-name2 = c.put_name-size in
    let put-columns = c.put_columns in record {
      names_after = names-put _ _ _ _ _ _ _ _ refl put-name.ensures.names_after (ap (λ (n : ℕ). args.u.names + n) put-name.ensures.value)
          put-name2.ensures.names_after;
      rows_after = rw (put-name.ensures.value, put-name2.ensures.value) at put-columns.ensures;
    }
