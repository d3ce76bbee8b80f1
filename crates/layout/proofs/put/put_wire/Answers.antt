use mathlib.Core.Path.{refl}
use Rattle.rules.specs.Statements.{code, holds, contents}
use Rattle.rules.specs.Layout.{padded, row, columns, statement_row}
use Rattle.layout.proofs.PutLaws.{name-put, wire-put}
use Rattle.netlist.specs.Used.{used_of}
use Rattle.layout.proofs.put.put_wire.Goals as goal

pub returns : goal.returns
unfolding statement_row columns code holds contents row padded
returns c =
    let args = c.args in
    let put-named = c.put_named-size in
    let last-module = c.last_module-module in
    let put-columns = c.put_columns in
    λ w h. (
      name-put _ _ _ _ _ refl put-named.ensures.names_after,
      wire-put (used_of args.u) _ w _ _ _ _ _ _ _ _ h put-named.ensures.value
          (rw last-module.ensures at put-columns.ensures),
      put-named.ensures.rows_after,
    )
