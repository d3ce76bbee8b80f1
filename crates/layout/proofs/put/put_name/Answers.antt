use mathlib.Core.Path.{ap, ◌∙◌}
use native.Mathlib.Omega.{arith}
use lib.ListN.{length}
use Rattle.tables.specs.Store.{store}
use Rattle.line_forms.specs.Forms.{name_in}
use Rattle.layout.proofs.put.put_name.Goals as goal

pub store-requires : goal.store-requires
unfolding name_in
store-requires c = omega (arith, c.requires, ap length c.part-bytes.ensures)

pub overflow_cast-result : goal.overflow_cast-result
unfolding name_in
overflow_cast-result c = omega (arith, c.requires, ap length c.part-bytes.ensures)

pub returns : goal.returns
unfolding name_in
returns c =
    let args = c.args in
    let part = c.part-bytes in
    let stored = c.store in
    record {
      value = ap length part.ensures;
      names_after = stored.ensures ∙ ap (store args.names.now args.at) part.ensures;
    }
