-- A name is taken just where its wire is found.
-- Assumes nothing.
use mathlib.Core.Path.{sym, ◌∙◌}
use Rattle.rename_rules.proofs.SearchLaws.{taken-found}
use Rattle.rename_rules.proofs.wire_name_taken.Goals as goal

pub returns : goal.returns
returns c =
    c.is_some.ensures
    ∙ sym (taken-found c.args.design.now.names.now c.args.design.now.wires.now c.args.design.now.rows.now c.args.m c.args.name.now _ c.find_named.ensures)
