-- What the callees ensure.
-- Assumes nothing.
use mathlib.Core.Path.{ap, ◌∙◌}
use Rattle.rules.specs.Tokens.{Name}
use Rattle.rules.specs.Sorted.{before}
use Rattle.name_order.proofs.wire_before.Goals as goal

pub returns : goal.returns
returns c =
    let args = c.args in
    let its-name = c.name_in in
    c.comes_before.ensures ∙ ap (λ (n : Name). before n args.name.now) its-name.ensures
