-- `name_taken` meets its contract: the search by the rows' numbers is the search over their names.
-- Assumes nothing.
use Prim.Native.Nat.{◌+◌}
use mathlib.Core.Path.{◌≡◌, ◌∙◌, refl}
use mathlib.Core.Bool.{◌&&◌}
use native.Mathlib.Omega.{arith}
use Rattle.std.specs.List.{list_any, range_with_len}
use Rattle.std.proofs.Common.{rules}
use Rattle.std.proofs.lemmas.Iterator.{YieldsList-from_range}
use Rattle.std.proofs.lemmas.Iterator.Search.{any_from_yields_List}
use Rattle.rules.specs.Bytes.{same}
use Rattle.netlist.specs.Kinds.{is_kind}
use Rattle.netlist.specs.Rows.{kind_at, name_at}
use Rattle.netlist.proofs.SearchLaws.{taken-rows}
use Rattle.netlist.proofs.rows.name_taken.Goals as goal

pub returns : goal.returns
returns c =
    let args = c.args in
    let rows = args.rows.now in
    let count = args.count in
    let e :
    c.any.result
    ≡ list_any (λ k. is_kind args.kinds (kind_at rows (args.from + k)) && same args.name.now (name_at args.names.now rows (args.from + k))) (range_with_len 0 count) =
    any_from_yields_List _ _ _ _ c.any.ensures.ran (YieldsList-from_range 0 count count refl (omega arith)) (λ x b q h. search rules) in
    e ∙ taken-rows _ _ (is_kind args.kinds) _ _ count
