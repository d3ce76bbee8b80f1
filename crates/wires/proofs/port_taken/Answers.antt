-- `port_taken` meets its contract: the search by the rows' numbers is the search over their wires.
-- Assumes nothing.
use Prim.Native.Nat.{◌+◌}
use mathlib.Core.Path.{◌≡◌, ◌∙◌, refl}
use native.Mathlib.Omega.{arith}
use Rattle.std.specs.List.{list_any, range_with_len}
use Rattle.std.proofs.Common.{rules}
use Rattle.std.proofs.lemmas.Iterator.{YieldsList-from_range}
use Rattle.std.proofs.lemmas.Iterator.Search.{any_from_yields_List}
use Rattle.wires.specs.Rows.{wire_of, has_port}
use Rattle.wires.proofs.SearchLaws.{taken-rows}
use Rattle.wires.proofs.port_taken.Goals as goal

pub returns : goal.returns
returns c names =
    let args = c.args in
    let count = args.count in
    let e : c.any.result ≡ list_any (λ k. has_port args.port (wire_of args.wires.now (args.first + k))) (range_with_len 0 count) =
    any_from_yields_List _ _ _ _ c.any.ensures.ran (YieldsList-from_range 0 count count refl (omega arith)) (λ x b q h. search rules) in
    e ∙ taken-rows names _ _ _ count
