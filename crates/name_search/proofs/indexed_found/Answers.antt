-- `indexed_found` meets its contract: the search is over the rows of the name space, and those indexed end with it.
-- Assumes nothing.
use mathlib.Core.Path.{sym, ◌∙◌}
use Rattle.netlist.specs.Found.{found_in}
use Rattle.netlist.specs.FoundLaws.{space-within}
use Rattle.name_index.specs.IndexLaws.{indexed-part}
use Rattle.name_search.proofs.SpaceLaws.{space-named, found_none}
use Rattle.name_search.proofs.indexed_found.Goals as goal

pub returns-then-from-place : goal.returns-then-from-place
returns-then-from-place c = sym (found_none _ _ c.args.place _ _ (sym c.space_from-from.ensures ∙ c.if-from-place.true))

pub overflow_sub-place : goal.overflow_sub-place
overflow_sub-place c = rw c.space_from-from.ensures (space-within _ _ c.requires.bounds)

pub indexed_taken-requires : goal.indexed_taken-requires
indexed_taken-requires c =
    let pre = c.requires in
    let args = c.args in
    let space-from = c.space_from-from in record {
      indexed = indexed-part _ _ _ _ _ (rw space-from.ensures (space-within _ _ pre.bounds)) pre.indexed;
      named = rw (space-from.ensures, c.space_kinds.ensures) (space-named _ args.place args.kind);
    }

pub returns : goal.returns
unfolding found_in
returns c = rw (← c.space_from-from.ensures, ← c.space_kinds.ensures) c.indexed_taken.ensures
