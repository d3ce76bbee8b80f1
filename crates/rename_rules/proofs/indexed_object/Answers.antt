-- A name that no memory, cell or process has, none of the module has.
-- Assumes nothing.
use mathlib.Core.Path.{sym, ◌∙◌}
use Rattle.rename_rules.proofs.IndexedLaws.{objects-named, object-free}
use Rattle.rename_rules.proofs.indexed_object.Goals as goal

pub indexed_taken-requires-clause-named : goal.indexed_taken-requires-clause-named
indexed_taken-requires-clause-named c = objects-named _ _ _

pub returns-else-indexed_taken : goal.returns-else-indexed_taken
returns-else-indexed_taken c = c.if-indexed_taken.false ∙ sym (object-free _ _ _ _ _ _ c.indexed_taken.ensures c.if-indexed_taken.false)
