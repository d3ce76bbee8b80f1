-- By a rename, by a wire's own line, or by a memory, a cell or a process.
-- Assumes nothing.
use mathlib.Core.Path.{◌≡◌}
use native.Mathlib.Omega.{arith}
use Rattle.rename_rules.specs.Judged.{name_taken}
use Rattle.rename_rules.proofs.IndexedLaws.{renamed-taken}
use Rattle.rename_rules.proofs.indexed_is_taken.Goals as goal

pub returns-then-renamed_to-m : goal.returns-then-renamed_to-m
unfolding name_taken
returns-then-renamed_to-m c = rw (renamed-taken _ _ _ _ _ _ c.renamed_to.ensures c.if-renamed_to-m.true)

pub indexed_kept-requires-clause-renamed : goal.indexed_kept-requires-clause-renamed
indexed_kept-requires-clause-renamed c =
    let e : c.renamed_to.result ≡ c.args.m.wires = omega (arith, c.renamed_to.ensures.below, c.if-renamed_to-m.false) in
    rw e at c.renamed_to.ensures

pub returns-then-indexed_kept : goal.returns-then-indexed_kept
unfolding name_taken
returns-then-indexed_kept c = rw (← c.indexed_kept.ensures, c.if-indexed_kept.true)

pub returns-else-indexed_kept : goal.returns-else-indexed_kept
unfolding name_taken
returns-else-indexed_kept c = rw (← c.indexed_kept.ensures, c.if-indexed_kept.false) c.indexed_object.ensures
