-- No rename, or all of them with an index of the wires.
-- Assumes nothing.
use mathlib.Core.Path.{◌≡◌}
use native.Mathlib.Omega.{arith}
use Rattle.name_index.specs.IndexLaws.{indexed-none}
use Rattle.memory_check.proofs.RenameTurns.{renames-start}
use Rattle.memory_check.proofs.standing_renames.Goals as goal

pub returns-then-renames-eq0 : goal.returns-then-renames-eq0
returns-then-renames-eq0 c = let e : c.args.renames ≡ 0 = omega arith in rw e (renames-start _ _ _ _ _)

pub index_wires-requires : goal.index_wires-requires
index_wires-requires c = record {
  indexed = indexed-none _ _;
  count_in_bounds = omega (arith, c.requires.names_len_bound);
}
