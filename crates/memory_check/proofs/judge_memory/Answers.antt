-- The index is of no row yet.
-- Assumes nothing.
use mathlib.Core.Path.{refl}
use native.Mathlib.Omega.{arith}
use Rattle.name_index.specs.IndexLaws.{indexed-none}
use Rattle.memory_check.proofs.judge_memory.Goals as goal

pub judge_indexed-requires : goal.judge_indexed-requires
judge_indexed-requires c = record {
  indexed = indexed-none _ _;
  row_room_in_bounds = omega arith;
}
