-- `index_row` meets its contract.
-- Assumes nothing.
use mathlib.Core.Path.{ap, ◌∙◌}
use native.Mathlib.Omega.{arith}
use lib.ListN.{length, length-set}
use Rattle.name_index.specs.IndexLaws.{put-fits, row_put}
use Rattle.name_index.proofs.index_row.Goals as goal

pub overflow_add-row : goal.overflow_add-row
overflow_add-row c = omega (arith, c.requires.row_in_bounds.1)

pub put-requires : goal.put-requires
put-requires c = (put-fits _ _ _ _ _ _ c.requires.indexed c.row_key-h.ensures, c.requires.row_in_bounds.0)

pub returns : goal.returns
returns c =
    let pre = c.requires in
    let row-key = c.row_key-h in
    let put = c.put in record {
      indexed_2 = row_put _ _ _ _ _ _ pre.indexed row-key.ensures pre.row_in_bounds.0 _ _ put.ensures.0 put.ensures.1;
      chain_len_unchanged = ap length put.ensures.1 ∙ simp length-set;
    }
