-- The loop's invariant: what the values from i on tell is what those from `at` on tell.
use mathlib.Core.Path.{sym, ◌∙◌}
use mathlib.Core.Bool.{true, false}
use native.Mathlib.Omega.{arith}
use Rattle.zeros.proofs.BlockLaws.{all_none, by_block}
use Rattle.zeros.proofs.all_from.Goals as goal

pub returns-then-n-at : goal.returns-then-n-at
returns-then-n-at g c = sym (all_none _ c.args.table.now c.args.at (omega arith))

pub returns-then-not-all_same : goal.returns-then-not-all_same
returns-then-not-all_same g c = sym (by_block _ c.args.table.now c.loop-i.i _ false (omega arith) c.if-not-all_same.ensures) ∙ c.loop-i.invariant.same

pub loop-i-preserved : goal.loop-i-preserved
loop-i-preserved g c =
    record {
      within = omega arith;
      same = sym (by_block _ c.args.table.now c.loop-i.i _ true (omega arith) c.if-not-all_same.ensures) ∙ c.loop-i.invariant.same;
    }
