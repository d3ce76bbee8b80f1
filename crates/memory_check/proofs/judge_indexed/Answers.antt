use mathlib.Core.Path.{sym, ◌∙◌}
use native.Mathlib.Omega.{arith}
use borrow.Author.Tests.{not-true, not-false}
use Rattle.netlist.specs.Lengths.{right_lengths}
use Rattle.memory_check.proofs.MemoryLaws.{names-short, index_kept, few-wires, other-sizes, no-statements, no-renames-there, other-room, rest-left, memory-holds}
use Rattle.memory_check.proofs.judge_indexed.Goals as goal

pub returns-then-not-right_tables : goal.returns-then-not-right_tables
unfolding right_lengths
returns-then-not-right_tables c = other-sizes _ (sym c.right_tables.ensures ∙ not-true _ c.if-not-right_tables.true-raw)

pub returns-in_err-behind : goal.returns-in_err-behind
returns-in_err-behind c = rw c.from_residual.ensures (no-statements _ _ c.replay.ensures.replays c.in_err-behind.was)

pub standing_renames-requires : goal.standing_renames-requires
standing_renames-requires c = record {
  names_len_bound = (
    names-short _ _ _ _ _ (sym c.right_tables.ensures ∙ not-false _ c.if-not-right_tables.false-raw),
    few-wires _ _ _ _ c.replay.ensures.replays c.in_ok-behind.was,
  );
  indexed = index_kept _ _ _ _ _ c.replay.ensures.index_left c.in_ok-behind.was;
}

pub returns-in_err-used : goal.returns-in_err-used
returns-in_err-used c = rw c.from_residual-in_err-used.ensures (no-renames-there _ _ c.replay.ensures.replays _ c.in_ok-behind.was _ c.standing_renames.ensures c.in_err-used.was)

pub returns-then-used-design : goal.returns-then-used-design
returns-then-used-design c = other-room _ _ c.replay.ensures.replays _ c.in_ok-behind.was _ c.standing_renames.ensures _ c.in_ok-used.was (λ e. omega arith)

pub returns-then-rest_is_zero : goal.returns-then-rest_is_zero
unfolding right_lengths
returns-then-rest_is_zero c =
    memory-holds _ _ c.replay.ensures.replays _ c.in_ok-behind.was _ c.standing_renames.ensures _ c.in_ok-used.was
    (omega arith) (sym c.right_tables.ensures ∙ not-false _ c.if-not-right_tables.false-raw)
    (sym c.rest_is_zero.ensures ∙ c.if-rest_is_zero.true)

pub returns : goal.returns
returns c = rest-left _ _ c.replay.ensures.replays _ c.in_ok-behind.was (sym c.rest_is_zero.ensures ∙ c.if-rest_is_zero.false)
