-- The tables have their lengths.
-- Assumes nothing.
use native.Mathlib.Omega.{arith}
use Rattle.answer.proofs.AnswerLaws.{right-lengths}
use Rattle.answer.proofs.answer.Goals as goal

pub answer_in-requires : goal.answer_in-requires
answer_in-requires c = record {
  rows_value = right-lengths _ (omega arith) (omega arith) (omega arith) (omega arith) (omega arith);
  out_len = omega arith;
}
