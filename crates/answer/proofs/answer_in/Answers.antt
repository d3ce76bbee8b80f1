-- The refusal of the check, or what is printed of the memory that the fill leaves.
-- Assumes nothing.
use mathlib.Core.Path.{ap, ◌∙◌}
use native.Mathlib.Omega.{arith}
use Rattle.netlist.specs.Results.{lent}
use Rattle.answer.specs.Printed.{putting}
use Rattle.answer.proofs.AnswerLaws.{refusal-put, refusal-fits, answer-refused, answer-held}
use Rattle.answer.proofs.answer_in.Goals as goal

pub returns-then-found-ne0 : goal.returns-then-found-ne0
returns-then-found-ne0 c =
    let args = c.args in
    let check = c.check-found in
    let if1 = c.if-found-ne0 in
    let put-refusal = c.put_refusal in record {
      out_after = refusal-put check.result.number check.result.place (omega arith) (omega arith) put-refusal.ensures
          ∙ ap (putting args.out.now) (answer-refused args.f.now _ _ check.ensures if1.true);
      upper_bound = refusal-fits check.result.number check.result.place (omega arith) (omega arith) put-refusal.ensures;
    }

pub returns : goal.returns
returns c =
    let put-held = c.put_held in
    let fill = c.fill-left in
    let if1 = c.if-found-ne0 in
    let check = c.check-found in
    let args = c.args in
    let pre = c.requires in record {
      out_after = answer-held args.f.now _ _ check.ensures if1.false
          (lent args.names.now args.strings.now args.bits.now args.wires.now args.rows.now 0 0) pre.rows_value _
          fill.ensures args.out.now pre.out_len _ _ put-held.ensures.printed_as;
      upper_bound = put-held.ensures.upper_bound;
    }
