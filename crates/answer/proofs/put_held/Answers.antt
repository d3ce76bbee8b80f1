-- The text as it is written, or the refusal's.
-- Assumes nothing.
use native.Mathlib.Omega.{arith}
use Rattle.netlist.specs.Results.{lent}
use Rattle.answer.proofs.AnswerLaws.{refusal-put, refusal-fits, held-refused, held-written, written-fits}
use Rattle.answer.proofs.put_held.Goals as goal

pub returns-then-written-ne0 : goal.returns-then-written-ne0
returns-then-written-ne0 c =
    let args = c.args in
    let write = c.write-written in
    let if1 = c.if-written-ne0 in
    let put-refusal = c.put_refusal in record {
      printed_as = held-refused
          (lent args.design.now.names.now args.design.now.strings.now args.design.now.bits.now args.design.now.wires.now args.design.now.rows.now args.design.now.renames args.design.now.room)
          args.out.now _ write.result.number write.result.length if1.true _ _
          (refusal-put write.result.number 0 (omega arith) (omega arith) put-refusal.ensures) write.ensures;
      upper_bound = refusal-fits write.result.number 0 (omega arith) (omega arith) put-refusal.ensures;
    }

pub returns : goal.returns
returns c =
    let args = c.args in
    let write = c.write-written in record {
      printed_as = held-written
          (lent args.design.now.names.now args.design.now.strings.now args.design.now.bits.now args.design.now.wires.now args.design.now.rows.now args.design.now.renames args.design.now.room)
          args.out.now _ write.result.number write.result.length c.if-written-ne0.false write.ensures;
      upper_bound = written-fits
          (lent args.design.now.names.now args.design.now.strings.now args.design.now.bits.now args.design.now.wires.now args.design.now.rows.now args.design.now.renames args.design.now.room)
          args.out.now _ write.result.number write.result.length write.ensures;
    }
