-- Each branch is one of the kinds.
-- Assumes nothing.
use borrow.Author.Tests.{ne_eqb}
use Rattle.rules.specs.Statements.{translate}
use Rattle.rules.specs.Text.{written, word_token, shape_tokens, token_text, behind, spaced}
use Rattle.netlist.specs.Statements.{statement_by}
use Rattle.text.specs.Written.{written_none}
use Rattle.line_text.specs.Lines.{body_text}
use Rattle.line_text.proofs.put_plain.Goals as goal

pub shape_of-out-then-kind-eq-AUTOIDX_KIND : goal.shape_of-out-then-kind-eq-AUTOIDX_KIND
shape_of-out-then-kind-eq-AUTOIDX_KIND c = c.put_autoidx.ensures.kept

pub returns-then-kind-eq-AUTOIDX_KIND : goal.returns-then-kind-eq-AUTOIDX_KIND
unfolding statement_by body_text written translate
returns-then-kind-eq-AUTOIDX_KIND c = λ wires ws h k l z. rw c.if-kind-eq-AUTOIDX_KIND.true c.put_autoidx.ensures

pub shape_of-out-then-kind-eq-ATTRIBUTE_KIND : goal.shape_of-out-then-kind-eq-ATTRIBUTE_KIND
shape_of-out-then-kind-eq-ATTRIBUTE_KIND c = c.put_attribute.ensures.kept

pub returns-then-kind-eq-ATTRIBUTE_KIND : goal.returns-then-kind-eq-ATTRIBUTE_KIND
unfolding statement_by body_text written translate
returns-then-kind-eq-ATTRIBUTE_KIND c = λ wires ws h k l z. rw c.if-kind-eq-ATTRIBUTE_KIND.true c.put_attribute.ensures

pub shape_of-out-then-kind-eq-MODULE_KIND : goal.shape_of-out-then-kind-eq-MODULE_KIND
shape_of-out-then-kind-eq-MODULE_KIND c = c.put_named.ensures.kept

pub returns-then-kind-eq-MODULE_KIND : goal.returns-then-kind-eq-MODULE_KIND
unfolding statement_by body_text written translate shape_tokens word_token
returns-then-kind-eq-MODULE_KIND c = λ wires ws h k l z. rw c.if-kind-eq-MODULE_KIND.true c.put_named.ensures

pub shape_of-out-then-kind-eq-PARAMETER_KIND : goal.shape_of-out-then-kind-eq-PARAMETER_KIND
shape_of-out-then-kind-eq-PARAMETER_KIND c = c.put_parameter.ensures.kept

pub returns-then-kind-eq-PARAMETER_KIND : goal.returns-then-kind-eq-PARAMETER_KIND
unfolding statement_by body_text written translate
returns-then-kind-eq-PARAMETER_KIND c = λ wires ws h k l z. rw c.if-kind-eq-PARAMETER_KIND.true c.put_parameter.ensures

pub shape_of-out-then-kind-eq-MEMORY_KIND : goal.shape_of-out-then-kind-eq-MEMORY_KIND
shape_of-out-then-kind-eq-MEMORY_KIND c = c.put_memory.ensures.kept

pub returns-then-kind-eq-MEMORY_KIND : goal.returns-then-kind-eq-MEMORY_KIND
unfolding statement_by body_text written translate
returns-then-kind-eq-MEMORY_KIND c = λ wires ws h k l z. rw c.if-kind-eq-MEMORY_KIND.true c.put_memory.ensures

pub shape_of-out-then-kind-eq-CELL_KIND : goal.shape_of-out-then-kind-eq-CELL_KIND
shape_of-out-then-kind-eq-CELL_KIND c = c.put_cell.ensures.kept

pub returns-then-kind-eq-CELL_KIND : goal.returns-then-kind-eq-CELL_KIND
unfolding statement_by body_text written translate
returns-then-kind-eq-CELL_KIND c = λ wires ws h k l z. rw c.if-kind-eq-CELL_KIND.true c.put_cell.ensures

pub shape_of-out-then-kind-eq-CELL_PARAMETER_KIND : goal.shape_of-out-then-kind-eq-CELL_PARAMETER_KIND
shape_of-out-then-kind-eq-CELL_PARAMETER_KIND c = c.put_cell_parameter.ensures.kept

pub returns-then-kind-eq-CELL_PARAMETER_KIND : goal.returns-then-kind-eq-CELL_PARAMETER_KIND
unfolding statement_by body_text written translate
returns-then-kind-eq-CELL_PARAMETER_KIND c = λ wires ws h k l z. rw c.if-kind-eq-CELL_PARAMETER_KIND.true c.put_cell_parameter.ensures

pub shape_of-out-then-kind-eq-PROCESS_KIND : goal.shape_of-out-then-kind-eq-PROCESS_KIND
shape_of-out-then-kind-eq-PROCESS_KIND c = c.put_named-then-kind-eq-PROCESS_KIND.ensures.kept

pub returns-then-kind-eq-PROCESS_KIND : goal.returns-then-kind-eq-PROCESS_KIND
unfolding statement_by body_text written translate shape_tokens word_token
returns-then-kind-eq-PROCESS_KIND c = λ wires ws h k l z. rw c.if-kind-eq-PROCESS_KIND.true c.put_named-then-kind-eq-PROCESS_KIND.ensures

pub shape_of-out-then-kind-eq-END_KIND : goal.shape_of-out-then-kind-eq-END_KIND
shape_of-out-then-kind-eq-END_KIND c = c.put_bytes.ensures.kept

pub returns-then-kind-eq-END_KIND : goal.returns-then-kind-eq-END_KIND
unfolding statement_by body_text written translate shape_tokens word_token spaced behind token_text
returns-then-kind-eq-END_KIND c = λ wires ws h k l z. rw c.if-kind-eq-END_KIND.true c.put_bytes.ensures

pub returns : goal.returns
unfolding statement_by body_text written translate
returns c =
    let args = c.args in
    let pre = c.requires in
    let if1 = c.if-kind-eq-AUTOIDX_KIND in
    let if2 = c.if-kind-eq-ATTRIBUTE_KIND in
    let if3 = c.if-kind-eq-MODULE_KIND in
    let if4 = c.if-kind-eq-PARAMETER_KIND in
    let if5 = c.if-kind-eq-MEMORY_KIND in
    let if6 = c.if-kind-eq-CELL_KIND in
    let if7 = c.if-kind-eq-CELL_PARAMETER_KIND in
    let if8 = c.if-kind-eq-PROCESS_KIND in
    λ wires ws h k l z. rw (
      ne_eqb _ _ if1.false,
      ne_eqb _ _ if2.false,
      ne_eqb _ _ if3.false,
      ne_eqb _ _ if4.false,
      ne_eqb _ _ if5.false,
      ne_eqb _ _ if6.false,
      ne_eqb _ _ if7.false,
      ne_eqb _ _ if8.false,
      ne_eqb _ _ c.if-kind-eq-END_KIND.false,
      h,
      k,
      l,
      z,
    ) (written_none args.at args.out.now pre.0)
