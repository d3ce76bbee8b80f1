-- Each branch is one of the codes.
-- Assumes nothing.
use borrow.Author.Tests.{ne_eqb}
use Rattle.rules.specs.Text.{step_tokens, word_token, spaced, behind, tight, token_text}
use Rattle.netlist.specs.Steps.{step_named}
use Rattle.text.specs.Written.{written_none}
use Rattle.step_text.specs.Steps.{step_words}
use Rattle.step_text.proofs.put_event.Goals as goal

pub shape_of-out-then-step-eq-LOW_STEP : goal.shape_of-out-then-step-eq-LOW_STEP
shape_of-out-then-step-eq-LOW_STEP c = c.put_bytes.ensures.kept

pub returns-then-step-eq-LOW_STEP : goal.returns-then-step-eq-LOW_STEP
unfolding step_named step_words step_tokens word_token spaced behind tight token_text
returns-then-step-eq-LOW_STEP c = λ e f g h. rw c.if-step-eq-LOW_STEP.true c.put_bytes.ensures

pub shape_of-out-then-step-eq-HIGH_STEP : goal.shape_of-out-then-step-eq-HIGH_STEP
shape_of-out-then-step-eq-HIGH_STEP c = c.put_bytes-then-step-eq-HIGH_STEP.ensures.kept

pub returns-then-step-eq-HIGH_STEP : goal.returns-then-step-eq-HIGH_STEP
unfolding step_named step_words step_tokens word_token spaced behind tight token_text
returns-then-step-eq-HIGH_STEP c = λ e f g h. rw c.if-step-eq-HIGH_STEP.true c.put_bytes-then-step-eq-HIGH_STEP.ensures

pub shape_of-out-then-step-eq-POSEDGE_STEP : goal.shape_of-out-then-step-eq-POSEDGE_STEP
shape_of-out-then-step-eq-POSEDGE_STEP c = c.put_bytes-then-step-eq-POSEDGE_STEP.ensures.kept

pub returns-then-step-eq-POSEDGE_STEP : goal.returns-then-step-eq-POSEDGE_STEP
unfolding step_named step_words step_tokens word_token spaced behind tight token_text
returns-then-step-eq-POSEDGE_STEP c = λ e f g h. rw c.if-step-eq-POSEDGE_STEP.true c.put_bytes-then-step-eq-POSEDGE_STEP.ensures

pub shape_of-out-then-step-eq-NEGEDGE_STEP : goal.shape_of-out-then-step-eq-NEGEDGE_STEP
shape_of-out-then-step-eq-NEGEDGE_STEP c = c.put_bytes-then-step-eq-NEGEDGE_STEP.ensures.kept

pub returns-then-step-eq-NEGEDGE_STEP : goal.returns-then-step-eq-NEGEDGE_STEP
unfolding step_named step_words step_tokens word_token spaced behind tight token_text
returns-then-step-eq-NEGEDGE_STEP c = λ e f g h. rw c.if-step-eq-NEGEDGE_STEP.true c.put_bytes-then-step-eq-NEGEDGE_STEP.ensures

pub shape_of-out-then-step-eq-EDGE_STEP : goal.shape_of-out-then-step-eq-EDGE_STEP
shape_of-out-then-step-eq-EDGE_STEP c = c.put_bytes-then-step-eq-EDGE_STEP.ensures.kept

pub returns-then-step-eq-EDGE_STEP : goal.returns-then-step-eq-EDGE_STEP
unfolding step_named step_words step_tokens word_token spaced behind tight token_text
returns-then-step-eq-EDGE_STEP c = λ e f g h. rw c.if-step-eq-EDGE_STEP.true c.put_bytes-then-step-eq-EDGE_STEP.ensures

pub shape_of-out-then-step-eq-GLOBAL_STEP : goal.shape_of-out-then-step-eq-GLOBAL_STEP
shape_of-out-then-step-eq-GLOBAL_STEP c = c.put_bytes-then-step-eq-GLOBAL_STEP.ensures.kept

pub returns-then-step-eq-GLOBAL_STEP : goal.returns-then-step-eq-GLOBAL_STEP
unfolding step_named step_words step_tokens word_token spaced behind tight token_text
returns-then-step-eq-GLOBAL_STEP c = λ e f g h. rw c.if-step-eq-GLOBAL_STEP.true c.put_bytes-then-step-eq-GLOBAL_STEP.ensures

pub shape_of-out-then-step-eq-INIT_STEP : goal.shape_of-out-then-step-eq-INIT_STEP
shape_of-out-then-step-eq-INIT_STEP c = c.put_bytes-then-step-eq-INIT_STEP.ensures.kept

pub returns-then-step-eq-INIT_STEP : goal.returns-then-step-eq-INIT_STEP
unfolding step_named step_words step_tokens word_token spaced behind tight token_text
returns-then-step-eq-INIT_STEP c = λ e f g h. rw c.if-step-eq-INIT_STEP.true c.put_bytes-then-step-eq-INIT_STEP.ensures

pub shape_of-out-then-step-eq-ALWAYS_STEP : goal.shape_of-out-then-step-eq-ALWAYS_STEP
shape_of-out-then-step-eq-ALWAYS_STEP c = c.put_bytes-then-step-eq-ALWAYS_STEP.ensures.kept

pub returns-then-step-eq-ALWAYS_STEP : goal.returns-then-step-eq-ALWAYS_STEP
unfolding step_named step_words step_tokens word_token spaced behind tight token_text
returns-then-step-eq-ALWAYS_STEP c = λ e f g h. rw c.if-step-eq-ALWAYS_STEP.true c.put_bytes-then-step-eq-ALWAYS_STEP.ensures

pub returns : goal.returns
unfolding step_named step_words
returns c =
    let args = c.args in
    let pre = c.requires in
    let if1 = c.if-step-eq-LOW_STEP in
    let if2 = c.if-step-eq-HIGH_STEP in
    let if3 = c.if-step-eq-POSEDGE_STEP in
    let if4 = c.if-step-eq-NEGEDGE_STEP in
    let if5 = c.if-step-eq-EDGE_STEP in
    let if6 = c.if-step-eq-GLOBAL_STEP in
    let if7 = c.if-step-eq-INIT_STEP in
    λ e f g h. rw (
      e,
      f,
      g,
      h,
      ne_eqb _ _ if1.false,
      ne_eqb _ _ if2.false,
      ne_eqb _ _ if3.false,
      ne_eqb _ _ if4.false,
      ne_eqb _ _ if5.false,
      ne_eqb _ _ if6.false,
      ne_eqb _ _ if7.false,
      ne_eqb _ _ c.if-step-eq-ALWAYS_STEP.false,
    ) (written_none args.at args.out.now pre)
