-- Each branch is one of the codes.
-- Assumes nothing.
use borrow.Author.Tests.{ne_eqb}
use Rattle.rules.specs.Text.{step_tokens, word_token, spaced, behind, tight, token_text}
use Rattle.netlist.specs.Steps.{step_named}
use Rattle.step_text.specs.Steps.{step_words}
use Rattle.step_text.proofs.put_words.Goals as goal

pub shape_of-out-then-step-eq-ASSIGN_STEP : goal.shape_of-out-then-step-eq-ASSIGN_STEP
shape_of-out-then-step-eq-ASSIGN_STEP c = c.put_bytes.ensures.kept

pub returns-then-step-eq-ASSIGN_STEP : goal.returns-then-step-eq-ASSIGN_STEP
unfolding step_named step_words step_tokens word_token spaced behind tight token_text
returns-then-step-eq-ASSIGN_STEP c = rw c.if-step-eq-ASSIGN_STEP.true c.put_bytes.ensures

pub shape_of-out-then-step-eq-UPDATE_STEP : goal.shape_of-out-then-step-eq-UPDATE_STEP
shape_of-out-then-step-eq-UPDATE_STEP c = c.put_bytes-then-step-eq-UPDATE_STEP.ensures.kept

pub returns-then-step-eq-UPDATE_STEP : goal.returns-then-step-eq-UPDATE_STEP
unfolding step_named step_words step_tokens word_token spaced behind tight token_text
returns-then-step-eq-UPDATE_STEP c = rw c.if-step-eq-UPDATE_STEP.true c.put_bytes-then-step-eq-UPDATE_STEP.ensures

pub shape_of-out-then-step-eq-SWITCH_STEP : goal.shape_of-out-then-step-eq-SWITCH_STEP
shape_of-out-then-step-eq-SWITCH_STEP c = c.put_bytes-then-step-eq-SWITCH_STEP.ensures.kept

pub returns-then-step-eq-SWITCH_STEP : goal.returns-then-step-eq-SWITCH_STEP
unfolding step_named step_words step_tokens word_token spaced behind tight token_text
returns-then-step-eq-SWITCH_STEP c = rw c.if-step-eq-SWITCH_STEP.true c.put_bytes-then-step-eq-SWITCH_STEP.ensures

pub shape_of-out-then-step-eq-CASE_STEP : goal.shape_of-out-then-step-eq-CASE_STEP
shape_of-out-then-step-eq-CASE_STEP c = c.put_bytes-then-step-eq-CASE_STEP.ensures.kept

pub returns-then-step-eq-CASE_STEP : goal.returns-then-step-eq-CASE_STEP
unfolding step_named step_words step_tokens word_token spaced behind tight token_text
returns-then-step-eq-CASE_STEP c = rw c.if-step-eq-CASE_STEP.true c.put_bytes-then-step-eq-CASE_STEP.ensures

pub returns : goal.returns
returns c =
    let if1 = c.if-step-eq-ASSIGN_STEP in
    let if2 = c.if-step-eq-UPDATE_STEP in
    let if3 = c.if-step-eq-SWITCH_STEP in
    let if4 = c.if-step-eq-CASE_STEP in
    let put-event = c.put_event in
    put-event.ensures (ne_eqb _ _ if1.false) (ne_eqb _ _ if2.false) (ne_eqb _ _ if3.false) (ne_eqb _ _ if4.false)

pub shape_of-out : goal.shape_of-out
shape_of-out c = (returns c).kept
