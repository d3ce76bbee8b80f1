-- What the keyword announces.
use native.Mathlib.Omega.{arith}
use Rattle.rules.specs.Shapes as shapes
use Rattle.line_forms.specs.Forms.{form_of, ended}
use Rattle.line_forms.specs.Processes.{process_kind_of}
use Rattle.line_forms.proofs.ProcessLaws.{form-process_kind, step_small, stepped, step_from, process_open}
use Rattle.line_forms.proofs.begun_line.Goals as goal

pub overflow_cast-result : goal.overflow_cast-result
overflow_cast-result c = omega (arith, step_small c.args.c c.requires.c_value (omega arith) (omega arith) (omega arith))

pub returns-in-4 : goal.returns-in-4
unfolding process_open
returns-in-4 c = form-process_kind _ _ _ c.map.ensures.cases _ (λ f. rw c.in-4.is (c.valued_line.ensures.0 f)) (c.valued_line.ensures.1 (omega arith))

pub returns-in-2 : goal.returns-in-2
unfolding process_open shapes.whole shapes.give ended form_of
returns-in-2 c = form-process_kind _ _ _ c.map-in-2.ensures.cases _ (λ f. rw c.in-2.is (c.finished.ensures.0 f)) (c.finished.ensures.1 tt)

pub returns-in-22 : goal.returns-in-22
unfolding process_open
returns-in-22 c = (λ f. rw c.in-22.is (c.sync_line.ensures.0 f), c.sync_line.ensures.1)

pub returns-in_default : goal.returns-in_default
unfolding process_kind_of
returns-in_default c = (λ f. stepped c.args.c c.requires.c_value (omega arith) (omega arith) (omega arith) f _, step_from c.args.c c.requires.c_value (omega arith) (omega arith) (omega arith) _ c.requires.word_is)
