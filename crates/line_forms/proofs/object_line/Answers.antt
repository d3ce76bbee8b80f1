-- The form that the first word announces.
use native.Mathlib.Omega.{arith}
use Rattle.line_forms.proofs.LineLaws.{form-kind, words_open}
use Rattle.line_forms.proofs.object_line.Goals as goal

pub returns-in-4 : goal.returns-in-4
unfolding words_open
returns-in-4 c = form-kind _ _ _ c.map.ensures.cases _ (λ f. rw c.in-4.is (c.valued_line.ensures.0 f)) (c.valued_line.ensures.1 (omega arith))

pub returns-in-16 : goal.returns-in-16
unfolding words_open
returns-in-16 c = form-kind _ _ _ c.map-in-16.ensures.cases _ (λ f. rw c.in-16.is (c.cell_line.ensures.0 f)) c.cell_line.ensures.1

pub returns-in-18 : goal.returns-in-18
unfolding words_open
returns-in-18 c = form-kind _ _ _ c.map-in-18.ensures.cases _ (λ f. rw c.in-18.is (c.named_line.ensures.0 f)) c.named_line.ensures.1
