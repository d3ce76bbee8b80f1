-- The form that the first word announces.
use native.Mathlib.Omega.{arith}
use borrow.Author.Tests.{ne_eqb}
use Rattle.rules.specs.Shapes as shapes
use Rattle.line_forms.proofs.LineLaws.{shape-word, top-word, no-form, words_open}
use Rattle.line_forms.proofs.top_line.Goals as goal

pub returns-in-0 : goal.returns-in-0
unfolding words_open
returns-in-0 c = (λ f attributed. rw (shape-word _ f _ _ c.word_at.ensures, c.in-0.is, c.if-first.true) (c.autoidx_line.ensures.0 f), c.autoidx_line.ensures.1)

pub returns-in-4 : goal.returns-in-4
unfolding words_open
returns-in-4 c = (λ f attributed. rw (shape-word _ f _ _ c.word_at.ensures, top-word _ _ c.word_at.result _ (omega arith), c.in-4.is) (c.valued_line.ensures.0 f), c.valued_line.ensures.1 (omega arith))

pub returns-in-1 : goal.returns-in-1
unfolding words_open
returns-in-1 c = (λ f attributed. rw (shape-word _ f _ _ c.word_at.ensures, top-word _ _ c.word_at.result _ (omega arith), c.in-1.is) (c.named_line.ensures.0 f), c.named_line.ensures.1)

pub returns-in_default : goal.returns-in_default
unfolding words_open shapes.whole
returns-in_default c = (λ f attributed. rw (shape-word _ f _ _ c.word_at.ensures, c.in-0.is, c.if-first.false), tt)

pub returns-in_default-2 : goal.returns-in_default-2
unfolding words_open
returns-in_default-2 c = (λ f attributed. rw (shape-word _ f _ _ c.word_at.ensures, top-word _ _ c.word_at.result _ (omega arith), ne_eqb c.word_at.result 4 (omega arith), ne_eqb c.word_at.result 1 (omega arith)) no-form, tt)
