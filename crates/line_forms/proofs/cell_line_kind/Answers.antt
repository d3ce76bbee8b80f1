-- The form that the first word announces.
use native.Mathlib.Omega.{arith}
use borrow.Author.Tests.{ne_eqb}
use Rattle.rules.specs.Shapes as shapes
use Rattle.line_forms.specs.Forms.{form_of, cell_kind_of, ended}
use Rattle.line_forms.proofs.LineLaws.{shape-word, form-cell_kind, words_open}
use Rattle.line_forms.proofs.cell_line_kind.Goals as goal

pub returns-in-3 : goal.returns-in-3
unfolding words_open
returns-in-3 c =
    let k = form-cell_kind _ _ _ c.map.ensures.cases _ c.cell_parameter_line.ensures.0 c.cell_parameter_line.ensures.1 in
    (λ f first attributed. rw (shape-word _ f _ _ c.word_at.ensures, c.in-3.is) (k.0 f), k.1)

pub returns-in-5 : goal.returns-in-5
unfolding words_open cell_kind_of
returns-in-5 c = (λ f first attributed. rw (shape-word _ f _ _ c.word_at.ensures, c.in-5.is), tt)

pub returns-in-2 : goal.returns-in-2
unfolding words_open shapes.whole shapes.give ended form_of
returns-in-2 c =
    let k = form-cell_kind _ _ _ c.map-in-2.ensures.cases _ c.finished.ensures.0 (c.finished.ensures.1 tt) in
    (λ f first attributed. rw (shape-word _ f _ _ c.word_at.ensures, c.in-2.is) (k.0 f), k.1)

pub returns-in_default : goal.returns-in_default
unfolding words_open shapes.whole
returns-in_default c = (λ f first attributed. rw (shape-word _ f _ _ c.word_at.ensures, ne_eqb c.word_at.result 3 (omega arith), ne_eqb c.word_at.result 5 (omega arith), ne_eqb c.word_at.result 2 (omega arith)), tt)
