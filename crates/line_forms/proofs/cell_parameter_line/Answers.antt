-- The sort by its word, if one stands there.
use native.Mathlib.Omega.{arith}
use mathlib.Core.Path.{refl}
use borrow.Author.Tests.{ne_eqb}
use Rattle.rules.specs.Shapes as shapes
use Rattle.numbers.specs.Kinds.{sort_of}
use Rattle.line_forms.proofs.LineLaws.{word_below, sort-word, words_open}
use Rattle.line_forms.proofs.cell_parameter_line.Goals as goal

pub overflow_add-i : goal.overflow_add-i
unfolding words_open
overflow_add-i c = omega (arith, word_below "signed" _ _ _ c.word_at.ensures refl c.in-13.is)

pub overflow_add-i-in-17 : goal.overflow_add-i-in-17
unfolding words_open
overflow_add-i-in-17 c = omega (arith, word_below "real" _ _ _ c.word_at.ensures refl c.in-17.is)

pub returns-in-13 : goal.returns-in-13
unfolding shapes.of₃ shapes.after sort_of
returns-in-13 c = (λ f. rw (sort-word f _ _ _ c.word_at.ensures, c.in-13.is) (c.valued_line.ensures.0 f), c.valued_line.ensures.1 (omega arith))

pub returns-in-17 : goal.returns-in-17
unfolding shapes.of₃ shapes.after sort_of
returns-in-17 c = (λ f. rw (sort-word f _ _ _ c.word_at.ensures, c.in-17.is) (c.valued_line-in-17.ensures.0 f), c.valued_line-in-17.ensures.1 (omega arith))

pub returns-in_default : goal.returns-in_default
unfolding shapes.of₃ shapes.after sort_of
returns-in_default c = (λ f. rw (sort-word f _ _ _ c.word_at.ensures, ne_eqb c.word_at.result 13 (omega arith), ne_eqb c.word_at.result 17 (omega arith)) (c.valued_line-in_default.ensures.0 f), c.valued_line-in_default.ensures.1 (omega arith))
