-- Each branch is one of the rules' cases.
use borrow.Author.Tests.{eq-eqb, ne_eqb}
use Rattle.rules.specs.Text.{digit_byte}
use Rattle.numbers.specs.Kinds.{digit_of}
use Rattle.constant_text.proofs.digit_byte.Goals as goal

pub returns-then-code-eq0 : goal.returns-then-code-eq0
unfolding digit_of digit_byte
returns-then-code-eq0 c = rw (eq-eqb _ _ c.if-code-eq0.true)

pub returns-then-code-eq1 : goal.returns-then-code-eq1
unfolding digit_of digit_byte
returns-then-code-eq1 c = rw (ne_eqb _ _ c.if-code-eq0.false, eq-eqb _ _ c.if-code-eq1.true)

pub returns-then-code-eq-DIGIT_X : goal.returns-then-code-eq-DIGIT_X
unfolding digit_of digit_byte
returns-then-code-eq-DIGIT_X c = rw (ne_eqb _ _ c.if-code-eq0.false, ne_eqb _ _ c.if-code-eq1.false, eq-eqb _ _ c.if-code-eq-DIGIT_X.true)

pub returns-then-code-eq-DIGIT_Z : goal.returns-then-code-eq-DIGIT_Z
unfolding digit_of digit_byte
returns-then-code-eq-DIGIT_Z c = rw (ne_eqb _ _ c.if-code-eq0.false, ne_eqb _ _ c.if-code-eq1.false, ne_eqb _ _ c.if-code-eq-DIGIT_X.false, eq-eqb _ _ c.if-code-eq-DIGIT_Z.true)

pub returns-then-code-eq-DIGIT_M : goal.returns-then-code-eq-DIGIT_M
unfolding digit_of digit_byte
returns-then-code-eq-DIGIT_M c = rw (ne_eqb _ _ c.if-code-eq0.false, ne_eqb _ _ c.if-code-eq1.false, ne_eqb _ _ c.if-code-eq-DIGIT_X.false, ne_eqb _ _ c.if-code-eq-DIGIT_Z.false, eq-eqb _ _ c.if-code-eq-DIGIT_M.true)

pub returns : goal.returns
unfolding digit_of digit_byte
returns c = rw (ne_eqb _ _ c.if-code-eq0.false, ne_eqb _ _ c.if-code-eq1.false, ne_eqb _ _ c.if-code-eq-DIGIT_X.false, ne_eqb _ _ c.if-code-eq-DIGIT_Z.false, ne_eqb _ _ c.if-code-eq-DIGIT_M.false)
