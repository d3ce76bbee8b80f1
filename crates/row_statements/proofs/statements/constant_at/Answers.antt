-- By the kind of the constant.
-- Assumes nothing.
use native.Mathlib.Omega.{arith}
use Rattle.row_statements.proofs.CodeLaws.{tells-integer, integer-not, kind-not}
use Rattle.row_statements.proofs.statements.constant_at.Goals as goal

pub returns-then-kind-eq-VALUE_CONSTANT : goal.returns-then-kind-eq-VALUE_CONSTANT
returns-then-kind-eq-VALUE_CONSTANT c = rw c.if-kind-eq-VALUE_CONSTANT.true c.value_at.ensures

pub returns-then-kind-eq-STRING_CONSTANT : goal.returns-then-kind-eq-STRING_CONSTANT
returns-then-kind-eq-STRING_CONSTANT c = rw c.if-kind-eq-STRING_CONSTANT.true c.text_at.ensures

pub returns-then-kind-ne-INTEGER_CONSTANT : goal.returns-then-kind-ne-INTEGER_CONSTANT
returns-then-kind-ne-INTEGER_CONSTANT c = kind-not _ _ _ _ _ _ c.if-kind-eq-VALUE_CONSTANT.false c.if-kind-eq-STRING_CONSTANT.false c.if-kind-ne-INTEGER_CONSTANT.true

pub returns-then-b-ne0 : goal.returns-then-b-ne0
returns-then-b-ne0 c = rw c.if-kind-ne-INTEGER_CONSTANT.false (integer-not _ _ _ _ _ c.if-b-ne0.true)

pub returns : goal.returns
returns c = rw c.if-kind-ne-INTEGER_CONSTANT.false (tells-integer _ _ _ _ _ (omega arith) c.if-b-ne0.false)
