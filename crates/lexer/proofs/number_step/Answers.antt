-- A run of digits: the width of a value, or an integer.
use native.Mathlib.Omega.{arith}
use Rattle.lexer.proofs.Steps.{steps-by, ends-past, number-end, number-value, number-integer}
use Rattle.lexer.proofs.number_step.Goals as goal

pub separate-requires-clause-p_lt_e : goal.separate-requires-clause-p_lt_e
separate-requires-clause-p_lt_e c = let b = ends-past _ _ 9 11 9 11 _ c.requires.starts (omega arith) (omega arith) c.run_end-e.ensures in (b.0, b.1, (omega (arith, b.0), b.1))

pub returns-then-s-e : goal.returns-then-s-e
returns-then-s-e c = steps-by _ _ _ _ _ (number-end _ _ _ c.requires.starts c.run_end-e.ensures c.if-s-e.true) c.separate.ensures

pub value_step-requires-clause-p_le_q : goal.value_step-requires-clause-p_le_q
value_step-requires-clause-p_le_q c = let b = ends-past _ _ 9 11 9 11 _ c.requires.starts (omega arith) (omega arith) c.run_end-e.ensures in (omega (arith, b.0), c.if-s-e.false)

pub returns-then-s-e-eq39 : goal.returns-then-s-e-eq39
returns-then-s-e-eq39 c = steps-by _ _ _ _ _ (number-value _ _ _ c.requires.starts c.run_end-e.ensures c.if-s-e.false c.if-s-e-eq39.true) c.value_step.ensures

pub separate-requires-2-clause-p_lt_e : goal.separate-requires-2-clause-p_lt_e
separate-requires-2-clause-p_lt_e c = let b = ends-past _ _ 9 11 9 11 _ c.requires.starts (omega arith) (omega arith) c.run_end-e.ensures in (b.0, b.1, (omega (arith, b.0), b.1))

pub returns : goal.returns
returns c = steps-by _ _ _ _ _ (number-integer _ _ _ c.requires.starts c.run_end-e.ensures c.if-s-e.false c.if-s-e-eq39.false) c.separate-2.ensures
