-- The digits behind the quote mark.
use native.Mathlib.Omega.{arith}
use Rattle.lexer.proofs.Steps.{steps-by, ends, value-token}
use Rattle.lexer.proofs.value_step.Goals as goal

pub separate-requires-clause-p_lt_e : goal.separate-requires-clause-p_lt_e
separate-requires-clause-p_lt_e c = let b = ends _ _ _ _ _ c.run_end-e.ensures (omega (arith, c.requires.p_le_q.1)) in (omega (arith, b.0, c.requires.p_le_q.0), b.1, (c.requires.p_le_q.0, omega (arith, b.0), b.1))

pub returns : goal.returns
returns c = steps-by _ _ _ _ _ (value-token _ c.args.p _ c.args.q c.run_end-e.ensures) c.separate.ensures
