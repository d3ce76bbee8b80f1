-- A run of digits behind the sign.
use native.Mathlib.Omega.{arith}
use Rattle.lexer.proofs.Steps.{steps-by, ends, minus-token, minus-wrong}
use Rattle.lexer.proofs.minus_step.Goals as goal

pub returns-then-e-d : goal.returns-then-e-d
returns-then-e-d c = minus-wrong _ _ _ c.requires.starts c.run_end-e.ensures c.if-e-d.true

pub separate-requires-clause-p_lt_e : goal.separate-requires-clause-p_lt_e
separate-requires-clause-p_lt_e c = let b = ends _ _ _ _ _ c.run_end-e.ensures (omega (arith, c.requires.starts.inside)) in (omega (arith, b.0), b.1, (b.0, b.1))

pub returns : goal.returns
returns c = steps-by _ _ _ _ _ (minus-token _ _ _ c.requires.starts c.run_end-e.ensures c.if-e-d.false) c.separate.ensures
