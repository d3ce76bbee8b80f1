use native.Mathlib.Omega.{arith}
use Rattle.reading_step.proofs.LineLaws.{end-small, refused-is}
use Rattle.reading_step.proofs.refused_at.Goals as goal

pub overflow_cast-result : goal.overflow_cast-result
overflow_cast-result c =
    let pre = c.requires in
    omega (arith, end-small c.args.f.now c.args.line _ _ _ c.blanks_end.ensures pre.0 pre.1 pre.2)

pub returns : goal.returns
returns c = refused-is c.args.f.now c.args.line _ _ c.blanks_end.ensures
