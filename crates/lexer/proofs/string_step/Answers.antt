-- The string that closes.
use native.Mathlib.Omega.{arith}
use Rattle.std.proofs.lemmas.Result.{err_from_is_err_and}
use Rattle.strings.proofs.StringLaws.{close-between, close-closes}
use Rattle.lexer.proofs.Steps.{steps-by, string-token, string-wrong}
use Rattle.lexer.proofs.string_step.Goals as goal

pub separate-requires-clause-p_lt_e : goal.separate-requires-clause-p_lt_e
separate-requires-clause-p_lt_e c =
    let closed = c.in_ok-e.ensures.ok_part in
    let b = close-between _ _ _ c.string_end.ensures _ closed in
    (omega (arith, b.0), b.1, (omega (arith, c.requires.starts.inside), close-closes _ _ _ c.string_end.ensures _ closed))

pub returns-in_err-e : goal.returns-in_err-e
returns-in_err-e c =
    let p = err_from_is_err_and c.from_residual.result c.from_residual.ensures.1 in
    let k = c.in_err-e.ensures in
    rw (p.1, p.2) (string-wrong _ _ c.requires.starts _ c.string_end.ensures _ k.ok_part k.value)

pub returns : goal.returns
returns c = steps-by _ _ _ _ _ (string-token _ _ c.requires.starts _ c.string_end.ensures _ c.in_ok-e.ensures.ok_part) c.separate.ensures
