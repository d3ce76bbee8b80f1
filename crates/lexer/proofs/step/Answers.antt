-- The class of the first byte behind the blanks decides.
use native.Mathlib.Omega.{arith}
use Rattle.std.proofs.lemmas.Result.{err_from_is_err_and}
use Rattle.lexer.proofs.ByClass.{class-le}
use Rattle.lexer.proofs.Steps.{byte_small, blanks-then, step_end, step-mark, step-hash, step_other}
use Rattle.lexer.proofs.step.Goals as goal

pub returns-then-s-p : goal.returns-then-s-p
returns-then-s-p c = step_end _ _ _ c.run_end-p.ensures c.if-s-p.true

pub returns-in-5 : goal.returns-in-5
returns-in-5 c = step-hash _ _ _ c.run_end-p.ensures c.if-s-p.false _ c.class_in.ensures c.in-5.is

pub returns-in-4 : goal.returns-in-4
returns-in-4 c = step-mark _ _ _ c.run_end-p.ensures c.if-s-p.false _ c.class_in.ensures c.in-4.is (byte_small _ (c.type_inv.s c.run_end-p.result))

pub returns-in_default : goal.returns-in_default
returns-in_default c = step_other _ _ _ c.run_end-p.ensures c.if-s-p.false _ c.class_in.ensures (omega arith) (λ q. omega arith) (λ q. omega arith)

pub returns-in_default-2 : goal.returns-in_default-2
returns-in_default-2 c =
    let small = class-le _ (byte_small _ (c.type_inv.s c.run_end-p.result)) in
    step_other _ _ _ c.run_end-p.ensures c.if-s-p.false _ c.class_in.ensures (omega (arith, small, c.class_in.ensures)) (λ q. omega arith) (λ q. omega arith)

pub returns-in_ok-lexeme-in-7 : goal.returns-in_ok-lexeme-in-7
returns-in_ok-lexeme-in-7 c = blanks-then _ _ _ c.run_end-p.ensures _ c.in_ok-lexeme-in-7.ensures

pub returns-in_err-lexeme-in-7 : goal.returns-in_err-lexeme-in-7
returns-in_err-lexeme-in-7 c =
    let p = err_from_is_err_and c.from_residual.result c.from_residual.ensures.1 in
    rw (p.1, p.2) (blanks-then _ _ _ c.run_end-p.ensures _ c.in_err-lexeme-in-7.ensures)

pub returns-in_ok-lexeme-in-8 : goal.returns-in_ok-lexeme-in-8
returns-in_ok-lexeme-in-8 c = blanks-then _ _ _ c.run_end-p.ensures _ c.in_ok-lexeme-in-8.ensures

pub returns-in_err-lexeme-in-8 : goal.returns-in_err-lexeme-in-8
returns-in_err-lexeme-in-8 c =
    let p = err_from_is_err_and c.from_residual-in_err-lexeme-in-8.result c.from_residual-in_err-lexeme-in-8.ensures.1 in
    rw (p.1, p.2) (blanks-then _ _ _ c.run_end-p.ensures _ c.in_err-lexeme-in-8.ensures)

pub returns-in_ok-lexeme-in-9-to-11 : goal.returns-in_ok-lexeme-in-9-to-11
returns-in_ok-lexeme-in-9-to-11 c = blanks-then _ _ _ c.run_end-p.ensures _ c.in_ok-lexeme-in-9-to-11.ensures

pub returns-in_err-lexeme-in-9-to-11 : goal.returns-in_err-lexeme-in-9-to-11
returns-in_err-lexeme-in-9-to-11 c =
    let p = err_from_is_err_and c.from_residual-in_err-lexeme-in-9-to-11.result c.from_residual-in_err-lexeme-in-9-to-11.ensures.1 in
    rw (p.1, p.2) (blanks-then _ _ _ c.run_end-p.ensures _ c.in_err-lexeme-in-9-to-11.ensures)

pub returns-in_ok-lexeme-in-12 : goal.returns-in_ok-lexeme-in-12
returns-in_ok-lexeme-in-12 c = blanks-then _ _ _ c.run_end-p.ensures _ c.in_ok-lexeme-in-12.ensures

pub returns-in_err-lexeme-in-12 : goal.returns-in_err-lexeme-in-12
returns-in_err-lexeme-in-12 c =
    let p = err_from_is_err_and c.from_residual-in_err-lexeme-in-12.result c.from_residual-in_err-lexeme-in-12.ensures.1 in
    rw (p.1, p.2) (blanks-then _ _ _ c.run_end-p.ensures _ c.in_err-lexeme-in-12.ensures)

pub returns-in_ok-lexeme-in-13-to-14 : goal.returns-in_ok-lexeme-in-13-to-14
returns-in_ok-lexeme-in-13-to-14 c = blanks-then _ _ _ c.run_end-p.ensures _ c.in_ok-lexeme-in-13-to-14.ensures

pub returns-in_err-lexeme-in-13-to-14 : goal.returns-in_err-lexeme-in-13-to-14
returns-in_err-lexeme-in-13-to-14 c =
    let p = err_from_is_err_and c.from_residual-in_err-lexeme-in-13-to-14.result c.from_residual-in_err-lexeme-in-13-to-14.ensures.1 in
    rw (p.1, p.2) (blanks-then _ _ _ c.run_end-p.ensures _ c.in_err-lexeme-in-13-to-14.ensures)
