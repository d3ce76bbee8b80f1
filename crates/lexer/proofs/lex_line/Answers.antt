-- A turn takes a token and puts it into the next row.
use mathlib.Core.Path.{refl}
use Rattle.std.specs.Prelude.{None, Ok}
use Rattle.std.proofs.lemmas.Result.{err_from_is_err_and}
use Rattle.lexer.proofs.Reached.{start, told, step-on, ended, broke}
use Rattle.lexer.proofs.lex_line.Goals as goal

pub loop-lexeme-init : goal.loop-lexeme-init
loop-lexeme-init c = start _ _ _ _ c.requires.0 c.requires.1

pub loop-lexeme-preserved : goal.loop-lexeme-preserved
loop-lexeme-preserved c =
    let loop = c.loop-lexeme in
    let S = told c.args.f.now c.args.end loop.i _ _ c.in_ok-lexeme.ensures (rw c.in-Some.is) in
    step-on c.args.f.now _ _ c.args.start c.args.end loop.i loop.n c.requires.1 loop.invariant _ _ S c.requires.3 _ c.put_token.ensures

pub returns-in_err-lexeme : goal.returns-in_err-lexeme
returns-in_err-lexeme c =
    let loop = c.loop-lexeme in
    let p = err_from_is_err_and c.from_residual.result c.from_residual.ensures.1 in
    rw (p.1, p.2)
    (broke c.args.f.now _ _ c.args.start c.args.end loop.i loop.n c.requires.1 loop.invariant _ (told c.args.f.now c.args.end loop.i _ _ c.in_err-lexeme.ensures refl))

pub returns : goal.returns
returns c =
    let loop = c.loop-lexeme in
    ended c.args.f.now _ _ c.args.start c.args.end loop.i loop.n c.requires.1 loop.invariant
    (told c.args.f.now c.args.end loop.i _ (Ok None) c.in_ok-lexeme.ensures (rw c.in_default.is))
