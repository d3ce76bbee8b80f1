-- The default is left out.
-- Assumes nothing.
use Rattle.text.specs.Written.{written_none, written-most, written_then, written_as}
use borrow.Author.Tests.{eq-eqb, ne_eqb}
use Rattle.rules.specs.Text.{unless, option_tokens, integer_text, behind}
use lib.IntN.{pos}
use Rattle.signal_text.specs.Pieces.{spread}
use Rattle.line_text.specs.LineLaws.{option-number}
use Rattle.line_text.proofs.put_setting.Goals as goal

pub returns-then-n-usual : goal.returns-then-n-usual
unfolding unless option_tokens spread behind
returns-then-n-usual c = rw (eq-eqb _ _ c.if-n-usual.true) (written_none c.args.at c.args.out.now c.requires)

pub put_number-requires : goal.put_number-requires
put_number-requires c = written-most c.put_token-end.ensures

pub returns : goal.returns
unfolding unless integer_text
returns c =
    let args = c.args in
    let if1 = c.if-n-usual in
    let put-token = c.put_token-end in
    let put-number = c.put_number in
    rw (ne_eqb _ _ if1.false)
    (written_as (written_then put-token.ensures put-number.ensures) (option-number args.w.now (pos args.n)))

pub shape_of-out : goal.shape_of-out
shape_of-out c = (returns c).kept
