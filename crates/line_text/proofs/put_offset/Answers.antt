-- The default is left out.
-- Assumes nothing.
use Rattle.text.specs.Written.{written_none, written-most, written_then, written_as}
use Rattle.rules.specs.Text.{setting, unless, option_tokens, behind}
use Rattle.rules.specs.Bytes.{bytes, within}
use Rattle.rules.specs.Numbers.{in_range}
use Rattle.numbers.specs.Signed.{signed_of}
use Rattle.signal_text.specs.Pieces.{spread}
use Rattle.line_text.specs.Options.{offset-there}
use Rattle.line_text.specs.LineLaws.{option-number}
use Rattle.line_text.proofs.put_offset.Goals as goal

pub returns-then-word-eq0 : goal.returns-then-word-eq0
unfolding unless option_tokens spread behind in_range within signed_of
returns-then-word-eq0 c = rw c.if-word-eq0.true (written_none c.args.at c.args.out.now c.requires)

pub put_signed-requires : goal.put_signed-requires
put_signed-requires c = written-most c.put_bytes-end.ensures

pub returns : goal.returns
unfolding unless setting
returns c =
    let args = c.args in
    let if1 = c.if-word-eq0 in
    let put-bytes = c.put_bytes-end in
    let put-signed = c.put_signed in
    rw (offset-there _ if1.false)
    (written_as (written_then put-bytes.ensures put-signed.ensures) (option-number (bytes "offset") (signed_of args.word)))

pub shape_of-out : goal.shape_of-out
shape_of-out c = (returns c).kept
