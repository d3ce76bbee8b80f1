-- The word, or nothing.
-- Assumes nothing.
use Rattle.text.specs.Written.{written_none, written_as}
use Rattle.rules.specs.Text.{unless, option_tokens, behind}
use Rattle.signal_text.specs.Pieces.{spread}
use Rattle.line_text.specs.LineLaws.{option-word}
use Rattle.line_text.proofs.put_flag.Goals as goal

pub returns-then-set : goal.returns-then-set
unfolding unless
returns-then-set c = rw c.if-set.true (written_as c.put_token.ensures (option-word c.args.w.now))

pub shape_of-out-then-set : goal.shape_of-out-then-set
shape_of-out-then-set c = (returns-then-set c).kept

pub returns : goal.returns
unfolding unless option_tokens spread behind
returns c = rw c.if-set.false (written_none c.args.at c.args.out.now c.requires)
