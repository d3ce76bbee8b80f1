-- By the token that was read: the line starts with it.
use mathlib.Core.Path.{sym, ◌∙◌}
use Rattle.tokens.specs.Rows.{front}
use Rattle.tokens.proofs.TokenLaws.{line_read}
use Rattle.line_forms.specs.Words.{starts}
use Rattle.line_forms.proofs.LineLaws.{word_number, other_number}
use Rattle.line_forms.proofs.word_at.Goals as goal

pub returns-in-Word : goal.returns-in-Word
unfolding front starts
returns-in-Word c f w h = rw (line_read f _ _ _ (sym c.in-Word.is ∙ c.token_at.ensures)) (word_number w _ h)

pub returns-in_default : goal.returns-in_default
returns-in_default c f w h = rw (line_read f _ _ _ c.token_at.ensures) (other_number f _ w _ h c.in_default.not-Word)
