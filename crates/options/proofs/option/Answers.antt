-- By the token that was read, and for a word by its number: one step of the line's parse.
-- Assumes nothing.
use mathlib.Core.Path.{sym, ◌∙◌}
use native.Mathlib.Omega.{arith}
use Rattle.tokens.specs.Rows.{front}
use Rattle.tokens.specs.Parts.{integer_gives}
use Rattle.tokens.proofs.TokenLaws.{below}
use Rattle.options.proofs.Rest.{decides, refuses, ends, goes_on, flag-next, number-next, rest-short, rest-other}
use Rattle.options.proofs.option.Goals as goal

pub overflow_add-i : goal.overflow_add-i
overflow_add-i c = omega (arith, below _ _ _ (sym c.in-Name.is ∙ c.token_at.ensures) tt)

pub returns-then-i-tokens : goal.returns-then-i-tokens
returns-then-i-tokens c = goes_on _ _ _ _ _ (sym c.in-Name.is ∙ c.token_at.ensures) c.if-i-tokens.true

pub returns-else-i-tokens : goal.returns-else-i-tokens
returns-else-i-tokens c = ends _ _ _ _ _ (sym c.in-Name.is ∙ c.token_at.ensures) c.if-i-tokens.false

pub returns-then-not-offered : goal.returns-then-not-offered
unfolding front
returns-then-not-offered c = decides _ _ _ _ (sym c.in-Word.is ∙ c.token_at.ensures) tt _ (λ f j os. rest-other _ j os _ _ (sym c.offered.ensures ∙ c.if-not-offered.true))

pub returns-then-flag : goal.returns-then-flag
returns-then-flag c =
    let g = sym c.flag.ensures ∙ c.if-flag.true in
    (g, flag-next _ _ _ _ (sym c.in-Word.is ∙ c.token_at.ensures) (sym c.offered.ensures ∙ c.if-not-offered.false) g)

pub overflow_add-i-in-Word : goal.overflow_add-i-in-Word
overflow_add-i-in-Word c = omega (arith, below _ _ _ (sym c.in-Word.is ∙ c.token_at.ensures) tt)

pub returns-in_err-integer_at-in-Word : goal.returns-in_err-integer_at-in-Word
unfolding front integer_gives
returns-in_err-integer_at-in-Word c =
    rw c.from_residual.ensures
    (decides _ _ _ _ (sym c.in-Word.is ∙ c.token_at.ensures) tt _
    (λ f j os. rest-short _ j os _ _ (sym c.offered.ensures ∙ c.if-not-offered.false) (sym c.flag.ensures ∙ c.if-flag.false) (rw c.in_err-integer_at-in-Word.was at (c.integer_at.ensures f))))

pub returns-in_ok-integer_at-in-Word : goal.returns-in_ok-integer_at-in-Word
unfolding integer_gives
returns-in_ok-integer_at-in-Word c =
    let g = sym c.flag.ensures ∙ c.if-flag.false in
    (g, number-next _ _ _ _ (sym c.in-Word.is ∙ c.token_at.ensures) (sym c.offered.ensures ∙ c.if-not-offered.false) _ g (λ f. rw c.in_ok-integer_at-in-Word.was at (c.integer_at.ensures f)))

pub returns-in_default : goal.returns-in_default
returns-in_default c = refuses _ _ _ _ c.token_at.ensures c.in_default.not-Name c.in_default.not-Word
