-- `keyword` meets its contract: a short word by its code, of the longer ones two are keywords.
-- Assumes nothing.
use mathlib.Core.Path.{sym, ap, ◌∙◌}
use native.Mathlib.Omega.{arith}
use Rattle.rules.specs.Tokens.{keywords}
use Rattle.scanner.specs.Words.{keyword_at, code_number}
use Rattle.scanner.proofs.CodeLaws.{keyword-coded, long-found, long-none}
use Rattle.scanner.proofs.words.keyword.Goals as goal

pub returns-then-w-lt8 : goal.returns-then-w-lt8
returns-then-w-lt8 c = c.code_number.ensures ∙ ap code_number c.word_code.ensures ∙ keyword-coded _ (λ k. omega (arith, c.type_inv.w k))

pub returns-then-same_bytes : goal.returns-then-same_bytes
unfolding keyword_at keywords
returns-then-same_bytes c = long-found _ 3 (omega arith) (sym c.same_bytes.ensures ∙ c.if-same_bytes.true)

pub returns-then-same_bytes-2 : goal.returns-then-same_bytes-2
unfolding keyword_at keywords
returns-then-same_bytes-2 c = long-found _ 4 (omega arith) (sym c.same_bytes-2.ensures ∙ c.if-same_bytes-2.true)

pub returns : goal.returns
unfolding keyword_at keywords
returns c = long-none _ c.if-w-lt8.false (sym c.same_bytes.ensures ∙ c.if-same_bytes.false) (sym c.same_bytes-2.ensures ∙ c.if-same_bytes-2.false)
