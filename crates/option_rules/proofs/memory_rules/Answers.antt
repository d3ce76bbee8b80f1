-- The tests in the order of the rules; the good columns are the words of the numbers.
-- Assumes nothing.
use mathlib.Core.Path.{◌≡◌, sym, ◌∙◌}
use mathlib.Core.Bool.{true, false}
use borrow.Author.Rules.{rules}
use Rattle.rules.specs.Bytes.{within}
use Rattle.option_rules.proofs.Meaning.{memory-options, memory-width, memory-size, memory-good}
use Rattle.option_rules.proofs.memory_rules.Goals as goal

pub returns-then-not-options_good : goal.returns-then-not-options_good
returns-then-not-options_good c os H = memory-options _ _ os H (sym c.options_good.ensures ∙ c.if-not-options_good.true)

pub returns-then-not-contains : goal.returns-then-not-contains
unfolding within
returns-then-not-contains c os H =
    let w : within 1 2048 c.word_or-width.result ≡ false = search rules in
    memory-width _ _ os H (sym c.options_good.ensures ∙ c.if-not-options_good.false) _ c.word_or-width.ensures w

pub returns-then-size-gt-MOST_SIZE : goal.returns-then-size-gt-MOST_SIZE
unfolding within
returns-then-size-gt-MOST_SIZE c os H =
    let w : within 1 2048 c.word_or-width.result ≡ true = search rules in
    let n : within 0 2147483647 c.word_or-size.result ≡ false = search rules in
    memory-size _ _ os H (sym c.options_good.ensures ∙ c.if-not-options_good.false) _ c.word_or-width.ensures _ c.word_or-size.ensures w ∙ n

pub returns : goal.returns
unfolding within
returns c os H =
    let w : within 1 2048 c.word_or-width.result ≡ true = search rules in
    let n : within 0 2147483647 c.word_or-size.result ≡ true = search rules in
    memory-good _ _ os H (sym c.options_good.ensures ∙ c.if-not-options_good.false) _ c.word_or-width.ensures _ c.word_or-size.ensures w _ c.word_or.ensures n
