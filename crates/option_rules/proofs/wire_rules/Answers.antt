-- The tests in the order of the rules; the good columns are the words of the numbers.
-- Assumes nothing.
use mathlib.Core.Path.{◌≡◌, sym, ◌∙◌}
use mathlib.Core.Bool.{true, false}
use borrow.Author.Rules.{rules}
use native.Mathlib.Omega.{arith}
use Rattle.rules.specs.Bytes.{within}
use Rattle.option_rules.proofs.Ports.{code-most}
use Rattle.option_rules.proofs.Meaning.{wire-options, wire-width, wire-ports, wire-offset, wire-good, bits_most}
use Rattle.option_rules.proofs.wire_rules.Goals as goal

pub returns-then-not-options_good : goal.returns-then-not-options_good
returns-then-not-options_good c os H = wire-options _ _ os H (sym c.options_good.ensures ∙ c.if-not-options_good.true)

pub returns-then-width-gt-MOST_WIDTH : goal.returns-then-width-gt-MOST_WIDTH
unfolding within
returns-then-width-gt-MOST_WIDTH c os H =
    let w : within 0 2048 c.word_or-width.result ≡ false = search rules in
    wire-width _ _ os H (sym c.options_good.ensures ∙ c.if-not-options_good.false) _ c.word_or-width.ensures w

pub returns-in_err-port : goal.returns-in_err-port
unfolding within
returns-in_err-port c os H =
    let w : within 0 2048 c.word_or-width.result ≡ true = search rules in
    rw c.from_residual.ensures
    (wire-ports _ _ os H (sym c.options_good.ensures ∙ c.if-not-options_good.false) _ c.word_or-width.ensures w (rw c.in_err-port.was at c.port_of.ensures))

pub returns-then-not-offset_fits : goal.returns-then-not-offset_fits
unfolding within
returns-then-not-offset_fits c os H =
    let p = rw c.in_ok-port.was at c.port_of.ensures in
    let w : within 0 2048 c.word_or-width.result ≡ true = search rules in
    wire-offset _ _ os H (sym c.options_good.ensures ∙ c.if-not-options_good.false) _ c.word_or-width.ensures _ c.word_or-offset.ensures w p.0
    ∙ sym c.offset_fits.ensures
    ∙ c.if-not-offset_fits.true

pub overflow_add-result : goal.overflow_add-result
overflow_add-result c = let p = rw c.in_ok-port.was at c.port_of.ensures in omega (arith, bits_most _ _ c.flag_bits.ensures, code-most _ p.1)

pub returns : goal.returns
unfolding within
returns c os H =
    let p = rw c.in_ok-port.was at c.port_of.ensures in
    let g = sym c.options_good.ensures ∙ c.if-not-options_good.false in
    let w : within 0 2048 c.word_or-width.result ≡ true = search rules in
    let o = wire-offset _ _ os H g _ c.word_or-width.ensures _ c.word_or-offset.ensures w p.0 ∙ sym c.offset_fits.ensures ∙ c.if-not-offset_fits.false in
    wire-good _ _ os H g _ c.word_or-width.ensures _ c.word_or-offset.ensures w p.0 _ _ _ o c.flag_bits.ensures p.1 p.2
