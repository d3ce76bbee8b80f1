-- The tests in the order of the rule.
-- Assumes nothing.
use Prim.Native.Nat.{ℕ, ◌/◌}
use mathlib.Core.Path.{ap}
use native.Mathlib.Omega.{arith}
use borrow.Author.Tests.{not-true, not-false}
use Rattle.row_statements.proofs.SignalLaws.{wire-wide, wire-far, wire-plain, wire-zero, wire-high, wire-port}
use Rattle.row_statements.proofs.wiring.wire_fits.Goals as goal

pub returns-then-width-gt-MOST_WIDTH : goal.returns-then-width-gt-MOST_WIDTH
returns-then-width-gt-MOST_WIDTH c names = wire-wide _ _ _ _ c.word-width.ensures c.if-width-gt-MOST_WIDTH.true

pub returns-then-not-offset_fits : goal.returns-then-not-offset_fits
returns-then-not-offset_fits c names = wire-far _ _ _ _ c.word-width.ensures c.if-width-gt-MOST_WIDTH.false _ c.word.ensures c.offset_fits.ensures (not-true _ c.if-not-offset_fits.true-raw)

pub returns-then-direction-eq0 : goal.returns-then-direction-eq0
returns-then-direction-eq0 c names =
    let word = c.word-width in
    let if1 = c.if-width-gt-MOST_WIDTH in
    let word2 = c.word in
    let offset-fits = c.offset_fits in
    let if2 = c.if-not-offset_fits in
    wire-plain _ _ _ _ word.ensures if1.false _ word2.ensures offset-fits.ensures (not-false _ if2.false-raw)
    (c.word-direction.result / 4) (ap (λ (x : ℕ). x / 4) c.word-direction.ensures) (λ e. omega arith)
    (λ e. omega arith) (λ e. omega arith)

pub returns-then-direction-gt-INOUT : goal.returns-then-direction-gt-INOUT
returns-then-direction-gt-INOUT c names =
    let word = c.word-width in
    let if1 = c.if-width-gt-MOST_WIDTH in
    let word2 = c.word in
    let offset-fits = c.offset_fits in
    let if2 = c.if-not-offset_fits in
    let word3 = c.word-direction in
    wire-plain _ _ _ _ word.ensures if1.false _ word2.ensures offset-fits.ensures (not-false _ if2.false-raw)
    (word3.result / 4) (ap (λ (x : ℕ). x / 4) word3.ensures) (λ e. omega arith) (λ e. omega arith)
    (λ e. omega arith)

pub returns-then-port-eq0 : goal.returns-then-port-eq0
returns-then-port-eq0 c names =
    let word = c.word-width in
    let if1 = c.if-width-gt-MOST_WIDTH in
    let word2 = c.word in
    let offset-fits = c.offset_fits in
    let if2 = c.if-not-offset_fits in
    let word3 = c.word-direction in
    wire-zero _ _ _ _ word.ensures if1.false _ word2.ensures offset-fits.ensures (not-false _ if2.false-raw)
    (word3.result / 4) (ap (λ (x : ℕ). x / 4) word3.ensures) (omega arith) (omega arith) _
    c.word-port.ensures c.if-port-eq0.true

pub returns-then-port-gt-MOST_PORT : goal.returns-then-port-gt-MOST_PORT
returns-then-port-gt-MOST_PORT c names =
    let word = c.word-width in
    let if1 = c.if-width-gt-MOST_WIDTH in
    let word2 = c.word in
    let offset-fits = c.offset_fits in
    let if2 = c.if-not-offset_fits in
    let word3 = c.word-direction in
    let word4 = c.word-port in
    wire-high _ _ _ _ word.ensures if1.false _ word2.ensures offset-fits.ensures (not-false _ if2.false-raw)
    (word3.result / 4) (ap (λ (x : ℕ). x / 4) word3.ensures) (omega arith) (omega arith) _ word4.ensures
    c.if-port-gt-MOST_PORT.true

pub returns : goal.returns
returns c names =
    let word = c.word-width in
    let if1 = c.if-width-gt-MOST_WIDTH in
    let word2 = c.word in
    let offset-fits = c.offset_fits in
    let if2 = c.if-not-offset_fits in
    let word3 = c.word-direction in
    let word4 = c.word-port in
    let if5 = c.if-port-eq0 in
    wire-port _ _ _ _ word.ensures if1.false _ word2.ensures offset-fits.ensures (not-false _ if2.false-raw)
    (word3.result / 4) (ap (λ (x : ℕ). x / 4) word3.ensures) (omega arith) (omega arith) _ word4.ensures
    if5.false c.if-port-gt-MOST_PORT.false (c.port_taken.ensures names)
