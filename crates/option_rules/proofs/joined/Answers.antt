-- By what is given, by the ports behind, and by the number.
-- Assumes nothing.
use mathlib.Core.Path.{◌≡◌, sym, ◌∙◌}
use mathlib.Core.Bool.{true, false}
use borrow.Author.Rules.{rules}
use mathlib.Core.Option.{Option-elim}
use native.Mathlib.Omega.{arith}
use Rattle.rules.specs.Bytes.{within}
use Rattle.rules.specs.Numbers.{port_of}
use Rattle.option_rules.specs.Limits.{with_port}
use Rattle.option_rules.proofs.Numbers.{range-word, range-outside, range-abs}
use Rattle.option_rules.proofs.Ports.{port-before, port-bad, port-alone, no-port}
use Rattle.option_rules.proofs.joined.Goals as goal

pub returns-in_default : goal.returns-in_default
unfolding with_port
returns-in_default c d ps e p = rw c.in_default.is p

pub returns-in_err-behind : goal.returns-in_err-behind
unfolding with_port
returns-in_err-behind c d ps e p = rw (c.in-Some.is, c.from_residual.ensures) (port-bad _ ps (rw c.in_err-behind.was at p))

pub returns-then-branch-ne0 : goal.returns-then-branch-ne0
unfolding with_port
returns-then-branch-ne0 c d ps e p = let p = rw c.in_ok-behind.was at p in rw c.in-Some.is (port-before _ ps (λ z. c.if-branch-ne0.true (sym p.1 ∙ z)))

pub returns-in_err-number : goal.returns-in_err-number
unfolding with_port
returns-in_err-number c d ps e p =
    let p = rw c.in_ok-behind.was at p in
    let q = rw c.in_err-number.was at c.integer_of.ensures in
    rw (c.in-Some.is, c.from_residual-in_err-number.ensures, no-port ps (p.1 ∙ c.if-branch-ne0.false)) (port-alone _ ∙ range-outside 1 1023 _ (omega arith) q)

pub returns-then-not-contains : goal.returns-then-not-contains
unfolding with_port within
returns-then-not-contains c d ps e p =
    let p = rw c.in_ok-behind.was at p in
    let q = rw c.in_ok-number.was at c.integer_of.ensures in
    let n : within 1 1023 c.in_ok-number.number ≡ false = search rules in
    rw (c.in-Some.is, no-port ps (p.1 ∙ c.if-branch-ne0.false)) (port-alone _ ∙ range-word 1 1023 _ (omega arith) q.0 q.1 ∙ n)

pub returns : goal.returns
unfolding with_port port_of Option-elim within
returns c d ps e p =
    let p = rw c.in_ok-behind.was at p in
    let q = rw c.in_ok-number.was at c.integer_of.ensures in
    let n : within 1 1023 c.in_ok-number.number ≡ true = search rules in
    let i = range-word 1 1023 _ (omega arith) q.0 q.1 ∙ n in
    rw (c.in-Some.is, no-port ps (p.1 ∙ c.if-branch-ne0.false)) (port-alone _ ∙ i, e, range-abs 1 1023 _ i ∙ q.1)
