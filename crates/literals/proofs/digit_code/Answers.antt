-- By the byte: the digit that it writes.
use native.Mathlib.Omega.{arith}
use borrow.Author.Tests.{ne_eqb}
use Rattle.rules.specs.Tokens.{digit}
use Rattle.rules.specs.Layout.{digit_code}
use Rattle.literals.proofs.digit_code.Goals as goal

pub returns-in-48 : goal.returns-in-48
unfolding digit digit_code
returns-in-48 c = rw c.in-48.is

pub returns-in-49 : goal.returns-in-49
unfolding digit digit_code
returns-in-49 c = rw c.in-49.is

pub returns-in-120 : goal.returns-in-120
unfolding digit digit_code
returns-in-120 c = rw c.in-120.is

pub returns-in-122 : goal.returns-in-122
unfolding digit digit_code
returns-in-122 c = rw c.in-122.is

pub returns-in-109 : goal.returns-in-109
unfolding digit digit_code
returns-in-109 c = rw c.in-109.is

pub returns-in_default : goal.returns-in_default
unfolding digit digit_code
returns-in_default c =
    let b = c.args.b in
    rw (ne_eqb b 48 (λ e. omega arith), ne_eqb b 49 (λ e. omega arith), ne_eqb b 120 (λ e. omega arith), ne_eqb b 122 (λ e. omega arith), ne_eqb b 109 (λ e. omega arith))
