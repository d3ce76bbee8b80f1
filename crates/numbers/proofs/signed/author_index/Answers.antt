-- `signed::author_index` meets its contract.
use Prim.Native.Nat.{◌-◌, ◌<◌}
use mathlib.Core.Path.{◌≡◌}
use mathlib.Core.Bool.{cond}
use borrow.Author.Tests.{lt-ltb, le-ltb}
use native.Mathlib.Omega.{arith}
use Rattle.rules.specs.Session.{authors_index, index_in}
use Rattle.numbers.specs.Signed.{verdict_of}
use Rattle.numbers.proofs.SumLaws.{sum-fits-at, sum-at}
use Rattle.numbers.proofs.signed.author_index.Goals as goal
use Rattle.numbers.proofs.signed.author_index.Goals.{else-upto, then-upto}

pub returns-then-width-bit : goal.returns-then-width-bit
unfolding authors_index index_in verdict_of
returns-then-width-bit c signed port = rw (le-ltb _ _ c.if-width-bit.true)

pub overflow_cast-result : goal.overflow_cast-result
overflow_cast-result c = (elim c.if-upto.branch [ then-upto w ↦ record { sfits = omega arith } | else-upto w ↦ record { sfits = omega arith } ])

pub overflow_add-result : goal.overflow_add-result
overflow_add-result c =
    let l : c.if-upto.above < 4294967296 = (elim c.if-upto.branch [ then-upto w ↦ omega arith | else-upto w ↦ omega arith ]) in
    sum-fits-at c.signed_of.result c.args.offset c.if-upto.above c.signed_of.ensures l

pub returns : goal.returns
unfolding authors_index index_in verdict_of
returns c signed port =
    let l : c.if-upto.above < 4294967296 = (elim c.if-upto.branch [ then-upto w ↦ omega arith | else-upto w ↦ omega arith ]) in
    let h : c.if-upto.above ≡ cond c.args.upto (c.args.width - 1 - c.args.bit) c.args.bit =
    (elim c.if-upto.branch [ then-upto w ↦ rw w.if-upto.true w.above-is | else-upto w ↦ rw w.if-upto.false w.above-is ]) in
    rw (lt-ltb _ _ c.if-width-bit.false, ← h, sum-at c.signed_of.result c.args.offset c.if-upto.above c.signed_of.ensures l)
