-- The invariant: the first k codes, from the top, are stored.
-- Assumes nothing.
use mathlib.Core.Path.{refl, sym}
use native.Mathlib.Omega.{arith}
use lib.ListN.{length-set}
use Rattle.rules.specs.Signals.{wire_bits}
use Rattle.tables.specs.Store.{store-none, filled-end}
use Rattle.numbers.specs.Kinds.{bit_of, Valid}
use Rattle.signals.specs.Held.{codes}
use Rattle.signals.proofs.Codes.{wire-put, length-wire-codes}
use Rattle.signals.proofs.put_wire.Goals as goal

pub loop-k-init : goal.loop-k-init
loop-k-init c = (refl, sym (store-none c.args.scratch.now c.args.o))

pub encode-requires : goal.encode-requires
unfolding Valid
encode-requires c = (omega arith, omega arith)

pub loop-k-preserved : goal.loop-k-preserved
unfolding bit_of
loop-k-preserved c = (simp length-set c.loop-k.invariant.0, wire-put _ _ _ _ _ _ _ c.loop-k.invariant.1 c.loop-k-test.true c.encode.ensures)

pub returns : goal.returns
returns c =
    let number = c.args.number.0 in
    let width = c.args.width in
    filled-end _ _ (codes (wire_bits number 0 width)) _ c.loop-k.k c.loop-k.invariant.1 (omega (arith, length-wire-codes number width))
