-- The loop's invariant: the first k signals are stored.
use mathlib.Core.Path.{sym}
use mathlib.Core.List.{flat_map}
use native.Mathlib.Omega.{arith}
use Rattle.tables.specs.Store.{store-none}
use Rattle.netlist.specs.Steps.{pieces}
use Rattle.layout.proofs.StepLaws.{turn-put}
use Rattle.layout.proofs.step.put_signals.Goals as goal

pub loop-k-init : goal.loop-k-init
unfolding pieces flat_map
loop-k-init c = sym (store-none c.args.bits.now c.args.at)

pub loop-k-preserved : goal.loop-k-preserved
loop-k-preserved c =
    let args = c.args in
    let loop = c.loop-k in
    turn-put args.scratch.now args.bits.now loop.bits _ args.width args.count loop.k args.at c.requires.0 (omega arith) loop.invariant c.reverse_words.ensures
