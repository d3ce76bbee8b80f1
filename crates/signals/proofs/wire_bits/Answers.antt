-- `wire_bits` meets its contract: by what the search for the name answers.
-- Assumes nothing.
use mathlib.Core.Path.{ap, ◌∙◌}
use native.Mathlib.Omega.{arith}
use Rattle.wires.specs.Found.{found_of}
use Rattle.wires.specs.RowLaws.{length-wires}
use Rattle.signals.proofs.HeldLaws.{put-not, wire-number, wire-over, wire-put-fits, wire-nothing}
use Rattle.signals.proofs.wire_bits.Goals as goal

pub returns-then-width-gt-MOST_BITS : goal.returns-then-width-gt-MOST_BITS
returns-then-width-gt-MOST_BITS c = wire-over _ _ _ (c.indexed_wire.ensures ∙ ap found_of c.in-Some.is) _ _ (omega arith) c.if-width-gt-MOST_BITS.true

pub put_wire-requires : goal.put_wire-requires
put_wire-requires c =
    let args = c.args in
    let pre = c.requires in
    let indexed-wire = c.indexed_wire in
    let F = indexed-wire.ensures ∙ ap found_of c.in-Some.is in (
      omega (arith, c.if-width-gt-MOST_BITS.false),
      omega
          (arith, wire-number _ _ _ F, length-wires args.names.now args.wires.now args.scope.first args.scope.count, pre.1),
      c.if-width-gt-MOST_BITS.false,
    )

pub returns-else-width-gt-MOST_BITS : goal.returns-else-width-gt-MOST_BITS
returns-else-width-gt-MOST_BITS c =
    let pre = c.requires in
    let indexed-wire = c.indexed_wire in
    let if1 = c.if-width-gt-MOST_BITS in
    let put-wire = c.put_wire in
    wire-put-fits _ _ _ (indexed-wire.ensures ∙ ap found_of c.in-Some.is) _ _ _ if1.false pre.0
    put-wire.ensures

pub returns-in-None : goal.returns-in-None
returns-in-None c = put-not _ _ _ _ _ (omega arith) 8 (wire-nothing _ _ (c.indexed_wire.ensures ∙ ap found_of c.in-None.is)) (omega arith) (omega arith)
