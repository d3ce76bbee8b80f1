use mathlib.Core.Path.{refl, sym, ◌∙◌}
use Rattle.std.specs.Prelude.{Ok}
use Rattle.one_wire.proofs.RowLaws.{named, from_start, from_more, sought-row, sought-none}
use Rattle.one_wire.proofs.find_wire.Goals as goal

pub loop-k-init : goal.loop-k-init
loop-k-init c = from_start _ _ _ _

pub returns-then-same_bytes : goal.returns-then-same_bytes
returns-then-same_bytes c =
    sought-row _ _ _ _ _ c.loop-k.invariant _ c.module_wires-own.ensures _ refl c.loop-k-test.true (named _ _ _ _ _ _ _ c.bytes_at.ensures c.same_bytes.ensures c.if-same_bytes.true) (Ok c.wire_in.result) c.wire_in.ensures

pub loop-k-preserved : goal.loop-k-preserved
loop-k-preserved c =
    sym (from_more _ _ _ _ _ _ refl c.loop-k-test.true (named _ _ _ _ _ _ _ c.bytes_at.ensures c.same_bytes.ensures c.if-same_bytes.false)) ∙ c.loop-k.invariant

pub returns : goal.returns
returns c = sought-none _ _ _ _ _ c.loop-k.invariant _ c.module_wires-own.ensures c.loop-k-test.false
