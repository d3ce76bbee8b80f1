-- The loop's invariant: the modules whose lines stand before row k are written, and there are as many as their lines.
-- Assumes nothing.
use Prim.Native.Nat.{◌≤◌}
use mathlib.Core.Path.{◌∙◌}
use native.Mathlib.Omega.{arith}
use Rattle.text.specs.Written.{written-most}
use Rattle.text.specs.Reaches.{reaches-next, reaches_end}
use Rattle.design_text.proofs.Loops.{as_number, module-next, module-none, modules-start, one_at_most}
use Rattle.design_text.proofs.put_modules.Goals as goal

pub loop-k-init : goal.loop-k-init
loop-k-init c = (omega arith, modules-start _ _ _ _ c.requires.0)

pub row_kind-kind-requires : goal.row_kind-kind-requires
row_kind-kind-requires c = tt

pub put_module-end-requires : goal.put_module-end-requires
put_module-end-requires c = (written-most c.loop-k.invariant.1.written, c.requires.1, omega arith)

pub overflow_add-number : goal.overflow_add-number
overflow_add-number c = omega (arith, one_at_most _ _ (c.from-number.ensures ∙ as_number _), c.loop-k.invariant.0)

pub loop-k-preserved : goal.loop-k-preserved
loop-k-preserved c =
    let loop = c.loop-k in
    let row-kind = c.row_kind-kind in
    let put-module = c.put_module-end in (
      omega (arith, one_at_most row-kind.result _ (c.from-number.ensures ∙ as_number _), loop.invariant.0),
      reaches-next loop.invariant.1 put-module.ensures
          (module-next _ _ _ _ _ _ _ _ _ (omega arith) row-kind.ensures c.waiting_from-first.ensures (c.from-number.ensures ∙ as_number _)),
    )

pub shape_of-out : goal.shape_of-out
shape_of-out c = c.loop-k.invariant.1.written.kept

pub returns : goal.returns
returns c = reaches_end c.loop-k.invariant.1 (module-none _ _ _ _ _ _ (omega arith))
