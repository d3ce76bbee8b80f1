-- The first line, then the modules.
-- Assumes nothing.
use mathlib.Core.Path.{sym, ◌∙◌}
use native.Mathlib.Omega.{arith}
use Rattle.text.specs.Written.{written-most}
use Rattle.design_text.proofs.Loops.{one_or_none, text-written}
use Rattle.design_text.proofs.put_text.Goals as goal

pub module_of-m-requires : goal.module_of-m-requires
module_of-m-requires c = tt

pub put_kind-end-requires : goal.put_kind-end-requires
put_kind-end-requires c = (omega arith, c.requires, omega arith)

pub put_modules-requires : goal.put_modules-requires
put_modules-requires c = (written-most c.put_kind-end.ensures, c.requires)

pub returns : goal.returns
returns c =
    let module-of = c.module_of-m in
    let least = c.min in
    let put-kind = c.put_kind-end in
    let put-modules = c.put_modules in
    text-written _ _ module-of.result least.result module-of.ensures (least.ensures ∙ sym (one_or_none _))
    put-kind.ensures put-modules.ensures

pub shape_of-out : goal.shape_of-out
shape_of-out c = (returns c).kept
