-- The invariant: the indexes of the first m modules stand in front.
-- Assumes nothing.
use Prim.Native.Nat.{◌-◌}
use mathlib.Core.Path.{◌≡◌, sym, ap, ◌∙◌}
use native.Mathlib.Omega.{arith}
use lib.ListN.{length}
use Rattle.tables.specs.Store.{store-none, length-store}
use Rattle.byte_order.specs.Order.{indexes_up}
use Rattle.design_order.specs.IndexesLaws.{module-fits, module-built, built-all}
use Rattle.design_order.proofs.build_orders.Goals as goal

pub loop-m-init : goal.loop-m-init
unfolding indexes_up
loop-m-init c = sym (store-none c.args.index.now 0)

pub order_module-requires : goal.order_module-requires
order_module-requires c =
    let long : length c.loop-m.index ≡ length c.args.index.now = ap length c.loop-m.invariant ∙ length-store _ _ _ in
    module-fits c.args.design.now.names.now _ c.args.design.now.rows.now c.args.place _ _ _ c.module_at-module.ensures c.loop-m.index (omega (arith, long, c.requires))

pub loop-m-preserved : goal.loop-m-preserved
loop-m-preserved c = module-built _ _ _ c.args.place _ _ _ c.module_at-module.ensures _ _ _ c.loop-m.invariant c.order_module.ensures
