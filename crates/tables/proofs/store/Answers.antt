-- A turn stores the next value behind those before it.
use Rattle.std.proofs.Common.{sym, ap, ◌∙◌, take_all}
use Rattle.tables.specs.Store.{store, store-none, store-turn}
use Rattle.tables.proofs.store.Goals as goal

pub loop-j-init : goal.loop-j-init
loop-j-init g c = sym (store-none c.args.table.now c.args.at)

pub loop-j-preserved : goal.loop-j-preserved
loop-j-preserved g c = store-turn _ _ _ _ _ _ c.loop-j.invariant c.loop-j-test.true c.index-values-j.is

pub returns : goal.returns
returns g c = c.loop-j.invariant ∙ ap (store c.args.table.now c.args.at) (take_all c.loop-j.j c.args.values.now c.loop-j-test.false)
