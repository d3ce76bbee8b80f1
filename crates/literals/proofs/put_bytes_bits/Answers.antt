-- The loop's invariant: the bits of the first j bytes are stored.
use mathlib.Core.Path.{refl, sym, ap, ◌∙◌}
use mathlib.Core.List.{flat_map}
use Rattle.tables.specs.Store.{store, store-none}
use Rattle.literals.proofs.CodeLaws.{bytes-more, bytes-all}
use Rattle.literals.proofs.put_bytes_bits.Goals as goal

pub loop-j-init : goal.loop-j-init
unfolding flat_map
loop-j-init c = (refl, sym (store-none _ _))

pub loop-j-preserved : goal.loop-j-preserved
loop-j-preserved c =
    let loop = c.loop-j in
    let loop-test = c.loop-j-test in
    let put-bits = c.put_bits in (
      put-bits.auto.out ∙ loop.invariant.0,
      bytes-more _ _ _ _ _ _ loop-test.true loop.invariant.1 put-bits.ensures,
    )

pub returns : goal.returns
returns c = c.loop-j.invariant.1 ∙ ap (store c.args.out.now c.args.at) (bytes-all _ _ c.loop-j-test.false)
