-- The invariant: the first k wires are indexed.
-- Assumes nothing.
use mathlib.Core.Path.{refl, ap, ◌∙◌}
use native.Mathlib.Omega.{arith}
use Rattle.name_index.specs.Index.{hash_of}
use Rattle.name_index.specs.IndexLaws.{wire-fits, wire-put, indexed-upto}
use Rattle.name_index.proofs.index_wires.Goals as goal

pub loop-k-init : goal.loop-k-init
loop-k-init c = (c.requires.indexed, refl, refl, c.requires.count_in_bounds)

pub put-requires : goal.put-requires
put-requires c = (wire-fits _ _ _ _ _ _ c.loop-k.invariant.0 (c.hash-h.ensures ∙ ap hash_of c.bytes_at.ensures), omega (arith, c.loop-k.invariant.3))

pub loop-k-preserved : goal.loop-k-preserved
loop-k-preserved c =
    let loop = c.loop-k in
    let bytes-at = c.bytes_at in
    let hash = c.hash-h in
    let put = c.put in (
      wire-put _ _ _ _ _ _ loop.invariant.0 (hash.ensures ∙ ap hash_of bytes-at.ensures) (omega (arith, loop.invariant.3))
          _ _ put.ensures.0 put.ensures.1,
      put.auto.heads ∙ loop.invariant.1,
      put.auto.chain ∙ loop.invariant.2,
      omega (arith, put.auto.chain, loop.invariant.3),
    )

pub shape_of-heads : goal.shape_of-heads
shape_of-heads c = c.loop-k.invariant.1

pub shape_of-chain : goal.shape_of-chain
shape_of-chain c = c.loop-k.invariant.2

pub returns : goal.returns
returns c = indexed-upto (omega arith) c.loop-k.invariant.0
