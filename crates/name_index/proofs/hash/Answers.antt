-- `hash` meets its contract. The invariant: what is left of the name, from the hash so far, gives the hash of the whole.
-- Assumes nothing.
use mathlib.Core.Path.{refl, sym, ◌∙◌}
use native.Mathlib.Nat.{mod-lt}
use native.Mathlib.Omega.{arith}
use Rattle.name_index.specs.Index.{hash_of}
use Rattle.name_index.specs.HashLaws.{hash-more, hash-end}
use Rattle.name_index.proofs.hash.Goals as goal

pub loop-b-init : goal.loop-b-init
unfolding hash_of
loop-b-init c = (omega arith, refl)

pub overflow_cast-h : goal.overflow_cast-h
overflow_cast-h c = omega (arith, c.type_inv.name c.loop-b.b-index)

pub overflow_add-h : goal.overflow_add-h
overflow_add-h c = omega (arith, c.type_inv.name c.loop-b.b-index)

pub loop-b-preserved : goal.loop-b-preserved
loop-b-preserved c = (mod-lt _ (omega arith), c.loop-b.invariant.1 ∙ hash-more _ _ _ c.loop-b-test.true)

pub returns : goal.returns
returns c = sym (c.loop-b.invariant.1 ∙ hash-end _ _ _ c.loop-b-test.false)
