-- The loop's invariant: the codes of the first j places are stored.
use mathlib.Core.Path.{refl, sym, ◌∙◌}
use native.Mathlib.Omega.{arith}
use lib.ListN.{length-set}
use Rattle.tables.specs.Store.{store-none, filled, filled-end}
use Rattle.literals.specs.Codes.{word_codes}
use Rattle.literals.proofs.CodeLaws.{word-long, word_at}
use Rattle.literals.proofs.put_bits.Goals as goal

pub loop-j-init : goal.loop-j-init
loop-j-init c = (refl, sym (store-none _ _))

pub loop-j-preserved : goal.loop-j-preserved
loop-j-preserved c =
    let n = word-long c.args.k c.args.w in
    let v = c.bit_of.ensures ∙ word_at _ _ _ c.loop-j-test.true in
    (simp length-set c.loop-j.invariant.0, filled _ _ _ _ _ c.loop-j.invariant.1 _ (omega arith) v)

pub returns : goal.returns
returns c =
    let n = word-long c.args.k c.args.w in
    filled-end _ _ (word_codes c.args.k c.args.w) _ c.loop-j.j c.loop-j.invariant.1 (omega arith)
