-- The loop's invariant: the codes of the first j digits are stored.
use mathlib.Core.Path.{refl, sym, ◌∙◌}
use native.Mathlib.Omega.{arith}
use Prim.Native.Nat.{◌-◌}
use lib.ListN.{length, length-drop, length-set, length-map}
use lib.Seq.{length-take-le}
use Rattle.lists.specs.Lists.{map_at}
use Rattle.tables.specs.Store.{store-none, filled, filled-end}
use Rattle.literals.proofs.CodeLaws.{stored-filled, value-codes}
use Rattle.literals.proofs.put_digits.Goals as goal

pub loop-j-init : goal.loop-j-init
loop-j-init c = (refl, sym (store-none _ _))

pub loop-j-preserved : goal.loop-j-preserved
loop-j-preserved c =
    let v = c.digit_code.ensures ∙ sym (map_at _ c.args.ds.now c.loop-j.j 0 0 c.loop-j-test.true) in
    (simp length-set c.loop-j.invariant.0, filled _ _ _ _ _ c.loop-j.invariant.1 _ (rw length-map c.loop-j-test.true) v)

pub returns : goal.returns
returns c =
    let ds = c.args.ds.now in
    let fills = c.args.width - length ds in
    rw (value-codes c.args.width ds, ← c.filler_code.ensures)
    (filled-end _ _ _ _ _ c.loop-j.invariant.1 (rw length-map c.loop-j-test.false)
    ∙ stored-filled c.filler_code.result fills ds _ _ c.args.at _ _ (c.fill.ensures.after (λ y h. h))
    (length-take-le _ _ (omega (arith, length-drop c.args.at c.args.out.now)) ∙ omega arith) (omega arith) (omega arith))
