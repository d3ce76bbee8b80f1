-- `comes_before` meets its contract: the order of slices is that of the rules.
use mathlib.Core.Path.{refl, ◌∙◌}
use native.Mathlib.Omega.{arith}
use Rattle.std.specs.Ordering.{is_lt, nat_cmp}
use Rattle.std.proofs.lemmas.Bool.Decides.{nat_tests}
use Rattle.std.proofs.lemmas.Cmp.{same_from_slice_cmp}
use Rattle.rules.specs.Sorted.{before}
use Rattle.byte_order.proofs.comes_before.Goals as goal

pub returns : goal.returns
unfolding before
returns c =
    c.is_lt.ensures
    ∙ same_from_slice_cmp nat_cmp is_lt before refl (λ _ _. refl) (λ _ _. refl) (λ x y xs ys o h. grind (arith, nat_tests)) c.args.a.now c.args.b.now c.cmp.result c.cmp.ensures
