-- `sizes::kind_sizes` meets its contract.
use mathlib.Core.Path.{◌≡◌, ap, ◌∙◌}
use mathlib.Core.Bool.{Bool, cond, ◌||◌}
use borrow.Author.Tests.{eq-eqb, ne_eqb}
use lib.Dec.{eqb}
use Rattle.context.specs.Sizes.{kind_sizes}
use Rattle.context.proofs.KindLaws.{from-test}
use Rattle.context.proofs.sizes.kind_sizes.Goals as goal
use Rattle.context.proofs.sizes.kind_sizes.Goals.{then-kind-eq-PARAMETER_KIND, else-kind-eq-PARAMETER_KIND}

pub returns : goal.returns
unfolding kind_sizes
returns c =
    let parameter : c.if-kind-eq-PARAMETER_KIND.from ≡ eqb c.args.kind 4 || eqb c.args.kind 8 = elim c.if-kind-eq-PARAMETER_KIND.branch [
      | then-kind-eq-PARAMETER_KIND w ↦ w.from-is ∙ rw (eq-eqb _ _ w.if-kind-eq-PARAMETER_KIND.true)
      | else-kind-eq-PARAMETER_KIND w ↦ w.from-is ∙ rw (ne_eqb _ _ w.if-kind-eq-PARAMETER_KIND.false)
    ] in
    λ i.
    record {
      modules = (c.from.ensures ∙ from-test _) i;
      wires = (c.from-2.ensures ∙ from-test _) i;
      memories = (c.from-3.ensures ∙ from-test _) i;
      cells = (c.from-4.ensures ∙ from-test _) i;
      parameters = (c.from-5.ensures ∙ from-test _ ∙ ap (λ (b : Bool). cond b 1 0) parameter) i;
      attributes = (c.from-6.ensures ∙ from-test _) i;
      ports = (c.from-7.ensures ∙ from-test _) i;
      connections = (c.from-8.ensures ∙ from-test _) i;
      processes = (c.from-9.ensures ∙ from-test _) i;
      steps = (c.from-10.ensures ∙ from-test _) i;
      step_signals = c.pick.ensures i;
      signal_bits = c.args.signal_bits;
      value_bits = c.args.value_bits;
      string_bytes = c.args.string_bytes;
      name_bytes = c.args.name_bytes;
    }
