-- `legal` meets its contract.
use mathlib.Core.Path.{sym, ◌∙◌}
use Rattle.std.proofs.Common.{rules, tests, nat_lt}
use native.Mathlib.Omega.{arith}
use Rattle.std.proofs.lemmas.Iterator.{YieldsList-from_slice}
use Rattle.std.proofs.lemmas.Slice.{between_to_end}
use Rattle.std.proofs.lemmas.Iterator.Search.{all_from_yields_List}
use Rattle.names.proofs.NameLaws.{legal-few, legal-many, legal-start, legal-bytes}
use Rattle.names.proofs.legal.Goals as goal

pub returns-then-n-lt-SHORTEST_NAME : goal.returns-then-n-lt-SHORTEST_NAME
returns-then-n-lt-SHORTEST_NAME c = sym (legal-few _ c.if-n-lt-SHORTEST_NAME.true)

pub returns-then-n-gt-LONGEST_NAME : goal.returns-then-n-gt-LONGEST_NAME
returns-then-n-gt-LONGEST_NAME c = sym (legal-many _ c.if-n-gt-LONGEST_NAME.true)

pub returns-then-starts_name : goal.returns-then-starts_name
returns-then-starts_name c =
    all_from_yields_List (λ b. nat_lt 32 b) _ _ _ c.all.ensures.ran (YieldsList-from_slice _ (c.iter.ensures.rest ∙ between_to_end c.args.n.now 1 _ (omega arith))) (λ x b q k. search (rules, tests))
    ∙ legal-bytes _ c.if-n-lt-SHORTEST_NAME.false c.if-n-gt-LONGEST_NAME.false (sym c.if-starts_name.ensures) (λ i. omega (arith, c.type_inv.n i))

pub returns-else-starts_name : goal.returns-else-starts_name
returns-else-starts_name c = c.if-starts_name.false ∙ sym (legal-start _ c.if-n-lt-SHORTEST_NAME.false c.if-n-gt-LONGEST_NAME.false (sym c.if-starts_name.ensures))
