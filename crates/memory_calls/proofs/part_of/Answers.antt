use Rattle.std.proofs.Common.{sym, ap, subst, ◌∙◌}
use Rattle.std.specs.Prelude.{Ok}
use Rattle.memory_calls.specs.Given.{part_of, Ordered}
use Rattle.memory_calls.proofs.part_of.Goals as goal

pub overflow_sub-result : goal.overflow_sub-result
overflow_sub-result c =
    let lies = rw c.in-Ok-Name.is at c.in-Ok-Name.field-0-is in
    subst Ordered (c.in-Ok-Name.is ∙ ap Ok lies) c.requires

pub overflow_sub-result-in-Ok-Text : goal.overflow_sub-result-in-Ok-Text
overflow_sub-result-in-Ok-Text c =
    let lies = rw c.in-Ok-Text.is at c.in-Ok-Text.field-0-is in
    subst Ordered (c.in-Ok-Text.is ∙ ap Ok lies) c.requires

pub returns-in-Ok-Name : goal.returns-in-Ok-Name
unfolding part_of
returns-in-Ok-Name c =
    let lies = rw c.in-Ok-Name.is at c.in-Ok-Name.field-0-is in
    sym (ap part_of (c.in-Ok-Name.is ∙ ap Ok lies))

pub returns-in-Ok-Text : goal.returns-in-Ok-Text
unfolding part_of
returns-in-Ok-Text c =
    let lies = rw c.in-Ok-Text.is at c.in-Ok-Text.field-0-is in
    sym (ap part_of (c.in-Ok-Text.is ∙ ap Ok lies))

pub returns-in-Err : goal.returns-in-Err
unfolding part_of
returns-in-Err c = rw c.in-Err.is
