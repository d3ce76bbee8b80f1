-- The tests in the order of their numbers.
use mathlib.Core.Path.{sym, subst, ◌∙◌}
use borrow.Author.Tests.{not-true, not-false}
use Rattle.context.specs.Sizes.{exceeds}
use Rattle.context.proofs.SizeLaws.{within-limits}
use Rattle.context.specs.declared.sizes.Sizes.{Sizes}
use Rattle.judgement.specs.Judged.{Accepts}
use Rattle.judgement.proofs.PartLaws.{parts-coded, merged-none}
use Rattle.judgement.proofs.Verdicts.{taken_refused, fault-is, fault-refused, sizes-refused, accepted}
use Rattle.judgement.proofs.judge_statement.Goals as goal

pub returns-then-name_is_taken-clause-judges_as : goal.returns-then-name_is_taken-clause-judges_as
returns-then-name_is_taken-clause-judges_as c =
    let args = c.args in
    λ ss ws s o st room says. taken_refused ss args.f.now s args.names.now ws args.rows.now o
    args.statement args.place args.sums st says
    (sym c.name_is_taken.ensures ∙ c.if-name_is_taken.true)

pub uneven-requires : goal.uneven-requires
uneven-requires c =
    let args = c.args in
    let pre = c.requires in
    parts-coded args.f.now _ _ c.parts_of-parts.ensures pre.sound

pub returns-then-fault-ne0-clause-judges_as : goal.returns-then-fault-ne0-clause-judges_as
returns-then-fault-ne0-clause-judges_as c =
    let args = c.args in
    let parts-of = c.parts_of-parts in
    let name-is-taken = c.name_is_taken in
    let if2 = c.if-name_is_taken in
    let uneven = c.uneven in
    let merge = c.merge-fault in
    λ ss ws s o st room says. fault-refused ss args.f.now s args.names.now ws args.rows.now o
    args.statement args.place args.sums st says
    (sym name-is-taken.ensures ∙ if2.false) _
    (fault-is st args.statement parts-of.ensures uneven.ensures merge.ensures)
    c.if-fault-ne0.true

pub statement_sizes-requires-clause-statement_value : goal.statement_sizes-requires-clause-statement_value
statement_sizes-requires-clause-statement_value c = merged-none _ c.parts_of-parts.result _ _ c.parts_of-parts.ensures c.merge-fault.ensures c.if-fault-ne0.false

pub returns-then-within-clause-storable : goal.returns-then-within-clause-storable
returns-then-within-clause-storable c =
    let pre = c.requires in
    let parts-of = c.parts_of-parts in
    let merge = c.merge-fault in
    let if3 = c.if-fault-ne0 in
    let plus = c.plus-sums in (
      pre.sound,
      merged-none _ parts-of.result _ _ parts-of.ensures merge.ensures if3.false,
      within-limits plus.result (not-true (exceeds plus.result) (sym c.within.ensures ∙ c.if-within.true)),
    )

pub returns-then-within-clause-judges_as : goal.returns-then-within-clause-judges_as
returns-then-within-clause-judges_as c =
    let args = c.args in
    let parts-of = c.parts_of-parts in
    let name-is-taken = c.name_is_taken in
    let if2 = c.if-name_is_taken in
    let uneven = c.uneven in
    let merge = c.merge-fault in
    let if3 = c.if-fault-ne0 in
    let statement-sizes = c.statement_sizes in
    let plus = c.plus-sums in
    λ ss ws s o st room says. subst (λ (u : Sizes). Accepts ss o args.f.now s args.statement u) (sym plus.ensures)
    (accepted ss args.f.now s args.names.now ws args.rows.now o args.statement args.place
    args.sums st says (sym name-is-taken.ensures ∙ if2.false)
    (sym (fault-is st args.statement parts-of.ensures uneven.ensures merge.ensures) ∙ if3.false)
    statement-sizes.result room statement-sizes.ensures.sizes_are
    (rw plus.ensures at (not-true (exceeds plus.result) (sym c.within.ensures ∙ c.if-within.true))))

pub returns-clause-judges_as : goal.returns-clause-judges_as
returns-clause-judges_as c =
    let args = c.args in
    let parts-of = c.parts_of-parts in
    let name-is-taken = c.name_is_taken in
    let if2 = c.if-name_is_taken in
    let uneven = c.uneven in
    let merge = c.merge-fault in
    let if3 = c.if-fault-ne0 in
    let statement-sizes = c.statement_sizes in
    let plus = c.plus-sums in
    λ ss ws s o st room says. sizes-refused ss args.f.now s args.names.now ws args.rows.now o
    args.statement args.place args.sums st says
    (sym name-is-taken.ensures ∙ if2.false)
    (sym (fault-is st args.statement parts-of.ensures uneven.ensures merge.ensures) ∙ if3.false)
    statement-sizes.result room statement-sizes.ensures.sizes_are
    (rw plus.ensures at (not-false (exceeds plus.result) (sym c.within.ensures ∙ c.if-within.false)))
