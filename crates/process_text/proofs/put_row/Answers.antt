-- The rows from the first attribute on, or none.
-- Assumes nothing.
use mathlib.Core.Path.{◌≡◌}
use mathlib.Core.Bool.{cond}
use lib.Dec.{eqb}
use borrow.Author.Tests.{eq-eqb, ne_eqb}
use Rattle.text.specs.Written.{written_none, written_as}
use Rattle.process_text.specs.RowLaws.{row-waits, row_written}
use Rattle.process_text.proofs.put_row.Goals as goal
use Rattle.process_text.proofs.put_row.Goals.{else-kind-eq-END_KIND, then-kind-eq-END_KIND}

pub returns-then-kind-eq-ATTRIBUTE_KIND : goal.returns-then-kind-eq-ATTRIBUTE_KIND
returns-then-kind-eq-ATTRIBUTE_KIND c =
    let args = c.args in
    let pre = c.requires in
    written_as (written_none args.at args.out.now pre.0) (row-waits _ _ _ _ _ _ c.if-kind-eq-ATTRIBUTE_KIND.true)

pub returns : goal.returns
returns c =
    let args = c.args in
    let if2 = c.if-kind-eq-END_KIND in
    let e : if2.from ≡ cond (eqb args.kind 12) args.k args.first =
    (elim if2.branch [ then-kind-eq-END_KIND w ↦ rw (eq-eqb args.kind 12 w.if-kind-eq-END_KIND.true) w.from-is | else-kind-eq-END_KIND w ↦ rw (ne_eqb args.kind 12 w.if-kind-eq-END_KIND.false) w.from-is ]) in
    written_as c.put_rows.ensures (row_written _ _ _ _ _ _ if2.from e c.if-kind-eq-ATTRIBUTE_KIND.false)

pub shape_of-out : goal.shape_of-out
shape_of-out c = (returns c).kept
