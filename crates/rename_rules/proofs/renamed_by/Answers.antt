-- One rename row more.
-- Assumes nothing.
use mathlib.Core.Path.{sym, ◌∙◌}
use native.Mathlib.Omega.{arith}
use borrow.Author.Tests.{not-true, not-false}
use Rattle.rename_rules.proofs.RenamedLaws.{renamed-behind, renamed-other, renamed-again, renamed-here}
use Rattle.rename_rules.proofs.renamed_by.Goals as goal

pub returns-then-least-wire : goal.returns-then-least-wire
returns-then-least-wire c = renamed-behind _ _ _ c.column-wire.ensures c.requires.renamed c.if-least-wire.true

pub returns-then-not-same_bytes : goal.returns-then-not-same_bytes
returns-then-not-same_bytes c = renamed-other _ _ _ c.column-wire.ensures c.requires.renamed _ c.bytes_at.ensures (sym c.same_bytes.ensures ∙ not-true _ c.if-not-same_bytes.true-raw)

pub returns-then-last_rename-i : goal.returns-then-last_rename-i
returns-then-last_rename-i c = renamed-again _ _ _ c.column-wire.ensures c.requires.renamed _ c.last_rename.ensures c.if-last_rename-i.true

pub returns : goal.returns
returns c =
    let pre = c.requires in
    let column = c.column-wire in
    let if1 = c.if-least-wire in
    let bytes-at = c.bytes_at in
    let same_bytes = c.same_bytes in
    let if2 = c.if-not-same_bytes in
    renamed-here _ _ _ column.ensures pre.renamed (omega (arith, if1.false)) _ bytes-at.ensures
    (sym same_bytes.ensures ∙ not-false _ if2.false-raw) _ c.last_rename.ensures c.if-last_rename-i.false
