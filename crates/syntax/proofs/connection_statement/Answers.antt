-- Both signals, then the end.
use mathlib.Core.Path.{◌∙◌}
use native.Mathlib.Omega.{arith}
use Rattle.syntax.proofs.ShapeLaws.{left_by}
use Rattle.line_forms.proofs.LineLaws.{rows_left, no_rows}
use Rattle.syntax.proofs.Bits.{held_kept}
use Rattle.syntax.proofs.Lines.{no-left, no-right, both_read}
use Rattle.syntax.specs.Statements.{no-shape}
use Rattle.syntax.proofs.connection_statement.Goals as goal

pub returns-in_err-left : goal.returns-in_err-left
returns-in_err-left c =
    let e = c.in_err-left.ensures in
    left_by c.from_residual.ensures e.value e.ok_part (no-shape (no-left _ _ (rw e.ok_part at c.signal.ensures.read)))

pub returns-in_err-right : goal.returns-in_err-right
returns-in_err-right c =
    let e = c.in_err-right.ensures in
    let a = rw c.in_ok-left.ensures.ok_part at c.signal.ensures.read in
    left_by c.from_residual-in_err-right.ensures e.value e.ok_part (no-shape (no-right _ _ _ _ a.3.is (rw e.ok_part at c.signal-2.ensures.read)))

pub returns-then-right-tokens : goal.returns-then-right-tokens
returns-then-right-tokens c =
    let a = rw c.in_ok-left.ensures.ok_part at c.signal.ensures.read in
    let b = rw c.in_ok-right.ensures.ok_part at c.signal-2.ensures.read in
    no-shape (both_read _ _ _ _ a.3.is _ _ b.3.is ∙ rows_left _ _ _ _ c.if-right-tokens.true)

pub returns : goal.returns
returns c =
    let a = rw c.in_ok-left.ensures.ok_part at c.signal.ensures.read in
    let b = rw c.in_ok-right.ensures.ok_part at c.signal-2.ensures.read in
    rw (both_read _ _ _ _ a.3.is _ _ b.3.is ∙ no_rows _ _ _ _ c.if-right-tokens.false)
    (c.connected.ensures _ _ _ _ _ (held_kept _ _ 0 2048 _ _ _ (omega arith) c.signal-2.ensures.kept.below a.3.held) b.3.held)
