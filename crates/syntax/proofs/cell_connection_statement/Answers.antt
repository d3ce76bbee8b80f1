-- The name, the signal, then the end.
use mathlib.Core.Path.{◌∙◌}
use Rattle.syntax.proofs.ShapeLaws.{left_by}
use Rattle.tokens.specs.Parts.{id_gives}
use Rattle.line_forms.specs.Forms.{name_in}
use Rattle.line_forms.proofs.LineLaws.{id_below, rows_left, no_rows}
use Rattle.syntax.proofs.Connections.{cell-connected}
use Rattle.signals.proofs.Parses.{readable-on}
use Rattle.syntax.proofs.Lines.{no_name, no-signal, named-read}
use Rattle.syntax.specs.Statements.{no-shape}
use Rattle.syntax.proofs.cell_connection_statement.Goals as goal

pub returns-in_err-name : goal.returns-in_err-name
unfolding id_gives
returns-in_err-name c =
    let e = c.in_err-name.ensures in
    left_by c.from_residual.ensures e.value e.ok_part (no-shape (no_name _ _ (rw e.ok_part at (c.id_at.ensures c.args.f.now))))

pub signal-requires-clause-readable : goal.signal-requires-clause-readable
signal-requires-clause-readable c = readable-on _ _ _ _ c.requires.ready.rows (id_below _ _ _ _ c.id_at.ensures c.in_ok-name.ensures.ok_part)

pub returns-in_err-read : goal.returns-in_err-read
unfolding id_gives
returns-in_err-read c =
    let e = c.in_err-read.ensures in
    left_by c.from_residual-in_err-read.ensures e.value e.ok_part (no-shape
    (no-signal _ _ _ (rw c.in_ok-name.ensures.ok_part at (c.id_at.ensures c.args.f.now)) (rw e.ok_part at c.signal.ensures.read)))

pub returns-then-read-tokens : goal.returns-then-read-tokens
unfolding id_gives
returns-then-read-tokens c =
    let a = rw c.in_ok-read.ensures.ok_part at c.signal.ensures.read in
    no-shape
    (named-read _ _ _ (rw c.in_ok-name.ensures.ok_part at (c.id_at.ensures c.args.f.now)) _ _ a.3.is ∙ rows_left _ _ _ _ c.if-read-tokens.true)

pub returns : goal.returns
unfolding id_gives name_in
returns c =
    let a = rw c.in_ok-read.ensures.ok_part at c.signal.ensures.read in
    rw (
      named-read _ _ _ (rw c.in_ok-name.ensures.ok_part at (c.id_at.ensures c.args.f.now)) _ _ a.3.is
          ∙ no_rows _ _ _ _ c.if-read-tokens.false,
      c.refused.ensures,
    ) (cell-connected _ _ _ _ a.3.sig _ a.3.held)
