-- By the options and the port.
use mathlib.Core.Path.{◌∙◌}
use Rattle.syntax.proofs.ShapeLaws.{left_by}
use Rattle.line_forms.specs.Forms.{kind_of, name_in}
use Rattle.syntax.proofs.Objects.{port-free, port-new, wire-bad, port-bad, wire-stated}
use Rattle.syntax.specs.Statements.{no-shape}
use Rattle.syntax.proofs.wire_statement.Goals as goal
use Rattle.syntax.proofs.wire_statement.Goals.{else-rules-gt-MOST_PLAIN_FLAGS-via-then-rules-gt-MOST_PLAIN_FLAGS+else-port_taken, else-rules-gt-MOST_PLAIN_FLAGS-via-else-rules-gt-MOST_PLAIN_FLAGS}

pub returns-in_err-line : goal.returns-in_err-line
unfolding kind_of name_in
returns-in_err-line c names s =
    let e = c.in_err-line.ensures in
    left_by c.from_residual.ensures e.value e.ok_part (no-shape (rw e.ok_part at (c.wire_line.ensures c.args.f.now)))

pub returns-in_err-rules : goal.returns-in_err-rules
unfolding kind_of name_in
returns-in_err-rules c names s =
    let e = c.in_err-rules.ensures in
    let g = rw c.in_ok-line.ensures.ok_part at (c.wire_line.ensures c.args.f.now) in
    left_by c.from_residual-in_err-rules.ensures e.value e.ok_part (rw g.1 (wire-bad _ _ s g.0 _ (rw e.ok_part at (c.wire_rules.ensures g.0 g.2))))

pub returns-then-port_taken : goal.returns-then-port_taken
unfolding kind_of name_in
returns-then-port_taken c names s =
    let g = rw c.in_ok-line.ensures.ok_part at (c.wire_line.ensures c.args.f.now) in
    let w = rw c.in_ok-rules.ensures.ok_part at (c.wire_rules.ensures g.0 g.2) in
    rw g.1 (port-bad _ _ s g.0 _ w.good (port-new _ g.0 w c.if-rules-gt-MOST_PLAIN_FLAGS.true ∙ rw (← c.port_taken.ensures names, c.if-port_taken.true)))

pub returns : goal.returns
unfolding kind_of name_in
returns c names s =
    let g = rw c.in_ok-line.ensures.ok_part at (c.wire_line.ensures c.args.f.now) in
    let w = rw c.in_ok-rules.ensures.ok_part at (c.wire_rules.ensures g.0 g.2) in
    rw g.1
    (wire-stated _ _ s g.0 _ w
    (elim c.else-rules-gt-MOST_PLAIN_FLAGS.branch [
      | else-rules-gt-MOST_PLAIN_FLAGS-via-then-rules-gt-MOST_PLAIN_FLAGS+else-port_taken b ↦
          port-new _ g.0 w b.if-rules-gt-MOST_PLAIN_FLAGS.true ∙ rw (← b.port_taken.ensures names, b.if-port_taken.false)
      | else-rules-gt-MOST_PLAIN_FLAGS-via-else-rules-gt-MOST_PLAIN_FLAGS b ↦ port-free _ g.0 w b.if-rules-gt-MOST_PLAIN_FLAGS.false
    ]))
