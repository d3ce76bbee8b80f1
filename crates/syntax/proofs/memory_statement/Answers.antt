-- By the options.
use Rattle.syntax.proofs.ShapeLaws.{left_by}
use Rattle.line_forms.specs.Forms.{kind_of, name_in}
use Rattle.syntax.proofs.Objects.{memory-bad, memory-stated}
use Rattle.syntax.specs.Statements.{no-shape}
use Rattle.syntax.proofs.memory_statement.Goals as goal

pub returns-in_err-line : goal.returns-in_err-line
unfolding kind_of name_in
returns-in_err-line c ws s =
    let e = c.in_err-line.ensures in
    left_by c.from_residual.ensures e.value e.ok_part (no-shape (rw e.ok_part at (c.memory_line.ensures c.args.f.now)))

pub returns-in_err-rules : goal.returns-in_err-rules
unfolding kind_of name_in
returns-in_err-rules c ws s =
    let e = c.in_err-rules.ensures in
    let g = rw c.in_ok-line.ensures.ok_part at (c.memory_line.ensures c.args.f.now) in
    left_by c.from_residual-in_err-rules.ensures e.value e.ok_part (rw g.1 (memory-bad ws _ s g.0 _ (rw e.ok_part at (c.memory_rules.ensures g.0 g.2))))

pub returns : goal.returns
unfolding kind_of name_in
returns c ws s =
    let g = rw c.in_ok-line.ensures.ok_part at (c.memory_line.ensures c.args.f.now) in
    rw g.1 (memory-stated ws _ s g.0 _ (rw c.in_ok-rules.ensures.ok_part at (c.memory_rules.ensures g.0 g.2)))
