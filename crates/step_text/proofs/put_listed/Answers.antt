-- The signal, and the comma if there is one.
-- Assumes nothing.
use mathlib.Core.Path.{sym}
use mathlib.Core.List.{append-nil}
use Rattle.text.specs.Written.{written-most, written_then, written_as}
use Rattle.step_text.specs.StepLaws.{gap_text}
use Rattle.step_text.proofs.put_listed.Goals as goal

pub put_bytes-requires : goal.put_bytes-requires
put_bytes-requires c = written-most c.put_signal-end.ensures

pub returns-then-comma : goal.returns-then-comma
unfolding gap_text
returns-then-comma c = written_as (written_then c.put_signal-end.ensures c.put_bytes.ensures) (rw c.if-comma.true)

pub shape_of-out-then-comma : goal.shape_of-out-then-comma
shape_of-out-then-comma c = (returns-then-comma c).kept

pub returns : goal.returns
unfolding gap_text
returns c = written_as c.put_signal-end.ensures (rw c.if-comma.false (sym (append-nil _)))

pub shape_of-out : goal.shape_of-out
shape_of-out c = (returns c).kept
