-- The word, then the number.
-- Assumes nothing.
use mathlib.Core.Path.{ap, ◌∙◌}
use Prim.Native.Nat.{ℕ}
use Rattle.rules.specs.Text.{shape_tokens, spaced}
use Rattle.rules.specs.Statements.{autoidx-stmt}
use Rattle.numbers.specs.Signed.{signed_of}
use Rattle.text.specs.Written.{written-most, written_then, written_as}
use Rattle.line_text.specs.LineLaws.{line-autoidx}
use Rattle.line_text.proofs.put_autoidx.Goals as goal

pub put_signed-requires : goal.put_signed-requires
put_signed-requires c = written-most c.put_bytes-end.ensures

pub returns : goal.returns
returns c = written_as (written_then c.put_bytes-end.ensures c.put_signed.ensures) (line-autoidx _ ∙ ap (λ (x : ℕ). spaced (shape_tokens (autoidx-stmt (signed_of x)))) c.column.ensures)

pub shape_of-out : goal.shape_of-out
shape_of-out c = (returns c).kept
