-- A name is no longer than the file.
use mathlib.Core.Path.{ap}
use lib.ListN.{length}
use Rattle.line_forms.specs.Forms.{name_in}
use Rattle.judgement.proofs.span_size.Goals as goal

pub returns : goal.returns
unfolding name_in
returns c = ap length c.part.ensures
