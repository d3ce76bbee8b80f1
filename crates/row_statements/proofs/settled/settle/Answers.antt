use Rattle.std.specs.Prelude.{◌≡◌, Bool, true, false, cond, Some, None}
use Rattle.std.specs.Bool.{then_some}
use Rattle.std.proofs.Common.{refl, ◌∙◌}
use Rattle.row_statements.proofs.settled.settle.Goals as goal

by_test : {A : Type 0} (b : Bool) (x : A) → then_some b x ≡ cond b (Some x) None
by_test true x = refl
by_test false x = refl

pub returns : goal.returns
returns c = rw (← c.same_row.ensures) (c.then_some.ensures ∙ by_test _ _)
