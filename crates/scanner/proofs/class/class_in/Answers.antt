-- `class_in` meets its contract: what stands in the table of classes.
-- Assumes nothing.
use mathlib.Core.Path.{ap, ◌∙◌}
use mathlib.Core.List.{List}
use Prim.Native.Nat.{ℕ, ◌<◌}
use lib.ListN.{get_or}
use borrow.Author.Rules.{rules}
use Rattle.scanner.proofs.ClassLaws.{class-at}
use Rattle.scanner.proofs.class.class_in.Goals as goal

pub returns : goal.returns
returns c =
    let h : c.args.b < 256 = search rules in
    ap (λ (l : List ℕ). get_or l c.args.b 0) c.requires ∙ class-at c.args.b h
