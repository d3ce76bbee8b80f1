-- The loop's invariant: what is found so far and what the bytes from i on tell is what all of them tell.
use mathlib.Core.Path.{◌≡◌}
use mathlib.Core.Bool.{◌&&◌}
use lib.ListN.{drop}
use Rattle.rules.specs.Bytes.{all}
use Rattle.constant_text.specs.Plain.{plain}
use Rattle.constant_text.proofs.all_plain.Given as goal

abbrev pub invariant-loop-b : goal.invariant-loop-b
invariant-loop-b l = (l.good && all plain (drop l.b-index l.s)) ≡ all plain l.s
