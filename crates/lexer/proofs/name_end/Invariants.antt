-- The invariant: from i on the name ends where it ends from p on.
-- Assumes nothing.
use mathlib.Core.Path.{◌≡◌}
use Rattle.scanner.specs.Class.{in_class}
use Rattle.scanner.specs.Runs.{end_of}
use Rattle.lexer.proofs.name_end.Given as goal

abbrev pub invariant-loop-i : goal.invariant-loop-i
invariant-loop-i l = end_of (in_class 4 14) l.s l.p ≡ end_of (in_class 4 14) l.s l.i
