-- `line_end` meets its contract. The invariant: from i on the line ends where it ends from `at` on.
-- Assumes nothing.
use mathlib.Core.Path.{◌≡◌}
use Rattle.scanner.specs.Class.{in_class}
use Rattle.scanner.specs.Runs.{end_of}
use Rattle.scanner.proofs.lines.line_end.Given as goal

abbrev pub invariant-loop-i : goal.invariant-loop-i
invariant-loop-i l = end_of (in_class 1 14) l.s l.at ≡ end_of (in_class 1 14) l.s l.i
