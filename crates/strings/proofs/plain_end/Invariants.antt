-- The loop has reached `i`, and the run of plain bytes ends where it ends from `at` on.
use mathlib.Core.Path.{◌≡◌}
use Rattle.scanner.specs.Runs.{end_of}
use Rattle.strings.specs.Decoded.{is_plain}
use Rattle.strings.proofs.plain_end.Given as goal

abbrev pub invariant-loop-i : goal.invariant-loop-i
invariant-loop-i l = end_of is_plain l.s l.at ≡ end_of is_plain l.s l.i
