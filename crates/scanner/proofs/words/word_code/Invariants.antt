-- `word_code` meets its contract. The invariant: n is the code of the bytes from i on.
-- Assumes nothing.
use mathlib.Core.Path.{◌≡◌}
use Prim.Native.Nat.{◌≤◌}
use lib.ListN.{length, drop}
use Rattle.scanner.specs.Words.{word_code}
use Rattle.scanner.proofs.words.word_code.Given as goal

abbrev pub invariant-loop-i : goal.invariant-loop-i
invariant-loop-i l = (l.i ≤ length l.w) × (l.n ≡ word_code (drop l.i l.w))
