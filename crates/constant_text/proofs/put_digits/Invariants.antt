-- The loop's invariant: the digits from i on are written, the highest first.
use Prim.Native.Nat.{◌≤◌}
use mathlib.Core.List.{map, reverse}
use lib.ListN.{length, drop}
use Rattle.rules.specs.Text.{digit_byte}
use Rattle.numbers.specs.Kinds.{digit_of}
use Rattle.text.specs.Written.{Written}
use Rattle.constant_text.proofs.put_digits.Given as goal

abbrev pub invariant-loop-i : goal.invariant-loop-i
invariant-loop-i l = (l.i ≤ length l.bits) × Written l.at (map digit_byte (reverse (map digit_of (drop l.i l.bits)))) l.initial.out l.out l.end
