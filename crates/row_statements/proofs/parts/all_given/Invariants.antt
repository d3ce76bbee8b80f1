-- The bytes so far are all from 1 to 255, or not.
use Rattle.std.specs.Prelude.{◌≡◌, take}
use Rattle.rules.specs.Bytes.{all, within}
use Rattle.row_statements.proofs.parts.all_given.Given as goal

abbrev pub invariant-loop-byte : goal.invariant-loop-byte
invariant-loop-byte l = l.good ≡ all (within 1 255) (take l.byte-index l.bytes)
