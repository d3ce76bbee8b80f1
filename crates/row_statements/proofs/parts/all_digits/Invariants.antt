-- The codes so far are all of digits, or not.
use Rattle.std.specs.Prelude.{◌≡◌, take}
use Rattle.rules.specs.Bytes.{all}
use Rattle.row_statements.specs.Parts.{is_digit}
use Rattle.row_statements.proofs.parts.all_digits.Given as goal

abbrev pub invariant-loop-code : goal.invariant-loop-code
invariant-loop-code l = l.good ≡ all is_digit (take l.code-index l.codes)
