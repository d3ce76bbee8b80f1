-- The bits from the index on are all inside their wires just where all are.
use Rattle.std.specs.Prelude.{◌≡◌, ℕ, List, drop}
use Rattle.rules.specs.Bytes.{all}
use Rattle.admitted.specs.Admitted.{fine_bit}
use Rattle.numbers.specs.Kinds.{bit_of, bit_at}
use Rattle.wires.specs.Rows.{wires_from}
use Rattle.row_statements.proofs.wiring.all_fit.Given as goal

abbrev pub invariant-loop-code : goal.invariant-loop-code
invariant-loop-code l = (names : List ℕ) → all (λ x. fine_bit (wires_from names l.wires l.first l.count) (bit_of (bit_at x))) l.codes ≡ all (λ x. fine_bit (wires_from names l.wires l.first l.count) (bit_of (bit_at x))) (drop l.code-index l.codes)
