-- The statement that a row of the table of statements stands for, over the tables of names, strings, bits and wires. Decoding is total: a word past a
-- table's end counts as 0, and a span past its end is cut.
use Rattle.std.specs.Prelude.{ℕ, ◌+◌, List, map, cond, eqb}
use Rattle.std.proofs.Math.Option
use Rattle.std.proofs.Math.Option.{Option, none, some}
use Rattle.rules.specs.Layout.{value_constant, integer_constant}
use Rattle.rules.specs.Statements.{Sort, Constant, value, integer, string, Signal, Memory, Statement, autoidx-stmt, attr-stmt, module-stmt, param-stmt, wire-stmt, memory-stmt, cell-stmt, cell-param-stmt, cell-conn-stmt, conn-stmt, proc-stmt, step-stmt, end-stmt}
use Rattle.numbers.specs.Kinds.{digit_of, signal_of, sort_of}
use Rattle.numbers.specs.Signed.{signed_of}
use Rattle.wires.specs.Rows.{column, span_at, wire_of}
use Rattle.netlist.specs.Rows.{kind_at, name_from}
use Rattle.netlist.specs.Steps.{step_named, signals_at}

-- the constant of three columns: its kind, 1 a value, 2 an integer, else a string; then its span, or the integer
unfoldable pub constant_at : (strings bits rows : List ℕ) → (row c : ℕ) → Constant
constant_at strings bits rows k c =
    cond (eqb (column rows k c) value_constant) (value (map digit_of (span_at bits rows k (c + 1))))
    (cond (eqb (column rows k c) integer_constant) (integer (signed_of (column rows k (c + 1)))) (string (span_at strings rows k (c + 1))))

-- kind 0: a parameter without a constant
unfoldable pub optional_at : (strings bits rows : List ℕ) → (row c : ℕ) → Option Constant
optional_at strings bits rows k c = cond (eqb (column rows k c) 0) none (some (constant_at strings bits rows k c))

unfoldable pub signal_at : (bits rows : List ℕ) → (row c : ℕ) → Signal
signal_at bits rows k c = signal_of (span_at bits rows k c)

unfoldable pub memory_at : (rows : List ℕ) → (row : ℕ) → Memory
memory_at rows k = record { width = column rows k 3; size = column rows k 4; offset = signed_of (column rows k 5) }

unfoldable pub sort_at : (rows : List ℕ) → (row c : ℕ) → Sort
sort_at rows k c = sort_of (column rows k c)

-- by the kind in the first column; above 13 there is none, nor of kind 13 where the code names no step
module _ (names strings bits wires rows : List ℕ) (k : ℕ) where
  unfoldable pub statement_by : ℕ → Option Statement
  statement_by n =
      cond (eqb n 1) (some (autoidx-stmt (signed_of (column rows k 1))))
      (cond (eqb n 2) (some (attr-stmt (name_from names rows k 1) (constant_at strings bits rows k 3)))
      (cond (eqb n 3) (some (module-stmt (name_from names rows k 1)))
      (cond (eqb n 4) (some (param-stmt (name_from names rows k 1) (optional_at strings bits rows k 3)))
      (cond (eqb n 5) (some (wire-stmt (wire_of wires (column rows k 3)) (name_from names rows k 1)))
      (cond (eqb n 6) (some (memory-stmt (memory_at rows k) (name_from names rows k 1)))
      (cond (eqb n 7) (some (cell-stmt (name_from names rows k 1) (name_from names rows k 3)))
      (cond (eqb n 8) (some (cell-param-stmt (sort_at rows k 6) (name_from names rows k 1) (constant_at strings bits rows k 3)))
      (cond (eqb n 9) (some (cell-conn-stmt (name_from names rows k 1) (signal_at bits rows k 3)))
      (cond (eqb n 10) (some (conn-stmt (signal_at bits rows k 1) (signal_at bits rows k 3)))
      (cond (eqb n 11) (some (proc-stmt (name_from names rows k 1)))
      (cond (eqb n 12) (some end-stmt)
      (cond (eqb n 13) (Option.map (λ p. step-stmt p (signals_at bits rows k)) (step_named (column rows k 1))) none))))))))))))

  unfoldable pub statement_at : Option Statement
  statement_at = statement_by (kind_at rows k)
