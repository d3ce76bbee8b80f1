-- A row of the layout holds its statement's kind and own name.
-- Assumes nothing.
use Rattle.std.specs.Prelude.{ℕ, ◌+◌, ◌≤◌, ◌≡◌, true}
use Rattle.std.proofs.Math.Path.{refl}
use Rattle.std.proofs.Common.{ap, ◌∙◌, arith, length-append}
use mathlib.Core.List.{List, [], ◌∷◌, ◌++◌, flat_map, append-nil}
use Rattle.std.proofs.Math.Option.{none, some, Option-elim}
use Rattle.std.proofs.Math.ListN.{length}
use Rattle.rules.specs.Bytes.{any}
use Rattle.rules.specs.Tokens.{Name}
use Rattle.rules.specs.Statements.{Statement, Constant, value, integer, string, autoidx-stmt, attr-stmt, module-stmt, param-stmt, wire-stmt, memory-stmt, cell-stmt, cell-param-stmt, cell-conn-stmt, conn-stmt, proc-stmt, step-stmt, end-stmt, code, holds, contents, own_name}
use Rattle.rules.specs.Layout.{Used, padded, row, name_bytes, constant_columns, columns, statement_row}
use Rattle.tables.specs.Padded.{length-row}
use Rattle.wires.specs.Rows.{column}
use Rattle.wires.specs.RowLaws.{RowIs, span-has}
use Rattle.netlist.specs.Rows.{kind_at, name_column, name_from, name_at}
use Rattle.netlist.specs.Kinds.{of_kinds, has_name}
use Rattle.netlist.specs.Spans.{Has, has-second}

-- a row has eight columns
length-constant : (u : Used) (c : Constant) → length (constant_columns u c) ≡ 3
unfolding constant_columns
length-constant u (value ds) = refl
length-constant u (integer i) = refl
length-constant u (string s) = refl

length-columns : (u : Used) (s : Statement) → length (columns u s) ≤ 7
unfolding columns Option-elim
length-columns u (autoidx-stmt i) = omega arith
length-columns u (attr-stmt n c) = omega (arith, length-constant u c)
length-columns u (module-stmt n) = omega arith
length-columns u (param-stmt n none) = omega arith
length-columns u (param-stmt n (some c)) = omega (arith, length-constant u c)
length-columns u (wire-stmt w n) = omega arith
length-columns u (memory-stmt m n) = omega arith
length-columns u (cell-stmt t n) = omega arith
length-columns u (cell-param-stmt o n c) = simp length-append (omega (arith, length-constant u c))
length-columns u (cell-conn-stmt n s) = omega arith
length-columns u (conn-stmt s t) = omega arith
length-columns u (proc-stmt n) = omega arith
length-columns u (step-stmt p xs) = omega arith
length-columns u end-stmt = omega arith

pub length-statement-row : (u : Used) (s : Statement) → length (statement_row u s) ≡ 8
unfolding statement_row
length-statement-row u s = length-row (code (contents s).kind ∷ columns u s) (omega (arith, length-columns u s))

pub row-kind : (t : List ℕ) (k : ℕ) (u : Used) (s : Statement) → RowIs t k (statement_row u s) → kind_at t k ≡ code (contents s).kind
unfolding kind_at statement_row row padded
row-kind t k u s h = h 0 (omega arith)

-- a name that stands where the columns of its kind say, and one that starts at the second column
module _ (names t : List ℕ) (k : ℕ) (n : Name) where
  named-at : (c at : ℕ) → name_column (kind_at t k) ≡ c → column t k c ≡ at → column t k (c + 1) ≡ length n → Has names at n → name_at names t k ≡ n
  unfolding name_from name_at Has
  named-at c at ec ea en e = rw ec (span-has names t k c at n ea en e)

  first-name : (kind at : ℕ) (rest : List ℕ) → RowIs t k (row (kind ∷ at ∷ length n ∷ rest)) → name_column kind ≡ 1 → Has names at (n ++ []) → name_at names t k ≡ n
  unfolding row padded kind_at
  first-name kind at rest h ek e = named-at 1 at (ap name_column (h 0 (omega arith)) ∙ ek) (h 1 (omega arith)) (h 2 (omega arith)) (rw append-nil at e)

  -- a cell's type stands before its name
  second-name : (y : Name) (at : ℕ) → RowIs t k (row (7 ∷ at ∷ length y ∷ (at + length y) ∷ length n ∷ [])) → Has names at (y ++ (n ++ [])) → name_at names t k ≡ n
  unfolding row padded kind_at name_column
  second-name y at h e =
      named-at 3 (at + length y) (rw (h 0 (omega arith))) (h 3 (omega arith)) (h 4 (omega arith)) (has-second names at y n (at + length y) refl (rw append-nil at e))

pub row-own :
    (names t : List ℕ) (k : ℕ) (u : Used) (s : Statement) → RowIs t k (statement_row u s) → has_name (code (contents s).kind) ≡ true →
    Has names u.names (name_bytes s) → name_at names t k ≡ own_name (contents s).names
unfolding statement_row columns code holds contents own_name name_bytes flat_map name_column has_name of_kinds any
row-own names t k u (autoidx-stmt i) h e p = cc
row-own names t k u (attr-stmt n c) h e p = first-name names t k n _ _ _ h refl p
row-own names t k u (module-stmt n) h e p = first-name names t k n _ _ _ h refl p
row-own names t k u (param-stmt n c) h e p = first-name names t k n _ _ _ h refl p
row-own names t k u (wire-stmt w n) h e p = first-name names t k n _ _ _ h refl p
row-own names t k u (memory-stmt m n) h e p = first-name names t k n _ _ _ h refl p
row-own names t k u (cell-stmt y n) h e p = second-name names t k n y _ h p
row-own names t k u (cell-param-stmt o n c) h e p = first-name names t k n _ _ _ h refl p
row-own names t k u (cell-conn-stmt n s) h e p = first-name names t k n _ _ _ h refl p
row-own names t k u (conn-stmt s r) h e p = cc
row-own names t k u (proc-stmt n) h e p = first-name names t k n _ _ _ h refl p
row-own names t k u (step-stmt q xs) h e p = cc
row-own names t k u end-stmt h e p = cc

-- a column 0 behind a constant's is padding
pub row_zero : (u : Used) (c : Constant) (kind a b : ℕ) → row (kind ∷ a ∷ b ∷ constant_columns u c ++ 0 ∷ []) ≡ row (kind ∷ a ∷ b ∷ constant_columns u c)
unfolding row padded constant_columns
row_zero u (value ds) kind a b = refl
row_zero u (integer i) kind a b = refl
row_zero u (string s) kind a b = refl
