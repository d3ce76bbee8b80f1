-- A module's rows in the table of wires and in the table of statements, for any tables.
use Rattle.std.specs.Prelude.{ℕ, zero, suc, ◌+◌, ◌-◌, List, Bool, cond, eqb, leb, ltb}
use Rattle.rules.specs.Statements.{module_kind}
use Rattle.wires.specs.Rows.{column}
use Rattle.modules.specs.declared.Range.{Range}

-- how many of the first k rows pass a test of their first column, which is a wire's module or a statement's kind
unfoldable pub rows_where : (ℕ → Bool) → List ℕ → ℕ → ℕ
rows_where f t zero = 0
rows_where f t (suc k) = rows_where f t k + cond (f (column t k 0)) 1 0

-- the rows of module m's wires, of so many in all: behind those of the modules before it
unfoldable pub wire_range : List ℕ → (total m : ℕ) → Range
wire_range t total m = record { first = rows_where (λ c. ltb c m) t total; count = rows_where (λ c. eqb c m) t total }

-- how many of the first k rows are module lines; and how many stand before the module line of number m, from 0: all k if there is none
abbrev pub lines_in : List ℕ → ℕ → ℕ
lines_in rows k = rows_where (λ c. eqb c module_kind) rows k

unfoldable pub line_of : List ℕ → (k m : ℕ) → ℕ
line_of rows zero m = 0
line_of rows (suc k) m = let r = line_of rows k m in cond (leb (lines_in rows (suc k)) m) (suc k) r

-- the rows behind module m's line up to the next one; none if there is no such module
unfoldable pub row_range : List ℕ → (total m : ℕ) → Range
row_range rows total m =
    let first = cond (eqb (line_of rows total m) total) total (line_of rows total m + 1) in
    record { first = first; count = line_of rows total (suc m) - first }
