-- The statements' kinds and own names that the rows of a table of words hold, eight columns a row, over a table of names. A word past the table's end
-- counts as 0, and a name's span past the names' end is cut.
use Rattle.std.specs.Prelude.{ℕ, zero, suc, ◌+◌, List, [], ◌∷◌, Bool, cond, eqb}
use Rattle.rules.specs.Statements.{cell_kind}
use Rattle.rules.specs.Tokens.{Name}
use Rattle.wires.specs.Rows.{column, span_at}

unfoldable pub kind_at : List ℕ → ℕ → ℕ
kind_at rows k = column rows k 0

-- the column where a name's start stands: of a cell, whose code is 7, behind its type's
unfoldable pub name_column : ℕ → ℕ
name_column kind = cond (eqb kind cell_kind) 3 1

unfoldable pub name_from : List ℕ → List ℕ → (row first : ℕ) → Name
name_from names rows k c = span_at names rows k c

unfoldable pub name_at : List ℕ → List ℕ → ℕ → Name
name_at names rows k = name_from names rows k (name_column (kind_at rows k))

-- the own names of count rows from a row on whose kind passes a test, the last one first
unfoldable pub names_between : (names rows : List ℕ) → (test : ℕ → Bool) → (from count : ℕ) → List Name
names_between names rows test from zero = []
names_between names rows test from (suc k) =
    let r = names_between names rows test from k in
    cond (test (kind_at rows (from + k))) (name_at names rows (from + k) ∷ r) r
