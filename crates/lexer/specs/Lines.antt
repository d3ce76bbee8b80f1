-- The tokens of a line in the rows of a table.
use Rattle.std.specs.Prelude.{ℕ, ◌-◌, ◌*◌, ◌≤◌, ◌<◌, ◌≡◌, List, length, take, Result, Ok, Err}
use Rattle.std.proofs.Math.Seq.{slice}
use Rattle.rules.specs.Tokens as rules
use Rattle.tokens.specs.Rows.{row_of, line}
use Rattle.lexer.specs.Lexemes.{Held}
use Rattle.lexer.specs.declared.BadToken.{BadToken}

-- what the rules say of the line from start to end, told by the table's first rows
unfoldable pub lexed_of : List ℕ → ℕ → List ℕ → Result ℕ BadToken → rules.Lexed
lexed_of f end t (Ok n) = rules.good (line f (take (4 * n) t) 0)
lexed_of f end t (Err b) = rules.bad (slice b.at end f)

-- each of the rows holds a token inside the file, and there are no more than bytes; a bad token lies in the line
abbrev pub Among : List ℕ → ℕ → ℕ → List ℕ → Result ℕ BadToken → Type 0
Among f start end t (Ok n) = (n ≤ end - start) × ((k : ℕ) → k < n → Held f (row_of t k))
Among f start end t (Err b) = (start ≤ b.at) × (b.at < end)

-- the answer, and the table that is left
pub record LexedIs (f : List ℕ) (start end : ℕ) (old new : List ℕ) (r : Result ℕ BadToken) : Type 0 where
  pub is : rules.tokens (slice start end f) ≡ lexed_of f end new r
  pub among : Among f start end new r
  pub kept : length new ≡ length old
