-- What the readers of one token answer, as the grammar's parse of that token: the thing, and the tokens behind it.
use Rattle.std.specs.Prelude.{ℕ, ◌+◌, ◌≡◌, List, ℤ, Option as Optional, Some, None}
use Rattle.std.proofs.Math.Option.{Option, none, some}
use Rattle.std.proofs.Math.Seq.{slice}
use Rattle.rules.specs.Tokens as rules
use Rattle.rules.specs.Shapes as shapes
use Rattle.tokens.specs.Rows.{integer_in, literal_in, line, token_at}
use Rattle.tokens.specs.declared.Token.TheVariants.{Constant as Constantly}
use Rattle.scanner.specs.declared.parts.Span.{Span}
use Rattle.tokens.specs.declared.Integer.{Integer}
use Rattle.tokens.specs.declared.ConstantSpan.{ConstantSpan}

unfoldable pub id_gives : List ℕ → Optional Span → List rules.Token → Option (rules.Name × List rules.Token)
id_gives f (Some s) ts = some (slice s.start s.end f, ts)
id_gives f None ts = none

unfoldable pub integer_gives : List ℕ → Optional Integer → List rules.Token → Option (ℤ × List rules.Token)
integer_gives f (Some z) ts = some (integer_in f z, ts)
integer_gives f None ts = none

unfoldable pub literal_gives : List ℕ → Optional ConstantSpan → List rules.Token → Option (rules.Literal × List rules.Token)
literal_gives f (Some c) ts = some (literal_in f c, ts)
literal_gives f None ts = none

-- for every file
abbrev pub IdIs : List ℕ → ℕ → Optional Span → Type 0
IdIs t i r = (f : List ℕ) → shapes.id (line f t i) ≡ id_gives f r (line f t (i + 1))

abbrev pub IntegerIs : List ℕ → ℕ → Optional Integer → Type 0
IntegerIs t i r = (f : List ℕ) → shapes.int (line f t i) ≡ integer_gives f r (line f t (i + 1))

-- a constant is that of row i
abbrev pub RowIs : List ℕ → ℕ → Optional ConstantSpan → Type 0
RowIs t i (Some c) = token_at t i ≡ Constantly c
RowIs t i None = Unit {0}

abbrev pub LiteralIs : List ℕ → ℕ → Optional ConstantSpan → Type 0
LiteralIs t i r = ((f : List ℕ) → shapes.const (line f t i) ≡ literal_gives f r (line f t (i + 1))) × RowIs t i r
