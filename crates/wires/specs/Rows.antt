-- The wires that the rows of a table of words hold, eight columns a row, over a table of names. A word past the table's end counts as 0, and a name's span
-- past the names' end is cut.
use Rattle.std.specs.Prelude.{ℕ, zero, suc, ◌+◌, ◌*◌, ◌/◌, ◌%◌, ◌≡◌, List, [], ◌∷◌, Bool, cond, eqb, get_or}
use Rattle.std.proofs.Math.Option.{Option, none, some}
use Rattle.std.proofs.Math.Seq.{slice}
use Rattle.rules.specs.Bytes.{any}
use Rattle.rules.specs.Tokens.{Name}
use Rattle.rules.specs.Statements.{Wire, Direction, input, output, inout}
use Rattle.rules.specs.Judgement.{port_numbers}
use Rattle.rules.specs.Signals.{Wires}
use Rattle.numbers.specs.Signed.{signed_of}

unfoldable pub word_at : List ℕ → ℕ → ℕ
word_at t i = get_or t i 0

-- column c of row k
unfoldable pub column : List ℕ → ℕ → ℕ → ℕ
column t k c = word_at t (8 * k + c)

-- what stands in a table from the place in column c on, as much as column c + 1 says
unfoldable pub span_at : (table rows : List ℕ) → (row c : ℕ) → List ℕ
span_at t rows k c = slice (column rows k c) (column rows k c + column rows k (c + 1)) t

unfoldable pub name_of : List ℕ → List ℕ → ℕ → Name
name_of names t k = span_at names t k 1

-- the port of a direction's code, 1 to 3; any other is none
unfoldable pub port_of : ℕ → ℕ → Option (Direction × ℕ)
port_of d n = cond (eqb d 1) (some (input, n)) (cond (eqb d 2) (some (output, n)) (cond (eqb d 3) (some (inout, n)) none))

unfoldable pub wire_of : List ℕ → ℕ → Wire
wire_of t k =
    record {
      width = column t k 3;
      offset = signed_of (column t k 4);
      upto = eqb (column t k 5 % 2) 1;
      signed = eqb (column t k 5 / 2 % 2) 1;
      port = port_of (column t k 5 / 4) (column t k 6);
    }

-- the wires of consecutive rows, the last one first
unfoldable pub wires_from : List ℕ → List ℕ → ℕ → ℕ → Wires
wires_from names t first zero = []
wires_from names t first (suc k) = (name_of names t (first + k), wire_of t (first + k)) ∷ wires_from names t first k

-- whether a wire has a port of this number
unfoldable pub has_port : ℕ → Wire → Bool
has_port n w = any (eqb n) (port_numbers w)

-- whether one of the wires has it, by the rules' words; names don't matter
abbrev pub TakenIs : List ℕ → ℕ → ℕ → ℕ → Bool → Type 0
TakenIs t first count n r =
    (names : List ℕ) → r ≡ any (λ v. any (eqb n) (port_numbers v.1)) (wires_from names t first count)
