-- The parts of statements that stand in tables: a part behind what is used of its table, as long as its row says. A span past the table's end is cut.
use Rattle.std.specs.Prelude.{ℕ, ◌+◌, ◌-◌, ◌≡◌, List, Bool, ◌&&◌, eqb, leb, ltb, length}
use Rattle.std.proofs.Math.Seq.{slice}
use Rattle.rules.specs.Limits.{most_width}
use Rattle.rules.specs.Bytes.{all, within, legal}
use Rattle.rules.specs.Signals.{Wires}
use Rattle.admitted.specs.Admitted.{fine_bit, fine_wire}
use Rattle.numbers.specs.Kinds.{bit_of, bit_at}
use Rattle.wires.specs.Rows.{wire_of, wires_from}

-- n values of a table from a place on
unfoldable pub span : List ℕ → (at n : ℕ) → List ℕ
span t at n = slice at (at + n) t

-- the span is inside its table, so that it is as long as it should be
unfoldable pub whole : List ℕ → (at n : ℕ) → Bool
whole t at n = eqb (length (span t at n)) n

abbrev pub WholeIs : (long at n : ℕ) → Bool → Type 0
WholeIs long at n r = (t : List ℕ) → length t ≡ long → r ≡ whole t at n

unfoldable pub name_stands : List ℕ → (at n : ℕ) → Bool
name_stands names at n = whole names at n && legal (span names at n)

-- at most 2,048 values, each of which passes a test
abbrev pub part_stands : (ℕ → Bool) → List ℕ → (at n : ℕ) → Bool
part_stands f t at n = whole t at n && (leb n most_width && all f (span t at n))

-- the digits of a value by their codes, which are below 6
unfoldable pub is_digit : ℕ → Bool
is_digit c = ltb c 6

unfoldable pub digits_stand : List ℕ → (at n : ℕ) → Bool
digits_stand bits at n = part_stands is_digit bits at n

unfoldable pub text_stands : List ℕ → (at n : ℕ) → Bool
text_stands strings at n = whole strings at n && all (within 1 255) (span strings at n)

-- each bit of a signal is a digit's or lies inside its wire, as the rules say it
unfoldable pub signal_stands : Wires → List ℕ → (at n : ℕ) → Bool
signal_stands ws bits at n = part_stands (λ c. fine_bit ws (bit_of (bit_at c))) bits at n

-- of the wires of count rows from first on; names don't matter
abbrev pub BitFits : (wires : List ℕ) → (first count c : ℕ) → Bool → Type 0
BitFits wires first count c r = (names : List ℕ) → r ≡ fine_bit (wires_from names wires first count) (bit_of (bit_at c))

abbrev pub BitsFit : (wires : List ℕ) → (first count : ℕ) → List ℕ → Bool → Type 0
BitsFit wires first count cs r = (names : List ℕ) → r ≡ all (λ c. fine_bit (wires_from names wires first count) (bit_of (bit_at c))) cs

-- so many bits of equally wide signals
unfoldable pub bits_stand : Wires → List ℕ → (at n : ℕ) → Bool
bits_stand ws bits at n = whole bits at n && all (λ c. fine_bit ws (bit_of (bit_at c))) (span bits at n)

abbrev pub BitsStand : (wires : List ℕ) → (first count : ℕ) → List ℕ → (at n : ℕ) → Bool → Type 0
BitsStand wires first count bits at n r = (names : List ℕ) → r ≡ bits_stand (wires_from names wires first count) bits at n

abbrev pub SignalFits : (wires : List ℕ) → (first count : ℕ) → List ℕ → (at n : ℕ) → Bool → Type 0
SignalFits wires first count bits at n r = (names : List ℕ) → r ≡ signal_stands (wires_from names wires first count) bits at n

-- wire k of the table is fine behind those from first on
abbrev pub WireFits : (wires : List ℕ) → (first k : ℕ) → Bool → Type 0
WireFits wires first k r = (names : List ℕ) → r ≡ fine_wire (wires_from names wires first (k - first)) (wire_of wires k)
