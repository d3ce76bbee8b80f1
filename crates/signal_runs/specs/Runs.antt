-- Runs of a signal by the codes of its bits.
-- Assumes nothing.
use Rattle.std.specs.Prelude.{◌≡◌, Bool, true, false, ◌&&◌, List, ◌∷◌, map, ℕ, ◌+◌, ◌-◌, ◌<◌, eqb, length, get_or, take, drop}
use Rattle.rules.specs.Text.{Run, digits, span, runs}
use Rattle.numbers.specs.Kinds.{digit_of, bit_at, signal_of}
use Rattle.numbers.specs.declared.kinds.SignalBit.{SignalBit}
use Rattle.numbers.specs.declared.kinds.WireNumber.{WireNumber}

unfoldable pub is_digit : SignalBit → Bool
is_digit (SignalBit.Digit d) = true
is_digit (SignalBit.Wire w i) = false

-- whether a bit is bit i of this wire
unfoldable pub is_bit : WireNumber → ℕ → SignalBit → Bool
is_bit w i (SignalBit.Digit d) = false
is_bit w i (SignalBit.Wire v k) = eqb w.0 v.0 && eqb i k

-- whether a bit and the one above it stand in one run
unfoldable pub joined : SignalBit → SignalBit → Bool
joined (SignalBit.Digit d) b = is_digit b
joined (SignalBit.Wire w i) b = is_bit w (i + 1) b

unfoldable pub joint : ℕ → ℕ → Bool
joint c d = joined (bit_at c) (bit_at d)

-- the run of n codes, by the bit of the first
unfoldable pub run_by : SignalBit → List ℕ → ℕ → Run
run_by (SignalBit.Digit d) s n = digits (map digit_of (take n s))
run_by (SignalBit.Wire w i) s n = span w.0 i n

unfoldable pub first_run : List ℕ → ℕ → Run
first_run s n = run_by (bit_at (get_or s 0 0)) s n

-- no run goes from the bit below i on to bit i
abbrev pub Apart : List ℕ → ℕ → Type 0
Apart s i = 0 < i → i < length s → joint (get_or s (i - 1) 0) (get_or s i 0) ≡ false

-- the bits from j up to i are a run
pub record Lowest (s : List ℕ) (i j : ℕ) : Type 0 where
  pub below : j < i
  pub run : runs (signal_of (drop j s)) ≡ first_run (drop j s) (i - j) ∷ runs (signal_of (drop i s))
  pub apart : Apart s j
