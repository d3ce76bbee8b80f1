-- A bit of a signal as code holds it, and the bit that it means; the sort of a code.
use Rattle.std.specs.Prelude.{ℕ, ◌-◌, ◌/◌, ◌%◌, ◌<◌, cond, List, map, eqb, ltb}
use Rattle.rules.specs.Limits.{most_wires, most_width}
use Rattle.rules.specs.Tokens.{Digit, S0, S1, Sx, Sz, Sm, Sa}
use Rattle.rules.specs.Statements.{Bit, digit, bit, Signal, Sort}
use Rattle.numbers.specs.declared.kinds.SignalBit.{SignalBit}

-- the digit of a code; one above 5 is taken for 5
unfoldable pub digit_of : ℕ → Digit
digit_of c = cond (eqb c 0) S0 (cond (eqb c 1) S1 (cond (eqb c 2) Sx (cond (eqb c 3) Sz (cond (eqb c 4) Sm Sa))))

unfoldable pub bit_of : SignalBit → Bit
bit_of (SignalBit.Digit c) = digit (digit_of c)
bit_of (SignalBit.Wire w i) = bit w.0 i

-- the bit of a code: 0 to 5 are the digits, then each wire has 2,048 codes
unfoldable pub bit_at : ℕ → SignalBit
bit_at c = cond (ltb c 6) (SignalBit.Digit c) (SignalBit.Wire (record { 0 = (c - 6) / 2048 }) ((c - 6) % 2048))

unfoldable pub signal_of : List ℕ → Signal
signal_of cs = map (λ c. bit_of (bit_at c)) cs

-- a bit that has a code: a digit's, or a wire's that the sizes allow
unfoldable pub Valid : SignalBit → Type 0
Valid (SignalBit.Digit c) = c < 6
Valid (SignalBit.Wire w i) = (w.0 < most_wires) × (i < most_width)

-- the sort of a cell parameter's code; one above 2 is taken for 2
unfoldable pub sort_of : ℕ → Sort
sort_of c = cond (eqb c 0) Sort.plain (cond (eqb c 1) Sort.signed Sort.real)
