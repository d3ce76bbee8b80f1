-- What the answer about an integer says.
use Rattle.std.specs.Prelude.{◌≡◌, ℕ, true, false, ℤ, Option, Some, None}
use Rattle.rules.specs.Numbers.{int32}
use Rattle.rules.specs.Signals.{twos_complement}

-- the answer is the integer's word, or the integer has none
abbrev pub NumberIs : ℤ → Option ℕ → Type 0
NumberIs i (Some w) = (int32 i ≡ true) × (twos_complement i ≡ w)
NumberIs i None = int32 i ≡ false
