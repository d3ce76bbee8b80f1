-- Numbers with a cap.
use Rattle.std.specs.Prelude.{ℕ, min}

-- the number, or 2147483649 where it is larger
unfoldable pub capped : ℕ → ℕ
capped n = min n 2147483649
