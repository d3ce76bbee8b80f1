-- Runs of bytes, by positions.
use Rattle.std.specs.Prelude.{ℕ, ◌+◌, List, Bool, length, drop}
use Rattle.rules.specs.Bytes.{run}

-- the first position at or after i whose byte fails the test, or the end
unfoldable pub end_of : (ℕ → Bool) → List ℕ → ℕ → ℕ
end_of f s i = i + length (run f (drop i s))
