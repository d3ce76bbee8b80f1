-- LONGEST RUNS: no two neighbours among the runs that a signal is written as could be one run.
-- Assumes nothing.
use Rattle.std.specs.Prelude.{◌+◌, List, [], ◌∷◌, Bool, true, false, not, ◌&&◌, eqb}
use Rattle.rules.specs.Text.{Run, digits, span}

-- two runs that could be one, the lower first: digits and digits; bits of a wire, and bits of it from where they end
unfoldable pub could_join : Run → Run → Bool
could_join (digits ds) (digits es) = true
could_join (digits ds) (span w l n) = false
could_join (span w l n) (digits ds) = false
could_join (span w l n) (span v k j) = eqb w v && eqb (l + n) k

unfoldable pub longest : List Run → Bool
longest [] = true
longest (r ∷ []) = true
longest (r ∷ q ∷ rs) = let more = longest (q ∷ rs) in not (could_join r q) && more
