-- The numbers of options over a file's bytes.
use Rattle.std.specs.Prelude.{ℕ, ◌≡◌, List, Bool, true, not, ◌&&◌, ℤ, pos, Option as Optional, Some, None}
use Rattle.rules.specs.Numbers.{int32}
use Rattle.rules.specs.Signals.{twos_complement}
use Rattle.tokens.specs.Rows.{integer_in}
use Rattle.tokens.specs.declared.Integer.{Integer}
use Rattle.options.specs.declared.Options.{Options}

-- the number given, or else d
unfoldable pub value_or : ℤ → List ℕ → Optional Integer → ℤ
value_or d f (Some z) = integer_in f z
value_or d f None = d

-- the number given, if any, is within 32 bits
unfoldable pub slot_fits : List ℕ → Optional Integer → Bool
slot_fits f (Some z) = int32 (integer_in f z)
slot_fits f None = true

abbrev pub WordIs : List ℕ → Optional Integer → ℕ → ℕ → Type 0
WordIs f s d r = slot_fits f s ≡ true → twos_complement (value_or (pos d) f s) ≡ r

unfoldable pub options_good : List ℕ → Options → Bool
options_good f o =
    not o.twice
    && ((slot_fits f o.width && (slot_fits f o.offset && slot_fits f o.size))
    && (slot_fits f o.input && (slot_fits f o.output && slot_fits f o.inout)))
