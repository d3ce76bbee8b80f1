-- The options that a wire's and a memory's line offer, by the numbers of their keywords.
use Rattle.std.specs.Prelude.{ℕ, List, [], ◌∷◌, Bool, true, false, ◌||◌, eqb}
use Prim.Native.String.{String}
use Rattle.rules.specs.Bytes.{any}
use Rattle.rules.specs.Tokens.{Name}
use Rattle.rules.specs.Statements.{Opt, Shape, wire-stmt, memory-stmt}
use Rattle.rules.specs.Shapes.{Parse, wire_option_forms, memory_option_forms}

-- of a memory, of a wire
unfoldable pub forms : Bool → List (String × Parse Opt)
forms true = memory_option_forms
forms false = wire_option_forms

unfoldable pub statement : Bool → List Opt → Name → Shape
statement true = memory-stmt
statement false = wire-stmt

-- width, size, offset; width, offset, input, output, inout, upto, signed
unfoldable pub codes : Bool → List ℕ
codes true = 7 ∷ 15 ∷ 8 ∷ []
codes false = 7 ∷ 8 ∷ 9 ∷ 10 ∷ 11 ∷ 12 ∷ 13 ∷ []

unfoldable pub accepted : Bool → ℕ → Bool
accepted m c = any (eqb c) (codes m)

-- upto, signed: an option that takes no number
unfoldable pub is_flag : ℕ → Bool
is_flag c = eqb c 12 || eqb c 13

-- the options that take a number, and all options
unfoldable pub number_codes : List ℕ
number_codes = 7 ∷ 8 ∷ 15 ∷ 9 ∷ 10 ∷ 11 ∷ []

unfoldable pub option_codes : List ℕ
option_codes = 12 ∷ 13 ∷ number_codes

unfoldable pub is_option : ℕ → Bool
is_option c = any (eqb c) option_codes
