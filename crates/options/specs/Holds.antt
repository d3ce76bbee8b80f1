-- What the options that the code holds say of those that are written, over a file's bytes.
use Rattle.std.specs.Prelude.{ℕ, ◌≡◌, Bool, true, false, cond, not, ◌||◌, ℤ, eqb, Option as Optional, Some, None, is_some as is_given}
use mathlib.Core.List.{List, [], ◌∷◌, Option-to_list}
use Rattle.std.proofs.Math.Option.{Option, none, some}
use Rattle.rules.specs.Bytes.{same, all}
use Rattle.rules.specs.Statements.{Opt}
use Rattle.rules.specs.Numbers.{once, int32}
use Rattle.scanner.specs.Words.{keyword_at}
use Rattle.tokens.specs.Rows.{integer_in}
use Rattle.tokens.specs.declared.Integer.{Integer}
use Rattle.options.specs.Forms.{number_codes, is_option}
use Rattle.options.specs.declared.Options.{Options}

-- the first option of a word: its number, if it has one
unfoldable pub first : List ℕ → List Opt → Option (Option ℤ)
first w [] = none
first w (o ∷ os) = let r = first w os in cond (same o.0 w) (some o.1) r

unfoldable pub slot_of : List ℕ → Optional Integer → Option (Option ℤ)
slot_of f (Some z) = some (some (integer_in f z))
slot_of f None = none

unfoldable pub flag_of : Bool → Option (Option ℤ)
flag_of true = some none
flag_of false = none

unfoldable pub slot_at : Options → ℕ → Optional Integer
slot_at o c =
    cond (eqb c 7) o.width
    (cond (eqb c 8) o.offset
    (cond (eqb c 9) o.input
    (cond (eqb c 10) o.output
    (cond (eqb c 11) o.inout
    (cond (eqb c 15) o.size None)))))

-- the option with a keyword's number
unfoldable pub at : List ℕ → Options → ℕ → Option (Option ℤ)
at f o c = cond (eqb c 12) (flag_of o.upto) (cond (eqb c 13) (flag_of o.signed) (slot_of f (slot_at o c)))

unfoldable pub given : Options → ℕ → Bool
given o c = cond (eqb c 12) o.upto (cond (eqb c 13) o.signed (is_given (slot_at o c)))

unfoldable pub is_some : {A : Type 0} → Option A → Bool
is_some none = false
is_some (some a) = true

-- an option's number, if it has one, is within 32 bits
unfoldable pub fits : Option ℤ → Bool
fits v = all int32 (Option-to_list v)

unfoldable pub all_fit : Option (Option ℤ) → Bool
all_fit none = true
all_fit (some v) = fits v

-- The options are those that are written, the last one first; where none stands twice the numbers held are all numbers written
pub record Holds (f : List ℕ) (o : Options) (os : List Opt) : Type 0 where
  pub singly : once os ≡ not o.twice
  pub fields : (c : ℕ) → is_option c ≡ true → at f o c ≡ first (keyword_at c) os
  pub numbers : o.twice ≡ false → all (λ p. all int32 (Option-to_list p.1)) os ≡ all (λ c. all_fit (at f o c)) number_codes

abbrev pub no_options : Options
no_options =
    record {
      width = None;
      offset = None;
      size = None;
      input = None;
      output = None;
      inout = None;
      upto = false;
      signed = false;
      twice = false;
    }

-- r is o with the option c, which is v, and marked where it had one
pub record Took (f : List ℕ) (o : Options) (c : ℕ) (v : Option ℤ) (r : Options) : Type 0 where
  pub twice : r.twice ≡ (o.twice || is_some (at f o c))
  pub fields : (d : ℕ) → is_option d ≡ true → at f r d ≡ cond (eqb c d) (some v) (at f o d)

-- (for every file)
abbrev pub TookNumber : Options → ℕ → Integer → Options → Type 0
TookNumber o c z r = (f : List ℕ) → Took f o c (some (integer_in f z)) r

abbrev pub TookFlag : Options → ℕ → Options → Type 0
TookFlag o c r = (f : List ℕ) → Took f o c none r
