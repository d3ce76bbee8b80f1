-- What the readers of options and of lines answer, as the grammar's parse of the line's tokens.
use Rattle.std.specs.Prelude.{ℕ, suc, ◌+◌, ◌-◌, ◌/◌, ◌≤◌, ◌<◌, ◌≡◌, List, ◌∷◌, Bool, true, false, length, ℤ, Option as Optional, Some, None}
use Prim.Native.String.{String}
use Rattle.std.proofs.Math.Option.{Option, none, some}
use Rattle.std.proofs.Math.Seq.{slice}
use Rattle.rules.specs.Tokens.{Name, Token}
use Rattle.rules.specs.Statements.{Opt, Shape}
use Rattle.rules.specs.Shapes.{Parse, whole, of₁, of₂, id, options, after, repeat, offers, choice}
use Rattle.scanner.specs.Words.{keyword_at}
use Rattle.tokens.specs.Rows.{integer_in, line}
use Rattle.options.specs.Forms.{forms, statement, is_flag, is_option}
use Rattle.options.specs.Holds.{Holds}
use Rattle.options.specs.declared.Line.{Line}
use Rattle.options.specs.declared.Turn.{Turn}
use Rattle.options.specs.declared.Turn.TheVariants as turn

-- what is left to parse, with the options so far
unfoldable pub rest : Bool → ℕ → List Opt → List Token → Option Shape
rest m k os ts = whole (after (repeat (offers (forms m)) (choice (forms m)) k os ts) (λ os. of₁ (statement m os) id))

-- an option c, which is v over each file, with which the rest is read from row j on
pub record Next (m : Bool) (t : List ℕ) (i c : ℕ) (v : List ℕ → Option ℤ) (j : ℕ) : Type 0 where
  pub inside : i < length t / 4
  pub option : is_option c ≡ true
  pub more : (f : List ℕ) (k : ℕ) (os : List Opt) → rest m (suc k) os (line f t i) ≡ rest m k ((keyword_at c, v f) ∷ os) (line f t j)

-- (for every file)
abbrev pub TurnIs : Bool → List ℕ → ℕ → Optional Turn → Type 0
TurnIs m t i (Some (turn.Flag c)) = (is_flag c ≡ true) × Next m t i c (λ f. none) (i + 1)
TurnIs m t i (Some (turn.Number c z)) = (is_flag c ≡ false) × Next m t i c (λ f. some (integer_in f z)) (i + 2)
TurnIs m t i (Some (turn.Done n)) = (f : List ℕ) (k : ℕ) (os : List Opt) → length t / 4 - i ≤ k → rest m k os (line f t i) ≡ some (statement m os (slice n.start n.end f))
TurnIs m t i None = (f : List ℕ) (k : ℕ) (os : List Opt) → length t / 4 - i ≤ k → rest m k os (line f t i) ≡ none

-- a line's shape, with options that the answer holds and the name of its span
abbrev pub Gives : (List Opt → Name → Shape) → List ℕ → Option Shape → Optional Line → Type 0
Gives g f s (Some l) = (os : List Opt) × (s ≡ some (g os (slice l.name.start l.name.end f))) × Holds f l.options os
Gives g f s None = s ≡ none

abbrev pub LineIs : List (String × Parse Opt) → (List Opt → Name → Shape) → List ℕ → ℕ → Optional Line → Type 0
LineIs fs g t i r = (f : List ℕ) → Gives g f (whole (of₂ g (options fs) id (line f t i))) r
