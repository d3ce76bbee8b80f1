-- What the readers of a signal answer, as the grammar's parse of the rows.
use Rattle.std.specs.Prelude.{ℕ, ◌*◌, ◌-◌, ◌/◌, ◌≤◌, ◌<◌, ◌≡◌, List, [], Bool, false, not, length, ℤ, eqb, Some, None, Option as Optional}
use Rattle.std.proofs.Math.Option.{Option, none, some}
use Rattle.rules.specs.Limits.{longest_file, tokens_length}
use Rattle.rules.specs.Tokens as rules
use Rattle.rules.specs.Shapes.{Parse, closed_by, of₁, of₂, int, low_bound, bounds, sliced, sigs, repeat, is_mark, atom, members, signal}
use Rattle.rules.specs.Statements.{Sig, bundle}
use Rattle.rules.specs.Signals.{Wires}
use Rattle.tokens.specs.Rows.{integer_in, line, token_at}
use Rattle.tokens.specs.declared.Integer.{Integer}
use Rattle.tokens.specs.declared.Token.{Token}
use Rattle.tokens.specs.declared.Token.TheVariants.{Name, Word, Constant as Constantly, Mark, End}
use Rattle.literals.specs.Codes.{Whole}
use Rattle.signals.specs.Held.{Held, Kept, PartOf, Inside}
use Rattle.signals.specs.declared.Bits.{Bits}
use Rattle.signals.specs.declared.Part.{Part}
use Rattle.signals.specs.declared.Answer.{Answer}
use Rattle.signals.specs.declared.Bounds.{Bounds}

-- whether a row's token is this mark
unfoldable pub is_the_mark : ℕ → Token → Bool
is_the_mark b (Name s e) = false
is_the_mark b (Word c) = false
is_the_mark b (Constantly c) = false
is_the_mark b (Mark m) = eqb m b
is_the_mark b End = false

unfoldable pub mark_at : List ℕ → ℕ → ℕ → Bool
mark_at t i b = is_the_mark b (token_at t i)

-- the low bound, if it is given
unfoldable pub slot_in : List ℕ → Optional Integer → Option ℤ
slot_in f (Some z) = some (integer_in f z)
slot_in f None = none

-- what stands behind `[`
unfoldable pub bounds_behind : List rules.Token → Option ((ℤ × Option ℤ) × List rules.Token)
bounds_behind ts = closed_by "]" (of₂ (λ h l. (h, l)) int low_bound) ts

-- for every file
abbrev pub BoundsIs : List ℕ → ℕ → Optional Bounds → Type 0
BoundsIs t i (Some b) =
    (i < b.next) × (b.next ≤ length t / 4) × ((f : List ℕ) → bounds_behind (line f t i) ≡ some ((integer_in f b.high, slot_in f b.low), line f t b.next))
BoundsIs t i None = (f : List ℕ) → bounds_behind (line f t i) ≡ none

-- the slices behind a signal, with those that were read, last first
unfoldable pub sliced_on : Sig → ℕ → List (ℤ × Option ℤ) → List rules.Token → Option (Sig × List rules.Token)
sliced_on s k bs ts = of₁ (sliced s) (repeat (is_mark "[") bounds k bs) ts

-- the members of a bundle and its closing mark, with the members that were read, last first
unfoldable pub members_on : Parse Sig → ℕ → List Sig → List rules.Token → Option (Sig × List rules.Token)
members_on p k ss ts = closed_by "}" (of₁ (λ as'. bundle (sigs as')) (repeat (λ x. not (is_mark "}" x)) p k ss)) ts

-- a part of a signal, whatever it is, sliced by these bounds
pub record SliceIs (p : Part) (h : ℤ) (z : Option ℤ) (r : Part) : Type 0 where
  pub part : (ws : Wires) (whole s : Sig) → PartOf ws whole s p → PartOf ws whole (Sig.slice s h z) r
  pub inside : Inside p r

-- a parse that was read up to row n, and what is promised of its signal
pub record Gives (f t : List ℕ) (ws : Wires) (parse : Option (Sig × List rules.Token)) (n o : ℕ) (out : List ℕ) (b : Bits) : Type 0 where
  pub sig : Sig
  pub is : parse ≡ some (sig, line f t n)
  pub held : Held ws sig o out b

-- the slices from row i on, behind a signal of these bits, whatever it is
abbrev pub SlicesRead : (f t : List ℕ) (i o : ℕ) (out : List ℕ) → Bits → List ℕ → Optional Answer → Type 0
SlicesRead f t i o out b out' (Some r) =
    (i ≤ r.next)
    × (r.next ≤ length t / 4)
    × (r.bits.width ≤ b.width)
    × ((ws : Wires) (s : Sig) → Held ws s o out b → Gives f t ws (sliced_on s (length (line f t i)) [] (line f t i)) r.next o out' r.bits)
SlicesRead f t i o out b out' None =
    (ws : Wires) (s : Sig) → Held ws s o out b → sliced_on s (length (line f t i)) [] (line f t i) ≡ none

pub record SlicesIs (f t : List ℕ) (i o : ℕ) (out : List ℕ) (b : Bits) (out' : List ℕ) (r : Optional Answer) : Type 0 where
  pub kept : Kept o out out'
  pub read : SlicesRead f t i o out b out' r

-- a parse from row i on: it reads rows, and its width is at most a word for each
abbrev pub AnswerRead : (f t : List ℕ) → Wires → Option (Sig × List rules.Token) → (i o : ℕ) (out : List ℕ) → Optional Answer → Type 0
AnswerRead f t ws parse i o out (Some r) =
    (i < r.next) × (r.next ≤ length t / 4) × (r.bits.width ≤ (r.next - i) * 4294967296) × Gives f t ws parse r.next o out r.bits
AnswerRead f t ws parse i o out None = parse ≡ none

pub record AnswerIs (f t : List ℕ) (ws : Wires) (parse : Option (Sig × List rules.Token)) (i o : ℕ) (out out' : List ℕ) (r : Optional Answer) : Type 0 where
  pub kept : Kept o out out'
  pub read : AnswerRead f t ws parse i o out' r

abbrev pub AtomIs : (f t : List ℕ) → Wires → (i o : ℕ) (out out' : List ℕ) → Optional Answer → Type 0
AtomIs f t ws i o out out' r = AnswerIs f t ws (atom (line f t i)) i o out out' r

-- a signal whose bundles are at most d deep, and a bundle of such signals behind its first mark
abbrev pub SignalIs : (f t : List ℕ) → Wires → (i d o : ℕ) (out out' : List ℕ) → Optional Answer → Type 0
SignalIs f t ws i d o out out' r = AnswerIs f t ws (signal d (line f t i)) i o out out' r

abbrev pub BundleIs : (f t : List ℕ) → Wires → (i d o : ℕ) (out out' : List ℕ) → Optional Answer → Type 0
BundleIs f t ws i d o out out' r = AnswerIs f t ws (members (signal d) (line f t i)) i o out out' r

-- every string of the rows has its closing quote
abbrev pub WholeToken : List ℕ → Token → Type 0
WholeToken f (Name s e) = Unit {0}
WholeToken f (Word c) = Unit {0}
WholeToken f (Constantly c) = Whole f c
WholeToken f (Mark m) = Unit {0}
WholeToken f End = Unit {0}

pub record Closed (f t : List ℕ) : Type 0 where
  pub whole : (i : ℕ) → WholeToken f (token_at t i)

-- a table of rows from which a signal can be read: its strings are closed, and its size and the file's are those that the rules allow
pub record Readable (f t : List ℕ) (i : ℕ) : Type 0 where
  pub file : length f ≤ longest_file
  pub rows : length t ≤ tokens_length
  pub here : i ≤ length t / 4
  pub closed : Closed f t
