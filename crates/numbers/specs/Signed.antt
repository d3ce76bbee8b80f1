-- Signed numbers in words of 32 bits.
use Rattle.std.specs.Prelude.{ℕ, ◌-◌, ◌≡◌, Bool, true, false, cond, ℤ, pos, negsuc, neg_ℤ, ltb}
use Rattle.std.specs.Prelude.{Option as Optional, Some, None}
use Rattle.std.proofs.Math.Option.{Option}
use Rattle.rules.specs.Statements.{Direction}
use Rattle.rules.specs.Judgement.{Verdict, accepted, refused}
use Rattle.rules.specs.Session.{index_in}

-- the integer of a word: from 2 ^ 31 on it is the word less 2 ^ 32
unfoldable pub signed_of : ℕ → ℤ
signed_of w = cond (ltb w 2147483648) (pos w) (negsuc (4294967295 - w))

-- the integer of a sign and a size
unfoldable pub integer_of : Bool → ℕ → ℤ
integer_of true n = neg_ℤ (pos n)
integer_of false n = pos n

-- past the wire is refusal 10
unfoldable pub verdict_of : Optional ℤ → Verdict ℤ
verdict_of (Some i) = accepted i
verdict_of None = refused 10

-- the answer is what the rules say of this bit, in a wire of this offset, width and `upto`, whatever its other options
abbrev pub IndexIs : ℕ → ℕ → Bool → ℕ → Optional ℤ → Type 0
IndexIs offset width upto bit r =
    (signed : Bool) (port : Option (Direction × ℕ)) →
    index_in (record { width = width; offset = signed_of offset; upto = upto; signed = signed; port = port }) bit ≡ verdict_of r
