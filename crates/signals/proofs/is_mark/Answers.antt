-- `is_mark` meets its contract: by the token of the row.
-- Assumes nothing.
use mathlib.Core.Path.{◌≡◌, refl, sym}
use mathlib.Core.Bool.{false}
use Prim.Native.Nat.{ℕ}
use Rattle.tokens.specs.declared.Token.{Token}
use Rattle.tokens.specs.declared.Token.TheVariants.{Name, Word, Constant as Constantly, Mark, End}
use Rattle.signals.specs.Reads.{is_the_mark, mark_at}
use Rattle.signals.proofs.is_mark.Goals as goal

no-mark : (b : ℕ) (x : Token) → ((m : ℕ) → x ≡ Mark m → ⊥) → is_the_mark b x ≡ false
unfolding is_the_mark
no-mark b (Name s e) o = refl
no-mark b (Word w) o = refl
no-mark b (Constantly l) o = refl
no-mark b (Mark m) o = absurd (o m refl)
no-mark b End o = refl

pub returns-in-Mark : goal.returns-in-Mark
unfolding mark_at is_the_mark
returns-in-Mark c = rw (← c.token_at.ensures, c.in-Mark.is)

pub returns-in_default : goal.returns-in_default
unfolding mark_at
returns-in_default c = rw (← c.token_at.ensures) (sym (no-mark _ _ c.in_default.not-Mark))
