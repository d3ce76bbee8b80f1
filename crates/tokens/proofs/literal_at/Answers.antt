-- By the token that was read: the line starts with it.
use mathlib.Core.Path.{◌≡◌, refl, sym, ◌∙◌}
use mathlib.Core.List.{List}
use Prim.Native.Nat.{ℕ}
use Rattle.std.proofs.Math.Option.{none}
use Rattle.rules.specs.Tokens as rules
use Rattle.rules.specs.Shapes as shapes
use Rattle.tokens.specs.Rows.{front}
use Rattle.tokens.specs.Parts.{literal_gives}
use Rattle.tokens.specs.declared.ConstantSpan.{ConstantSpan}
use Rattle.tokens.specs.declared.Token.{Token}
use Rattle.tokens.specs.declared.Token.TheVariants.{Name, Word, Constant as Constantly, Mark, End}
use Rattle.tokens.proofs.TokenLaws.{line_read}
use Rattle.tokens.proofs.literal_at.Goals as goal

no_constant : (f : List ℕ) (x : Token) (ts : List rules.Token) → ((c : ConstantSpan) → x ≡ Constantly c → ⊥) → shapes.const (front f x ts) ≡ none
unfolding shapes.const shapes.one shapes.is_constant front
no_constant f (Name a b) ts h = refl
no_constant f (Word c) ts h = refl
no_constant f (Constantly c) ts h = absurd (h c refl)
no_constant f (Mark b) ts h = refl
no_constant f End ts h = refl

pub returns-in-Constant : goal.returns-in-Constant
unfolding shapes.const shapes.one shapes.is_constant front literal_gives
returns-in-Constant c = (λ f. rw (line_read f _ _ _ (sym c.in-Constant.is ∙ c.token_at.ensures)), sym c.token_at.ensures ∙ c.in-Constant.is)

pub returns-in_default : goal.returns-in_default
unfolding literal_gives
returns-in_default c = (λ f. rw (line_read f _ _ _ c.token_at.ensures) (no_constant f _ _ c.in_default.not-Constant), tt)
