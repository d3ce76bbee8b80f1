-- By the token that was read: the line starts with it.
use mathlib.Core.Path.{◌≡◌, refl, sym, ◌∙◌}
use mathlib.Core.List.{List}
use Prim.Native.Nat.{ℕ}
use Rattle.std.proofs.Math.Option.{none}
use Rattle.rules.specs.Tokens as rules
use Rattle.rules.specs.Shapes as shapes
use Rattle.tokens.specs.Rows.{front}
use Rattle.tokens.specs.Parts.{id_gives}
use Rattle.tokens.specs.declared.Token.{Token}
use Rattle.tokens.specs.declared.Token.TheVariants.{Name, Word, Constant as Constantly, Mark, End}
use Rattle.tokens.proofs.TokenLaws.{line_read}
use Rattle.tokens.proofs.id_at.Goals as goal

no_name : (f : List ℕ) (x : Token) (ts : List rules.Token) → ((a b : ℕ) → x ≡ Name a b → ⊥) → shapes.id (front f x ts) ≡ none
unfolding shapes.id shapes.one shapes.is_id front
no_name f (Name a b) ts h = absurd (h a b refl)
no_name f (Word c) ts h = refl
no_name f (Constantly c) ts h = refl
no_name f (Mark b) ts h = refl
no_name f End ts h = refl

pub returns-in-Name : goal.returns-in-Name
unfolding shapes.id shapes.one shapes.is_id front id_gives
returns-in-Name c f = rw (line_read f _ _ _ (sym c.in-Name.is ∙ c.token_at.ensures))

pub returns-in_default : goal.returns-in_default
unfolding id_gives
returns-in_default c f = rw (line_read f _ _ _ c.token_at.ensures) (no_name f _ _ c.in_default.not-Name)
