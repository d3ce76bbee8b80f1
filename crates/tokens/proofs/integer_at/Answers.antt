-- By the constant that was read: the line starts with it.
use mathlib.Core.Path.{◌≡◌, refl, sym}
use mathlib.Core.List.{List, [], ◌∷◌}
use Prim.Native.Nat.{ℕ}
use Rattle.std.proofs.Math.Option.{none}
use Rattle.rules.specs.Tokens as rules
use Rattle.rules.specs.Shapes as shapes
use Rattle.tokens.specs.Rows.{front, literal_in}
use Rattle.tokens.specs.Parts.{integer_gives, literal_gives}
use Rattle.tokens.specs.declared.ConstantSpan.{ConstantSpan}
use Rattle.tokens.specs.declared.ConstantSpan.TheVariants as constant
use Rattle.tokens.specs.declared.Integer.{Integer}
use Rattle.tokens.proofs.TokenLaws.{line_read}
use Rattle.tokens.proofs.integer_at.Goals as goal

-- where no constant stands, no integer stands
int_absent : (ts : List rules.Token) → shapes.const ts ≡ none → shapes.int ts ≡ none
unfolding shapes.const shapes.int shapes.one shapes.is_constant shapes.is_integer
int_absent [] h = refl
int_absent (rules.name n ∷ ts) h = refl
int_absent (rules.word w ∷ ts) h = refl
int_absent (rules.literal c ∷ ts) h = absurd cc
int_absent (rules.mark m ∷ ts) h = refl

other_constant : (f : List ℕ) (x : ConstantSpan) (ts : List rules.Token) → ((z : Integer) → x ≡ constant.Integer z → ⊥) → shapes.int (rules.literal (literal_in f x) ∷ ts) ≡ none
unfolding shapes.int shapes.one shapes.is_integer literal_in
other_constant f (constant.Integer z) ts h = absurd (h z refl)
other_constant f (constant.Value a b c) ts h = refl
other_constant f (constant.Text a) ts h = refl

pub returns-in_err-z : goal.returns-in_err-z
unfolding integer_gives literal_gives
returns-in_err-z c f = rw c.from_residual.ensures (int_absent _ (rw c.in_err-z.was at (c.literal_at.ensures.0 f)))

pub returns-in-Integer : goal.returns-in-Integer
unfolding shapes.int shapes.one shapes.is_integer front integer_gives literal_in
returns-in-Integer c f = rw (line_read f _ _ _ (sym (rw c.in_ok-z.was at c.literal_at.ensures.1)), c.in-Integer.is)

pub returns-in_default : goal.returns-in_default
unfolding front integer_gives
returns-in_default c f = rw (line_read f _ _ _ (sym (rw c.in_ok-z.was at c.literal_at.ensures.1))) (other_constant f _ _ c.in_default.not-Integer)
