-- `atom` meets its contract: by the token of the row.
-- Assumes nothing.
use mathlib.Core.List.{List}
use Prim.Native.Nat.{ℕ}
use mathlib.Core.Option.{none}
use mathlib.Core.Path.{◌≡◌, refl, sym, ◌∙◌}
use Rattle.rules.specs.Shapes.{one, is_atom, atom}
use Rattle.rules.specs.Tokens as rules
use Rattle.tokens.specs.Rows.{front}
use Rattle.tokens.specs.declared.ConstantSpan.{ConstantSpan}
use Rattle.tokens.specs.declared.Token.{Token}
use Rattle.tokens.specs.declared.Token.TheVariants.{Name, Word, Constant as Constantly, Mark, End}
use Rattle.signals.proofs.AnswerLaws.{atom-nothing, atom-name, atom-constant}
use Rattle.signals.proofs.atom.Goals as goal

-- a token that is no name and no constant
no-atom :
    (f : List ℕ) (x : Token) (ts : List rules.Token) → ((a b : ℕ) → x ≡ Name a b → ⊥) → ((c : ConstantSpan) → x ≡ Constantly c → ⊥) →
    atom (front f x ts) ≡ none
unfolding atom one is_atom front
no-atom f (Name a b) ts n k = absurd (n a b refl)
no-atom f (Word w) ts n k = refl
no-atom f (Constantly c) ts n k = absurd (k c refl)
no-atom f (Mark m) ts n k = refl
no-atom f End ts n k = refl

pub returns-in-Name : goal.returns-in-Name
returns-in-Name c =
    let token-at = c.token_at in
    let part = c.part in
    let wire-bits = c.wire_bits-bits in
    atom-name _ _ _ _ _ _ _ _ _ _ _ (sym c.in-Name.is ∙ token-at.ensures) part.ensures wire-bits.ensures

pub returns-in-Constant : goal.returns-in-Constant
returns-in-Constant c = atom-constant _ _ _ _ _ _ _ _ _ (sym c.in-Constant.is ∙ c.token_at.ensures) (c.literal_bits-bits.ensures _)

pub returns-in_default : goal.returns-in_default
returns-in_default c =
    atom-nothing _ _ _ _ _ _ _ c.token_at.ensures (no-atom _ _ _ c.in_default.not-Name c.in_default.not-Constant)
