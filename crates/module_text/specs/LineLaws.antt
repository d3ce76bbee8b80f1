-- A line without signals looks at no wires.
-- Assumes nothing.
use Rattle.std.specs.Prelude.{ℕ, ◌≡◌, refl}
use mathlib.Core.List.{[], cons≢nil}
use Rattle.rules.specs.Statements.{Statement, contents, statements_open}
use Rattle.rules.specs.Signals.{Wires}
use Rattle.rules.specs.Text.{written}
use Rattle.context.specs.Forms.{by_form}
use Rattle.module_text.specs.Blocks.{line_of, plain_line}

pub plain-written : (ws : Wires) (s : Statement) → (contents s).signals ≡ [] → written ws s ≡ written [] s
unfolding written statements_open
plain-written ws =
    by_form _ (λ i e. refl) (λ x c e. refl) (λ x e. refl) (λ x c e. refl) (λ w x e. refl) (λ m x e. refl) (λ t x e. refl) (λ o x c e. refl)
    (λ x g e. absurd (cons≢nil e)) (λ g h e. absurd (cons≢nil e)) (λ x e. refl) (λ p xs e. rw e) (λ e. refl)

pub plain-line : (l : ℕ) (ws : Wires) (s : Statement) → (contents s).signals ≡ [] → line_of l ws s ≡ plain_line l s
unfolding plain_line line_of
plain-line l ws s e = rw (plain-written ws s e)
