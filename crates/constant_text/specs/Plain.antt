-- Bytes that stand in a string as they are.
-- Assumes nothing.
use Rattle.std.specs.Prelude.{◌≡◌, refl, Bool, true, ◌&&◌, not, ℕ, ◌≤◌, leb, eqb}
use Rattle.std.proofs.Common.{ap₂, arith, leb-true, le-ltb, ne_eqb}
use mathlib.Core.List.{List, [], ◌∷◌, ◌++◌, flat_map}
use Rattle.std.proofs.lemmas.Bool.{not-true}
use Rattle.rules.specs.Bytes.{all}
use Rattle.rules.specs.Text.{escaped}
use Rattle.lists.specs.Tests.{and-true-left, and-true-right}

unfoldable pub plain : ℕ → Bool
plain b = leb 32 b && not (eqb b 34) && not (eqb b 92)

plain_byte : (b : ℕ) → plain b ≡ true → escaped b ≡ b ∷ []
unfolding plain escaped
plain_byte b e =
    let front : leb 32 b && not (eqb b 34) ≡ true = and-true-left (leb 32 b && not (eqb b 34)) (not (eqb b 92)) e in
    let low : 32 ≤ b = leb-true 32 b (and-true-left (leb 32 b) (not (eqb b 34)) front) in
    rw (
      not-true (eqb b 34) (and-true-right (leb 32 b) (not (eqb b 34)) front),
      not-true (eqb b 92) (and-true-right (leb 32 b && not (eqb b 34)) (not (eqb b 92)) e),
      ne_eqb b 10 (λ q. absurd (omega arith)),
      ne_eqb b 9 (λ q. absurd (omega arith)),
      le-ltb b 32 low,
    )

pub plain-text : (s : List ℕ) → all plain s ≡ true → flat_map escaped s ≡ s
unfolding all flat_map
plain-text [] e = refl
plain-text (b ∷ s) e =
    ap₂ (λ (x y : List ℕ). x ++ y) (plain_byte b (and-true-left (plain b) (all plain s) e)) (plain-text s (and-true-right (plain b) (all plain s) e))
