-- One byte by its cases.
-- Assumes nothing.
use mathlib.Core.Path.{◌≡◌}
use mathlib.Core.Bool.{true, false}
use mathlib.Core.List.{[], ◌∷◌}
use Prim.Native.Nat.{ℕ, ◌+◌, ◌/◌, ◌%◌, ◌≤◌, ◌<◌}
use native.Mathlib.Omega.{arith}
use borrow.Author.Tests.{ne_eqb, lt-ltb, le-ltb}
use Rattle.rules.specs.Bytes.{is_digit, within}
use Rattle.rules.specs.Text.{escaped}
use Rattle.rules.specs.Plain.{is_plain, hex_digit, plain_byte, hex_value, low}
use Rattle.lists.specs.Tests.{by_cond}
use Rattle.lists.specs.Bytes.{within-high}

pub plain-kept : (b : ℕ) → is_plain b ≡ true → plain_byte b ≡ b ∷ []
unfolding plain_byte
plain-kept b e = rw e

pub plain_other : (b : ℕ) → is_plain b ≡ false → plain_byte b ≡ 95 ∷ hex_digit (b / 16) ∷ hex_digit (b % 16) ∷ []
unfolding plain_byte
plain_other b e = rw e

pub hex-most : (b : ℕ) → hex_value b ≤ 16
unfolding hex_value is_digit
hex-most b =
    by_cond (λ (v : ℕ). v ≤ 16) (within 48 57 b) (λ e. omega (arith, within-high 48 57 b e))
    (λ e. by_cond (λ (v : ℕ). v ≤ 16) (within 97 102 b) (λ q. omega (arith, within-high 97 102 b q)) (λ q. omega arith))

-- a byte of a shown name
pub low-kept : (b : ℕ) → 32 ≤ b → low b ≡ b ∷ []
unfolding low
low-kept b h = rw (le-ltb b 32 h)

pub low-line-end : (b : ℕ) → b ≡ 10 → low b ≡ 92 ∷ 110 ∷ []
unfolding low escaped
low-line-end b e = rw e

pub low-tab : (b : ℕ) → b ≡ 9 → low b ≡ 92 ∷ 116 ∷ []
unfolding low escaped
low-tab b e = rw e

pub low-octal : (b : ℕ) → b < 32 → (b ≡ 10 → ⊥) → (b ≡ 9 → ⊥) → low b ≡ 92 ∷ 48 ∷ (48 + b / 8) ∷ (48 + b % 8) ∷ []
unfolding low escaped
low-octal b h n t =
    rw (lt-ltb b 32 h, ne_eqb b 34 (λ e. omega arith), ne_eqb b 92 (λ e. omega arith), ne_eqb b 10 n, ne_eqb b 9 t)
