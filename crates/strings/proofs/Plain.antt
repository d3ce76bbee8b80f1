-- A byte of a string that stands for itself, by its order.
-- Assumes nothing.
use mathlib.Core.Path.{◌≡◌}
use mathlib.Core.Bool.{false, not, and-true}
use Prim.Native.Nat.{ℕ, ◌<◌, ◌≤◌}
use native.Mathlib.Omega.{arith}
use lib.Dec.{eqb}
use borrow.Author.Tests.{ne_eqb}
use Rattle.rules.specs.Bytes.{within, is_line_end, is_string_byte}
use Rattle.lists.specs.Bytes.{within-yes}
use Rattle.strings.specs.Decoded.{is_plain}

module _ (b : ℕ) where
  pub plain-above : 34 < b → b ≤ 255 → is_plain b ≡ not (eqb b 92)
  unfolding is_plain is_string_byte is_line_end
  plain-above h k =
      rw (within-yes 1 255 b (omega arith) k, ne_eqb b 10 (λ e. omega arith), ne_eqb b 13 (λ e. omega arith), ne_eqb b 34 (λ e. omega arith))

  pub plain-quote : b ≡ 34 → is_plain b ≡ false
  unfolding is_plain is_string_byte is_line_end within
  plain-quote e = rw e

  pub plain-below : b ≤ 34 → (b ≡ 34 → ⊥) → is_plain b ≡ is_string_byte b
  unfolding is_plain
  plain-below h d = rw (ne_eqb b 34 d, ne_eqb b 92 (λ e. omega arith)) (and-true (is_string_byte b))
