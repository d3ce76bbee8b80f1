-- One turn of the machine gives few bytes, and none of them is 0.
-- Assumes nothing.
use mathlib.Core.Path.{◌≡◌, refl}
use mathlib.Core.Bool.{true, not, cond}
use mathlib.Core.List.{List, [], ◌∷◌}
use Prim.Native.Nat.{ℕ, ◌+◌, ◌*◌, ◌-◌, ◌≤◌}
use native.Mathlib.Omega.{arith}
use lib.ListN.{length}
use lib.Dec.{ltb, eqb}
use Rattle.rules.specs.Bytes.{byte, all, within, is_octal, is_line_end, is_string_byte}
use Rattle.rules.specs.Tokens.{Inside, plain, escape, octal, Turn, goes, ends, breaks, plain_turn, escape_turn, onto, octal_byte, octal_turn, turn}
use Rattle.lists.specs.Tests.{by_cond, and-true-left}
use Rattle.lists.specs.Bytes.{within-yes, within_low}

-- a digit of an octal can be counted from `0`
pub octal-digit : (b : ℕ) → is_octal b ≡ true → byte "0" ≤ b
unfolding is_octal
octal-digit b e = within_low (byte "0") (byte "7") b e

-- a byte that is not 0
pub byte-in : (n : ℕ) → (n ≡ 0 → ⊥) → n ≤ 255 → within 1 255 n ≡ true
byte-in n h k = within-yes 1 255 n (omega arith) k

-- how many bytes may still come beyond one for each byte read: an octal's own
unfoldable pub held : Inside → ℕ
held plain = 0
held escape = 0
held (octal k n) = 1

-- every byte is from 1 to 255
abbrev pub AllBytes : List ℕ → Type 0
AllBytes bs = all (within 1 255) bs ≡ true

-- a turn gives at most one byte for the byte read, with what was held; the closing quote gives only what was held
abbrev pub Fine : Inside → Turn → Type 0
Fine j (goes bs k) = (length bs + held k ≤ 1 + held j) × AllBytes bs
Fine j (ends bs) = (length bs ≤ held j) × AllBytes bs
Fine j breaks = Unit {0}

one-fine : (j : Inside) (b : ℕ) → within 1 255 b ≡ true → Fine j (goes (b ∷ []) plain)
unfolding held all
one-fine j b e = (omega arith, rw e)

-- a byte that may stand in a string raw
raw-fine : (j : Inside) (b : ℕ) → Fine j (cond (is_string_byte b) (goes (b ∷ []) plain) breaks)
unfolding is_string_byte
raw-fine j b =
    by_cond (Fine j) (is_string_byte b) (λ e. one-fine j b (and-true-left (within 1 255 b) (not (is_line_end b)) e)) (λ e. tt)

plain-fine : (b : ℕ) → Fine plain (plain_turn b)
unfolding plain_turn held all
plain-fine b =
    by_cond (Fine plain) (eqb b (byte "\"")) (λ e. (omega arith, refl))
    (λ e. by_cond (Fine plain) (eqb b (byte "\\")) (λ e. (omega arith, refl)) (λ e. raw-fine plain b))

escape-fine : (b : ℕ) → Fine escape (escape_turn b)
unfolding escape_turn held all within
escape-fine b =
    by_cond (Fine escape) (is_octal b) (λ e. (omega arith, refl))
    (λ e. by_cond (Fine escape) (eqb b (byte "n")) (λ e. one-fine escape 10 refl)
    (λ e. by_cond (Fine escape) (eqb b (byte "t")) (λ e. one-fine escape 9 refl) (λ e. raw-fine escape b)))

module _ (k n m : ℕ) where
  onto-fine : (t : Turn) → within 1 255 m ≡ true → Fine plain t → Fine (octal k n) (onto m t)
  unfolding onto held all
  onto-fine (goes bs i) e f = (omega (arith, f.0), rw e f.1)
  onto-fine (ends bs) e f = (omega (arith, f.0), rw e f.1)
  onto-fine breaks e f = tt

  byte-fine : (t : Turn) → Fine plain t → Fine (octal k n) (octal_byte m t)
  unfolding octal_byte
  byte-fine t f = by_cond (Fine (octal k n)) (within 1 255 m) (λ e. onto-fine t e f) (λ e. tt)

octal-fine : (k n b : ℕ) → Fine (octal k n) (octal_turn k n b)
unfolding octal_turn held all
octal-fine k n b =
    let m = n * 8 + (b - byte "0") in
    by_cond (Fine (octal k n)) (is_octal b)
    (λ e. by_cond (Fine (octal k n)) (ltb k 2) (λ e. (omega arith, refl)) (λ e. byte-fine k n m (goes [] plain) (omega arith, refl)))
    (λ e. byte-fine k n n (plain_turn b) (plain-fine b))

pub turn-fine : (j : Inside) (b : ℕ) → Fine j (turn j b)
unfolding turn
turn-fine plain b = plain-fine b
turn-fine escape b = escape-fine b
turn-fine (octal k n) b = octal-fine k n b
