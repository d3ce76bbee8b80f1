-- A string's written bytes are read back.
-- Assumes nothing.
use Rattle.std.specs.Prelude.{◌≡◌, true, false, eqb}
use Rattle.std.proofs.Math.Path.{refl}
use Rattle.std.proofs.Common.{ap, ◌∙◌}
use mathlib.Core.List.{List, [], ◌∷◌, ◌++◌, flat_map, append_assoc}
use Prim.Native.Nat.{ℕ, ◌+◌, ◌-◌, ◌*◌, ◌/◌, ◌%◌, ◌<◌, ◌≤◌}
use native.Mathlib.Omega.{arith}
use borrow.Author.Tests.{eqb-true, ne_eqb}
use Rattle.rules.specs.Bytes.{all, within, is_octal, is_string_byte, is_line_end, bytes_open}
use Rattle.rules.specs.Tokens.{Inside, plain, escape, octal, goes, closed, turn, octal_turn, octal_byte, onto, plain_turn, escape_turn, quoted_onto, quoted_by, quoted}
use Rattle.rules.specs.Text.{escaped}
use Rattle.lists.specs.Tests.{by_cond, by-lt}
use Rattle.lists.specs.Bytes.{within-yes, within_low, within-high}
use Rattle.lists.specs.Lists.{onto-none}
use Rattle.lists.specs.Elements.{all_first, all-later}

-- a byte that gives bytes, and one that gives none
module _ (i j : Inside) (b : ℕ) (l : List ℕ) where
  quoted-gives : (bs : List ℕ) → turn i b ≡ goes bs j → quoted i (b ∷ l) ≡ quoted_onto bs (quoted j l)
  unfolding quoted quoted_by
  quoted-gives bs e = rw e

  quoted-skips : turn i b ≡ goes [] j → quoted i (b ∷ l) ≡ quoted j l
  quoted-skips e = quoted-gives [] e ∙ onto-none (quoted j l)

eightfold : (n : ℕ) → n < 8 → is_octal (48 + n) ≡ true
unfolding is_octal
eightfold n h = within-yes 48 55 (48 + n) (omega arith) (omega arith)

module _ (b : ℕ) (l : List ℕ) (low : 1 ≤ b) (high : b ≤ 255) where
  octal-second : b < 32 → turn (octal 1 0) (48 + b / 8) ≡ goes [] (octal 2 (b / 8))
  unfolding turn octal_turn
  octal-second h =
      let e : 0 * 8 + (48 + b / 8 - 48) ≡ b / 8 = omega arith in
      rw (eightfold (b / 8) (omega arith)) (ap (λ (m : ℕ). goes [] (octal 2 m)) e)

  octal-third : b < 32 → turn (octal 2 (b / 8)) (48 + b % 8) ≡ goes (b ∷ []) plain
  unfolding turn octal_turn octal_byte onto
  octal-third h =
      let e : b / 8 * 8 + (48 + b % 8 - 48) ≡ b = omega arith in
      rw (eightfold (b % 8) (omega arith), e, within-yes 1 255 b low high)

  as-octal : b < 32 → quoted plain (92 ∷ 48 ∷ (48 + b / 8) ∷ (48 + b % 8) ∷ l) ≡ quoted_onto (b ∷ []) (quoted plain l)
  unfolding turn plain_turn escape_turn bytes_open
  as-octal h =
      quoted-skips plain escape 92 (48 ∷ (48 + b / 8) ∷ (48 + b % 8) ∷ l) refl
      ∙ quoted-skips escape (octal 1 0) 48 ((48 + b / 8) ∷ (48 + b % 8) ∷ l) refl
      ∙ quoted-skips (octal 1 0) (octal 2 (b / 8)) (48 + b / 8) ((48 + b % 8) ∷ l) (octal-second h)
      ∙ quoted-gives (octal 2 (b / 8)) plain (48 + b % 8) l (b ∷ []) (octal-third h)

  as_plain : 32 ≤ b → eqb b 34 ≡ false → eqb b 92 ≡ false → quoted plain (b ∷ l) ≡ quoted_onto (b ∷ []) (quoted plain l)
  unfolding turn plain_turn is_string_byte is_line_end
  as_plain h q s =
      quoted-gives plain plain b l (b ∷ [])
      (rw (q, s, within-yes 1 255 b low high, ne_eqb b 10 (λ e. omega arith), ne_eqb b 13 (λ e. omega arith)))

  -- `\` and a byte that stands for b
  as-escape : (c : ℕ) → turn escape c ≡ goes (b ∷ []) plain → quoted plain (92 ∷ c ∷ l) ≡ quoted_onto (b ∷ []) (quoted plain l)
  unfolding turn plain_turn bytes_open
  as-escape c e = quoted-skips plain escape 92 (c ∷ l) refl ∙ quoted-gives escape plain c l (b ∷ []) e

  pub quoted-escaped : quoted plain (escaped b ++ l) ≡ quoted_onto (b ∷ []) (quoted plain l)
  unfolding escaped turn escape_turn bytes_open
  quoted-escaped =
      let P : List ℕ → Type 0 = λ m. quoted plain (m ++ l) ≡ quoted_onto (b ∷ []) (quoted plain l) in
      by_cond P (eqb b 34) (λ t. as-escape 34 (rw (eqb-true b 34 t)))
      (λ q. by_cond P (eqb b 92) (λ t. as-escape 92 (rw (eqb-true b 92 t)))
      (λ s. by_cond P (eqb b 10) (λ t. as-escape 110 (rw (eqb-true b 10 t)))
      (λ n. by_cond P (eqb b 9) (λ t. as-escape 116 (rw (eqb-true b 9 t)))
      (λ m. by-lt P b 32 as-octal (λ t. as_plain t q s)))))

pub quoted-string : (s l : List ℕ) → all (within 1 255) s ≡ true → quoted plain (flat_map escaped s ++ 34 ∷ l) ≡ closed s l
unfolding flat_map quoted quoted_by turn plain_turn quoted_onto
quoted-string [] l a = refl
quoted-string (b ∷ s) l a =
    rw append_assoc
    (quoted-escaped b (flat_map escaped s ++ 34 ∷ l) (within_low 1 255 b (all_first (within 1 255) b s a)) (within-high 1 255 b (all_first (within 1 255) b s a))
    ∙ ap (quoted_onto (b ∷ [])) (quoted-string s l (all-later (within 1 255) b s a)))
