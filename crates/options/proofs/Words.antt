-- The words that options start with, by their numbers.
-- Assumes nothing.
use mathlib.Core.Path.{◌≡◌, refl}
use mathlib.Core.Bool.{Bool, true, false, cond}
use mathlib.Core.List.{List, ◌∷◌}
use mathlib.Core.Option.{Option, none, some}
use Prim.Native.Nat.{ℕ}
use Prim.Native.String.{String}
use native.Mathlib.Omega.{arith}
use Rattle.rules.specs.Bytes.{any, bytes_open}
use Rattle.rules.specs.Tokens.{Token, word, keywords}
use Rattle.rules.specs.Statements.{Opt}
use Rattle.rules.specs.Shapes.{offers, choice, of₁, int, is_word, wire_option_forms, memory_option_forms, numbered, flag, shapes_open}
use Rattle.scanner.specs.Words.{keyword_at}
use Rattle.tokens.proofs.Words.{word-is}
use Rattle.options.specs.Forms.{forms, codes, accepted, is_flag, number_codes, option_codes, is_option}
use Rattle.lists.specs.Elements.{◌then◌, by-any, each_all, none_any}

pub offers-word : (m : Bool) (c : ℕ) → offers (forms m) (word (keyword_at c)) ≡ accepted m c
unfolding offers any forms accepted codes wire_option_forms memory_option_forms numbered flag keywords keyword_at
offers-word true c =
    rw (word-is "width" c 7 refl (omega arith), word-is "size" c 15 refl (omega arith), word-is "offset" c 8 refl (omega arith))
offers-word false c =
    rw (
      word-is "width" c 7 refl (omega arith),
      word-is "offset" c 8 refl (omega arith),
      word-is "input" c 9 refl (omega arith),
      word-is "output" c 10 refl (omega arith),
      word-is "inout" c 11 refl (omega arith),
      word-is "upto" c 12 refl (omega arith),
      word-is "signed" c 13 refl (omega arith),
    )

-- what the word of an option announces
unfoldable pub parsed : ℕ → List Token → Option (Opt × List Token)
parsed c ts = cond (is_flag c) (some ((keyword_at c, none), ts)) (of₁ (λ i. (keyword_at c, some i)) int ts)

pub choice-word : (m : Bool) (ts : List Token) (c : ℕ) → accepted m c ≡ true → choice (forms m) (word (keyword_at c) ∷ ts) ≡ parsed c ts
unfolding shapes_open bytes_open keywords keyword_at forms accepted codes parsed is_flag
choice-word true ts =
    by-any (λ c. choice (forms true) (word (keyword_at c) ∷ ts) ≡ parsed c ts) (codes true) (refl then refl then refl then tt)
choice-word false ts =
    by-any (λ c. choice (forms false) (word (keyword_at c) ∷ ts) ≡ parsed c ts) (codes false) (refl then refl then refl then refl then refl then refl then refl then tt)

pub accepted-option : (m : Bool) (c : ℕ) → accepted m c ≡ true → is_option c ≡ true
unfolding accepted codes is_option option_codes number_codes any
accepted-option true = by-any (λ c. is_option c ≡ true) (codes true) (refl then refl then refl then tt)
accepted-option false = by-any (λ c. is_option c ≡ true) (codes false) (refl then refl then refl then refl then refl then refl then refl then tt)

-- an option starts with a word
pub offers-not : (m : Bool) (t : Token) → ((w : String) → is_word w t ≡ false) → offers (forms m) t ≡ false
unfolding offers
offers-not m t h = none_any _ (forms m) (each_all _ (λ c. h c.0) (forms m))
