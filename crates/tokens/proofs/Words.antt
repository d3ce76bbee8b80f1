-- Keywords told apart by their numbers.
-- Assumes nothing.
use mathlib.Core.Path.{◌≡◌, refl, sym, ap, ◌∙◌}
use mathlib.Core.List.{[]}
use Prim.Native.Nat.{ℕ, ◌<◌, ◌≤◌}
use Prim.Native.String.{String}
use native.Mathlib.Omega.{arith}
use lib.Dec.{eqb, ltb}
use lib.ListN.{get_or-eq_default}
use borrow.Author.Tests.{ltb-true, ltb-false, ne_eqb}
use Rattle.rules.specs.Bytes.{bytes, same}
use Rattle.rules.specs.Tokens.{keywords, word}
use Rattle.rules.specs.Shapes.{is_word}
use Rattle.scanner.specs.Words.{keyword_at, keyword_number, place_in}
use Rattle.lists.specs.Tests.{by-test}
use Rattle.scanner.proofs.WordLaws.{keyword-is, keyword-numbered}

-- no keyword has a number of 32 or more
pub keyword-beyond : (c : ℕ) → 32 ≤ c → keyword_at c ≡ []
unfolding keyword_at keywords
keyword-beyond c h = get_or-eq_default keywords [] {n = c} h

none_number : keyword_number [] ≡ 32
unfolding keyword_number place_in keywords same
none_number = refl

pub keyword-same : (c d : ℕ) → d < 32 → same (keyword_at c) (keyword_at d) ≡ eqb c d
keyword-same c d h =
    keyword-is (keyword_at c) d h
    ∙ by-test (ltb c 32)
    (λ e. ap (λ (k : ℕ). eqb k d) (keyword-numbered c (ltb-true c 32 e)))
    (λ e.
    let g : 32 ≤ c = ltb-false c 32 e in
    ap (λ (k : ℕ). eqb k d) (ap keyword_number (keyword-beyond c g) ∙ none_number)
    ∙ ne_eqb 32 d (λ q. omega arith)
    ∙ sym (ne_eqb c d (λ q. omega arith)))

-- a word token is the keyword w just where its number is w's
pub word-is : (w : String) (c d : ℕ) → bytes w ≡ keyword_at d → d < 32 → is_word w (word (keyword_at c)) ≡ eqb c d
unfolding is_word
word-is w c d e h = ap (same (keyword_at c)) e ∙ keyword-same c d h
