-- Keywords by their numbers.
use Rattle.std.specs.Prelude.{ℕ, suc, ◌+◌, ◌*◌, List, [], ◌∷◌, cond, eqb, get_or}
use Rattle.rules.specs.Bytes.{same}
use Rattle.rules.specs.Tokens.{keywords}

-- the position of a word in a list, the list's length if it is none of them
unfoldable pub place_in : List ℕ → List (List ℕ) → ℕ
place_in w [] = 0
place_in w (k ∷ ks) = let r = suc (place_in w ks) in cond (same w k) 0 r

-- the position of a word in the keywords, 32 if it is none
unfoldable pub keyword_number : List ℕ → ℕ
keyword_number w = place_in w keywords

-- the keyword with a number, [] beyond
unfoldable pub keyword_at : ℕ → List ℕ
keyword_at k = get_or keywords k []

-- a word as one number: its bytes as the digits, the first lowest, and 1 as the highest
unfoldable pub word_code : List ℕ → ℕ
word_code [] = 1
word_code (b ∷ bs) = b + 256 * word_code bs

-- the position of a number among the codes of words, and among the codes of the keywords
unfoldable pub code_in : ℕ → List (List ℕ) → ℕ
code_in n [] = 0
code_in n (k ∷ ks) = let r = suc (code_in n ks) in cond (eqb n (word_code k)) 0 r

unfoldable pub code_number : ℕ → ℕ
code_number n = code_in n keywords
