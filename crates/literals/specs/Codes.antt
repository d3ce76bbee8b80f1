-- The codes of a constant's bits, highest first.
use Rattle.std.specs.Prelude.{◌≡◌, true, List, ◌++◌, map, reverse, ℕ, drop, replicate}
use Rattle.rules.specs.Tokens.{Literal, digit}
use Rattle.rules.specs.Signals.{binary, literal_bits, top_filler}
use Rattle.rules.specs.Layout.{digit_code}
use Rattle.strings.specs.Decoded.{closes}
use Rattle.tokens.specs.declared.ConstantSpan.{ConstantSpan}
use Rattle.tokens.specs.declared.ConstantSpan.TheVariants as constant

-- a string has its closing quote
abbrev pub Whole : List ℕ → ConstantSpan → Type 0
Whole f (constant.Integer z) = Unit {0}
Whole f (constant.Value a b c) = Unit {0}
Whole f (constant.Text a) = closes (drop a f) ≡ true

-- the codes of a constant's bits, highest first
abbrev pub codes : Literal → List ℕ
codes l = reverse (map digit_code (literal_bits l))

-- of the lowest k bits of a word
unfoldable pub word_codes : ℕ → ℕ → List ℕ
word_codes k w = reverse (map digit_code (binary k w))

-- of the digits that bytes write, behind so many that fill
unfoldable pub filled_codes : (filler : ℕ) → ℕ → List ℕ → List ℕ
filled_codes x fills bs = replicate fills x ++ map (λ b. digit_code (digit b)) bs

-- the code of what fills a value with these digits
unfoldable pub filler_code : List ℕ → ℕ
filler_code bs = digit_code (top_filler (map digit bs))
