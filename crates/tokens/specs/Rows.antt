-- The tokens that the rows of a table hold over a file's bytes.
use Rattle.std.specs.Prelude.{ℕ, zero, suc, ◌+◌, ◌-◌, ◌*◌, ◌/◌, ◌<◌, List, [], ◌∷◌, map, Bool, true, false, cond, length, get_or, drop, ℤ, ltb, eqb}
use Rattle.std.proofs.Math.Seq.{slice}
use Rattle.rules.specs.Tokens as rules
use Rattle.numbers.specs.Signed.{integer_of}
use Rattle.scanner.specs.Words.{keyword_at}
use Rattle.strings.specs.Decoded.{decoded}
use Rattle.tokens.specs.declared.Integer.{Integer}
use Rattle.tokens.specs.declared.ConstantSpan.{ConstantSpan}
use Rattle.tokens.specs.declared.ConstantSpan.TheVariants as constant
use Rattle.tokens.specs.declared.Token.{Token}
use Rattle.tokens.specs.declared.Token.TheVariants.{Name, Word, Constant as Constantly, Mark, End}

-- the integer of a sign and a span of digits
unfoldable pub integer_in : List ℕ → Integer → ℤ
integer_in f z = integer_of z.negative (rules.decimal (slice z.start z.end f))

unfoldable pub literal_in : List ℕ → ConstantSpan → rules.Literal
literal_in f (constant.Integer z) = rules.integer (integer_in f z)
literal_in f (constant.Value a b c) = rules.value (rules.decimal (slice a b f)) (map rules.digit (slice (b + 1) c f))
literal_in f (constant.Text a) = rules.string (decoded (drop a f))

-- a row's token in front of tokens; where no row is left there are none
unfoldable pub front : List ℕ → Token → List rules.Token → List rules.Token
front f (Name a b) ts = rules.name (slice a b f) ∷ ts
front f (Word c) ts = rules.word (keyword_at c) ∷ ts
front f (Constantly c) ts = rules.literal (literal_in f c) ∷ ts
front f (Mark b) ts = rules.mark b ∷ ts
front f End ts = []

-- a row's token
unfoldable pub token_in : List ℕ → Token → rules.Token
token_in f x = get_or (front f x []) 0 (rules.mark 0)

-- a row stands there
abbrev pub Present : Token → Type 0
Present (Name a b) = Unit {0}
Present (Word c) = Unit {0}
Present (Constantly c) = Unit {0}
Present (Mark b) = Unit {0}
Present End = ⊥

-- the kinds of rows
abbrev pub name_row : ℕ
name_row = 0

abbrev pub word_row : ℕ
word_row = 1

abbrev pub integer_row : ℕ
integer_row = 2

abbrev pub value_row : ℕ
value_row = 3

abbrev pub text_row : ℕ
text_row = 4

abbrev pub mark_row : ℕ
mark_row = 5

-- a row of four words
unfoldable pub token_of : (k a b c : ℕ) → Token
token_of k a b c =
    cond (eqb k name_row) (Name a b)
    (cond (eqb k word_row) (Word a)
    (cond (eqb k integer_row) (Constantly (constant.Integer (record { negative = eqb c 1; start = a; end = b })))
    (cond (eqb k value_row) (Constantly (constant.Value a b c))
    (cond (eqb k text_row) (Constantly (constant.Text a)) (Mark a)))))

unfoldable pub row_of : List ℕ → ℕ → Token
row_of t i = token_of (get_or t (4 * i) 0) (get_or t (4 * i + 1) 0) (get_or t (4 * i + 2) 0) (get_or t (4 * i + 3) 0)

unfoldable pub token_at : List ℕ → ℕ → Token
token_at t i = cond (ltb i (length t / 4)) (row_of t i) End

-- the words of a row
unfoldable pub sign_word : Bool → ℕ
sign_word true = 1
sign_word false = 0

unfoldable pub constant_words : ConstantSpan → List ℕ
constant_words (constant.Integer z) = integer_row ∷ z.start ∷ z.end ∷ sign_word z.negative ∷ []
constant_words (constant.Value a b c) = value_row ∷ a ∷ b ∷ c ∷ []
constant_words (constant.Text a) = text_row ∷ a ∷ 0 ∷ 0 ∷ []

unfoldable pub row_words : Token → List ℕ
row_words (Name a b) = name_row ∷ a ∷ b ∷ 0 ∷ []
row_words (Word c) = word_row ∷ c ∷ 0 ∷ 0 ∷ []
row_words (Constantly c) = constant_words c
row_words (Mark b) = mark_row ∷ b ∷ 0 ∷ 0 ∷ []
row_words End = mark_row ∷ 0 ∷ 0 ∷ 0 ∷ []

-- each number fits a word
abbrev pub SmallConstant : ConstantSpan → Type 0
SmallConstant (constant.Integer z) = (z.start < 4294967296) × (z.end < 4294967296)
SmallConstant (constant.Value a b c) = (a < 4294967296) × (b < 4294967296) × (c < 4294967296)
SmallConstant (constant.Text a) = a < 4294967296

abbrev pub Small : Token → Type 0
Small (Name a b) = (a < 4294967296) × (b < 4294967296)
Small (Word c) = c < 4294967296
Small (Constantly c) = SmallConstant c
Small (Mark b) = b < 4294967296
Small End = Unit {0}

-- the tokens of k rows from row i on, and of all rows from row i on
unfoldable pub rows_from : List ℕ → List ℕ → ℕ → ℕ → List rules.Token
rows_from f t zero i = []
rows_from f t (suc k) i = front f (row_of t i) (rows_from f t k (i + 1))

unfoldable pub line : List ℕ → List ℕ → ℕ → List rules.Token
line f t i = rows_from f t (length t / 4 - i) i
