-- A written line holds no line end, and lines are read back.
-- Assumes nothing.
use Rattle.std.specs.Prelude.{◌≡◌, refl, Bool, true, false, cond, ℕ, zero, suc, ◌+◌, ◌/◌, ◌%◌, ◌≤◌, eqb, pos, negsuc, length, replicate}
use Rattle.std.proofs.Common.{ap, ◌∙◌, arith, ne_eqb}
use mathlib.Core.List.{List, [], ◌∷◌, ◌++◌, map, flat_map}
use Rattle.std.proofs.lemmas.Bool.{not-true}
use Rattle.rules.specs.Bytes.{all, is_line_end, is_name_start, is_name_byte, is_lower, is_digit, is_mark, legal, bytes_open}
use Rattle.rules.specs.Tokens.{Digit, S0, S1, Sx, Sz, Sm, Sa, Literal, value, integer, string, Token, name, word, literal, mark}
use Rattle.rules.specs.Lines.{Line, longer, lines_from}
use Rattle.rules.specs.Text.{decimal_text, integer_text, digit_byte, escaped, literal_text, token_text, tight, behind, spaced}
use Rattle.lists.specs.Tests.{by_cond, by-lt}
use Rattle.lists.specs.Bytes.{within_low}
use Rattle.scanner.proofs.LineLaws.{in_line}
use Rattle.lists.specs.Elements.{all_append, by-any, all-implied, all_cons, all_first, all-later, all_map, all-each, all-flat_map}
use Rattle.written.specs.NumberLaws.{Digits, some-digits, decimal-digits}
use Rattle.written.specs.TokenLaws.{fine_token, legal-start, legal-bytes, keyword-lower}

above-ends : (b : ℕ) → 14 ≤ b → in_line b ≡ true
unfolding is_line_end
above-ends b h = rw (ne_eqb b 10 (λ e. omega arith), ne_eqb b 13 (λ e. omega arith))

name-byte-in : (b : ℕ) → is_name_byte b ≡ true → in_line b ≡ true
unfolding is_name_byte
name-byte-in b h = above-ends b (omega (arith, within_low 33 255 b h))

name-start-in : (b : ℕ) → is_name_start b ≡ true → in_line b ≡ true
unfolding bytes_open
name-start-in b h = by-any (λ b. in_line b ≡ true) (92 ∷ 36 ∷ []) (refl, (refl, tt)) b h

mark-in : (b : ℕ) → is_mark b ≡ true → in_line b ≡ true
unfolding bytes_open
mark-in b h = by-any (λ b. in_line b ≡ true) (123 ∷ 125 ∷ 91 ∷ 93 ∷ 58 ∷ 44 ∷ []) (refl, (refl, (refl, (refl, (refl, (refl, tt)))))) b h

lower_in : (b : ℕ) → is_lower b ≡ true → in_line b ≡ true
unfolding is_lower
lower_in b h = above-ends b (omega (arith, within_low 97 122 b h))

digit-in : (b : ℕ) → is_digit b ≡ true → in_line b ≡ true
unfolding is_digit
digit-in b h = above-ends b (omega (arith, within_low 48 57 b h))

value-digit-in : (d : Digit) → in_line (digit_byte d) ≡ true
unfolding digit_byte bytes_open
value-digit-in S0 = refl
value-digit-in S1 = refl
value-digit-in Sx = refl
value-digit-in Sz = refl
value-digit-in Sm = refl
value-digit-in Sa = refl

digits-free : {ds : List ℕ} → Digits ds → all in_line ds ≡ true
digits-free (some-digits {d} {ds} h a) = all-implied is_digit in_line digit-in (d ∷ ds) (all_cons is_digit d ds h a)

decimal-free : (n : ℕ) → all in_line (decimal_text n) ≡ true
decimal-free n = digits-free (decimal-digits n)

octal-free : (b : ℕ) → all in_line (92 ∷ 48 ∷ (48 + b / 8) ∷ (48 + b % 8) ∷ []) ≡ true
unfolding all
octal-free b = rw (above-ends 92 (omega arith), above-ends 48 (omega arith), above-ends (48 + b / 8) (omega arith), above-ends (48 + b % 8) (omega arith))

byte-free : (b : ℕ) → 32 ≤ b → all in_line (b ∷ []) ≡ true
unfolding all
byte-free b h = rw (above-ends b (omega arith))

escaped-free : (b : ℕ) → all in_line (escaped b) ≡ true
unfolding escaped bytes_open
escaped-free b =
    let P : List ℕ → Type 0 = λ m. all in_line m ≡ true in
    by_cond P (eqb b 34) (λ t. refl)
    (λ q. by_cond P (eqb b 92) (λ t. refl)
    (λ s. by_cond P (eqb b 10) (λ t. refl)
    (λ n. by_cond P (eqb b 9) (λ t. refl)
    (λ m. by-lt P b 32 (λ t. octal-free b) (byte-free b)))))

string-free : (s : List ℕ) → all in_line (flat_map escaped s) ≡ true
string-free s = all-flat_map in_line escaped escaped-free s

literal-free : (c : Literal) → all in_line (literal_text c) ≡ true
unfolding literal_text integer_text
literal-free (value w ds) =
    all_append in_line (decimal_text w) (39 ∷ map digit_byte ds) (decimal-free w)
    (all_cons in_line 39 (map digit_byte ds) (above-ends 39 (omega arith)) (all_map in_line digit_byte ds ∙ all-each (λ d. in_line (digit_byte d)) value-digit-in ds))
literal-free (integer (pos n)) = decimal-free n
literal-free (integer (negsuc n)) = all_cons in_line 45 (decimal_text (n + 1)) (above-ends 45 (omega arith)) (decimal-free (n + 1))
literal-free (string s) =
    all_cons in_line 34 (flat_map escaped s ++ 34 ∷ []) (above-ends 34 (omega arith))
    (all_append in_line (flat_map escaped s) (34 ∷ []) (string-free s) (byte-free 34 (omega arith)))

name_free : (n : List ℕ) → legal n ≡ true → all in_line n ≡ true
unfolding all
name_free [] f = refl
name_free (b ∷ bs) f =
    all_cons in_line b bs (name-start-in b (legal-start b bs f)) (all-implied is_name_byte in_line name-byte-in bs (legal-bytes b bs f))

token-free : (t : Token) → fine_token t ≡ true → all in_line (token_text t) ≡ true
unfolding token_text fine_token all
token-free (name n) f = name_free n f
token-free (word w) f = all-implied is_lower in_line lower_in w (keyword-lower w f)
token-free (literal c) f = literal-free c
token-free (mark m) f = rw (mark-in m f)

gap-free : (b : Bool) → all in_line (cond b [] (32 ∷ [])) ≡ true
unfolding all
gap-free true = refl
gap-free false = byte-free 32 (omega arith)

behind-free : (t : Token) (ts : List Token) → all fine_token ts ≡ true → all in_line (behind t ts) ≡ true
unfolding behind all
behind-free t [] f = refl
behind-free t (u ∷ us) f =
    all_append in_line (cond (tight t u) [] (32 ∷ []) ++ token_text u) (behind u us)
    (all_append in_line (cond (tight t u) [] (32 ∷ [])) (token_text u) (gap-free (tight t u)) (token-free u (all_first fine_token u us f)))
    (behind-free u us (all-later fine_token u us f))

spaced-free : (ts : List Token) → all fine_token ts ≡ true → all in_line (spaced ts) ≡ true
unfolding spaced all
spaced-free [] f = refl
spaced-free (t ∷ ts) f =
    all_append in_line (token_text t) (behind t ts) (token-free t (all_first fine_token t ts f)) (behind-free t ts (all-later fine_token t ts f))

spaces-free : (k : ℕ) → all in_line (replicate k 32) ≡ true
unfolding all
spaces-free zero = refl
spaces-free (suc k) = all_cons in_line 32 (replicate k 32) (above-ends 32 (omega arith)) (spaces-free k)

-- a written line holds no line end
pub line-free : (k : ℕ) (ts : List Token) → all fine_token ts ≡ true → all in_line (replicate k 32 ++ spaced ts) ≡ true
line-free k ts f = all_append in_line (replicate k 32) (spaced ts) (spaces-free k) (spaced-free ts f)

abbrev pub line_at : ℕ → List ℕ → Bool → Line
line_at p t e = record { start = p; text = t; ended = e }

in-false : (b : ℕ) → in_line b ≡ true → is_line_end b ≡ false
in-false b h = not-true (is_line_end b) h

-- the lines from a line on that has its end
pub lines-first : (at : ℕ) (t l : List ℕ) → all in_line t ≡ true → lines_from at (t ++ 10 ∷ l) ≡ line_at at t true ∷ lines_from (at + length t + 1) l
unfolding lines_from longer bytes_open
lines-first at [] l a = ap (λ (p : ℕ). line_at at [] true ∷ lines_from p l) (omega arith)
lines-first at (b ∷ t) l a =
    rw (in-false b (all_first in_line b t a), lines-first (at + 1) t l (all-later in_line b t a))
    (ap (λ (p : ℕ). line_at at (b ∷ t) true ∷ lines_from p l) (omega arith))
