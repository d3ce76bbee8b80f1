-- The tokens of a written line are read back.
-- Assumes nothing.
use Rattle.std.specs.Prelude.{◌≡◌, Bool, false, cond, ◌||◌, eqb, pos, negsuc, neg_ℤ, length, get_or, replicate}
use Rattle.std.proofs.Math.Path.{refl, ap}
use Rattle.std.proofs.Common.{◌∙◌, arith, length-append, eqb-true, ne_eqb}
use Rattle.std.proofs.Math.Bool.{true}
use Rattle.std.proofs.lemmas.Bool.{false≢true}
use mathlib.Core.List.{List, [], ◌∷◌, ◌++◌, map, append_assoc, flat_map}
use Prim.Native.Nat.{ℕ, zero, suc, ◌+◌, ◌≤◌}
use Rattle.std.proofs.Math.Numerals.{add-one}
use Rattle.std.proofs.lemmas.List.{length-replicate}
use Rattle.rules.specs.Bytes.{same, all, any, within, one_of, is_blank, is_name_start, is_name_byte, is_lower, is_digit, is_value_digit, is_mark, legal, run, rest, bytes_open}
use Rattle.rules.specs.Tokens.{Digit, S0, S1, Sx, Sz, Sm, Sa, Literal, value, integer, string, Token, name, word, literal, mark, keywords, is_keyword, decimal, digit, token, done, separate, parted, name_step, word_step, integer_step, value_step, number_step, minus_step, string_step, step_at, step, good, tokens_onto, tokens_by, tokens_from, tokens}
use Rattle.rules.specs.Shapes as shapes
use Rattle.rules.specs.Text.{decimal_text, integer_text, digit_byte, escaped, literal_text, token_text, tight, behind, spaced}
use Rattle.lists.specs.Tests.{by-test}
use Rattle.lists.specs.Bytes.{same-eq, within-below, within_low, within-high}
use Rattle.lists.specs.Elements.{by-any, by-found, each_of, all_first, all-later, all_cons, all_map, all-each, each_all, map_back, test_at}
use Rattle.written.specs.Runs.{Stops, run-upto, rest-upto}
use Rattle.written.specs.NumberLaws.{decimal-text, Digits, some-digits, decimal-digits}
use Rattle.written.specs.StringLaws.{quoted-string}

-- a token that can be written: a legal name, a keyword, any number or value, a string without byte 0, a mark
unfoldable pub fine_literal : Literal → Bool
fine_literal (value w ds) = true
fine_literal (integer i) = true
fine_literal (string s) = all (within 1 255) s

unfoldable pub fine_token : Token → Bool
fine_token (name n) = legal n
fine_token (word w) = is_keyword w
fine_token (literal c) = fine_literal c
fine_token (mark m) = is_mark m

-- (shut, so that the tokens are found)
unfoldable pub Fine : List Token → Type 0
Fine ts = all fine_token ts ≡ true

-- the end of a line or a space
data Gap : List ℕ → Type 0 where
  end : Gap []
  space : {l : List ℕ} → Gap (32 ∷ l)

-- the end of a line, a space, `]` or `:`
data Sep : List ℕ → Type 0 where
  end : Sep []
  space : {l : List ℕ} → Sep (32 ∷ l)
  bracket : {l : List ℕ} → Sep (93 ∷ l)
  colon : {l : List ℕ} → Sep (58 ∷ l)

gap-stops : {l : List ℕ} → Gap l → Stops is_name_byte l
unfolding bytes_open
gap-stops Gap.end = tt
gap-stops Gap.space = refl

sep-stops : (f : ℕ → Bool) → f 32 ≡ false → f 93 ≡ false → f 58 ≡ false → {l : List ℕ} → Sep l → Stops f l
sep-stops f x y z Sep.end = tt
sep-stops f x y z Sep.space = x
sep-stops f x y z bracket = y
sep-stops f x y z colon = z

separate-sep : (from : List ℕ) (t : Token) {l : List ℕ} → Sep l → separate from t l ≡ token t l
unfolding separate parted bytes_open
separate-sep from t Sep.end = refl
separate-sep from t Sep.space = refl
separate-sep from t bracket = refl
separate-sep from t colon = refl

-- ---- the first byte decides

digit-start : (b : ℕ) (bs : List ℕ) → is_digit b ≡ true → step (b ∷ bs) ≡ number_step (b ∷ bs) (decimal (b ∷ run is_digit bs)) (rest is_digit bs)
unfolding step step_at is_digit is_blank is_name_start is_lower one_of any
digit-start b bs h =
    let lo : 48 ≤ b = within_low 48 57 b h in
    let hi : b ≤ 57 = within-high 48 57 b h in
    rw (ne_eqb b 32 (λ e. omega arith), ne_eqb b 9 (λ e. omega arith), ne_eqb b 92 (λ e. omega arith), ne_eqb b 36 (λ e. omega arith), within-below 97 122 b (omega arith), h)

lower-start : (b : ℕ) (bs : List ℕ) → is_lower b ≡ true → step (b ∷ bs) ≡ word_step (b ∷ bs) (b ∷ run is_lower bs) (rest is_lower bs)
unfolding step step_at is_blank is_name_start is_lower one_of any
lower-start b bs h =
    let lo : 97 ≤ b = within_low 97 122 b h in
    rw (ne_eqb b 32 (λ e. omega arith), ne_eqb b 9 (λ e. omega arith), ne_eqb b 92 (λ e. omega arith), ne_eqb b 36 (λ e. omega arith), h)

name-start : (b : ℕ) (bs : List ℕ) → is_name_start b ≡ true → step (b ∷ bs) ≡ name_step (b ∷ bs) (b ∷ run is_name_byte bs) (rest is_name_byte bs)
unfolding step step_at bytes_open
name-start b bs h = by-any (λ b. step (b ∷ bs) ≡ name_step (b ∷ bs) (b ∷ run is_name_byte bs) (rest is_name_byte bs)) (92 ∷ 36 ∷ []) (refl, (refl, tt)) b h

mark-start : (b : ℕ) (bs : List ℕ) → is_mark b ≡ true → step (b ∷ bs) ≡ token (mark b) bs
unfolding step step_at bytes_open
mark-start b bs h =
    by-any (λ b. step (b ∷ bs) ≡ token (mark b) bs) (123 ∷ 125 ∷ 91 ∷ 93 ∷ 58 ∷ 44 ∷ []) (refl, (refl, (refl, (refl, (refl, (refl, tt)))))) b h

-- ---- each kind of token

module _ (b : ℕ) (bs : List ℕ) (h : legal (b ∷ bs) ≡ true) where
  legal-keeps : (i : ℕ) → get_or (is_name_start b ∷ all is_name_byte bs ∷ within 1 254 (length bs) ∷ []) i true ≡ true
  unfolding legal
  legal-keeps = test_at (is_name_start b) (all is_name_byte bs ∷ within 1 254 (length bs) ∷ []) h

  pub legal-start : is_name_start b ≡ true
  legal-start = legal-keeps 0

  pub legal-bytes : all is_name_byte bs ≡ true
  legal-bytes = legal-keeps 1

no_name : legal [] ≡ true → ⊥
unfolding legal
no_name h = false≢true h

name-step : (n l : List ℕ) → Gap l → legal n ≡ true → step (n ++ l) ≡ token (name n) l
unfolding name_step
name-step [] l g h = absurd (no_name h)
name-step (b ∷ bs) l g h =
    let bytes = legal-bytes b bs h in
    rw (name-start b (bs ++ l) (legal-start b bs h), run-upto is_name_byte bs l bytes (gap-stops g), rest-upto is_name_byte bs l bytes (gap-stops g), h)

-- a keyword has lowercase letters, and a first one
unfoldable lowers : List ℕ → Bool
lowers [] = false
lowers (b ∷ bs) = all is_lower (b ∷ bs)

keyword-lowers : (w : List ℕ) → is_keyword w ≡ true → lowers w ≡ true
unfolding is_keyword keywords lowers bytes_open
keyword-lowers w h = by-found same same-eq (λ w. lowers w ≡ true) keywords (each_of _ lowers (λ x e. e) keywords refl) w h

lower-all : (w : List ℕ) → lowers w ≡ true → all is_lower w ≡ true
unfolding lowers
lower-all [] k = absurd (false≢true k)
lower-all (b ∷ bs) k = k

pub keyword-lower : (w : List ℕ) → is_keyword w ≡ true → all is_lower w ≡ true
keyword-lower w h = lower-all w (keyword-lowers w h)

module _ (l : List ℕ) (s : Sep l) where
  no_digit : Stops is_digit l
  unfolding bytes_open
  no_digit = sep-stops is_digit refl refl refl s

  no_lower : Stops is_lower l
  unfolding bytes_open
  no_lower = sep-stops is_lower refl refl refl s

  no-value-digit : Stops is_value_digit l
  unfolding bytes_open
  no-value-digit = sep-stops is_value_digit refl refl refl s

  word-step : (w : List ℕ) → is_keyword w ≡ true → step (w ++ l) ≡ token (word w) l
  unfolding word_step lowers
  word-step [] h = absurd (false≢true (keyword-lowers [] h))
  word-step (b ∷ bs) h =
      let a : all is_lower (b ∷ bs) ≡ true = keyword-lower (b ∷ bs) h in
      let r : all is_lower bs ≡ true = all-later is_lower b bs a in
      rw (lower-start b (bs ++ l) (all_first is_lower b bs a), run-upto is_lower bs l r no_lower, rest-upto is_lower bs l r no_lower, h)
      (separate-sep (b ∷ bs ++ l) (word (b ∷ bs)) s)

-- digits, then what is no digit
digits_step : {ds : List ℕ} (l : List ℕ) → Digits ds → Stops is_digit l → step (ds ++ l) ≡ number_step (ds ++ l) (decimal ds) l
digits_step l (some-digits {d} {ds} h a) s = rw (digit-start d (ds ++ l) h, run-upto is_digit ds l a s, rest-upto is_digit ds l a s)

integer-step : (from : List ℕ) (n : ℕ) {l : List ℕ} → Sep l → number_step from n l ≡ token (literal (integer (pos n))) l
unfolding number_step integer_step separate parted bytes_open
integer-step from n Sep.end = refl
integer-step from n Sep.space = refl
integer-step from n bracket = refl
integer-step from n colon = refl

no-quote : is_digit 39 ≡ false
unfolding bytes_open
no-quote = refl

digit-back : (d : Digit) → digit (digit_byte d) ≡ d
unfolding digit digit_byte
digit-back S0 = refl
digit-back S1 = refl
digit-back Sx = refl
digit-back Sz = refl
digit-back Sm = refl
digit-back Sa = refl

digits-back : (ds : List Digit) → map digit (map digit_byte ds) ≡ ds
digits-back ds = map_back digit_byte digit ds (each_all _ digit-back ds)

digit-byte : (d : Digit) → is_value_digit (digit_byte d) ≡ true
unfolding digit_byte bytes_open
digit-byte S0 = refl
digit-byte S1 = refl
digit-byte Sx = refl
digit-byte Sz = refl
digit-byte Sm = refl
digit-byte Sa = refl

module _ (l : List ℕ) (s : Sep l) where
  pos-step : (n : ℕ) → step (decimal_text n ++ l) ≡ token (literal (integer (pos n))) l
  pos-step n =
      digits_step l (decimal-digits n) (no_digit l s)
      ∙ ap (λ (m : ℕ). number_step (decimal_text n ++ l) m l) (decimal-text n)
      ∙ integer-step (decimal_text n ++ l) n s

  minus-digits : (from ds : List ℕ) → Digits ds → minus_step from (run is_digit (ds ++ l)) (rest is_digit (ds ++ l)) ≡ token (literal (integer (neg_ℤ (pos (decimal ds))))) l
  unfolding minus_step
  minus-digits from _ (some-digits {d} {ds} h a) =
      let b : all is_digit (d ∷ ds) ≡ true = all_cons is_digit d ds h a in
      rw (run-upto is_digit (d ∷ ds) l b (no_digit l s), rest-upto is_digit (d ∷ ds) l b (no_digit l s))
      (separate-sep from (literal (integer (neg_ℤ (pos (decimal (d ∷ ds)))))) s)

  negsuc-step : (n : ℕ) → step (45 ∷ decimal_text (n + 1) ++ l) ≡ token (literal (integer (negsuc n))) l
  unfolding step step_at bytes_open
  negsuc-step n =
      minus-digits (45 ∷ decimal_text (n + 1) ++ l) (decimal_text (n + 1)) (decimal-digits (n + 1))
      ∙ ap (λ (m : ℕ). token (literal (integer (neg_ℤ (pos m)))) l) (decimal-text (n + 1) ∙ add-one n)

  value-step : (w : ℕ) (ds : List Digit) → step (decimal_text w ++ (39 ∷ map digit_byte ds ++ l)) ≡ token (literal (value w ds)) l
  unfolding number_step value_step
  value-step w ds =
      let a : all is_value_digit (map digit_byte ds) ≡ true = all_map is_value_digit digit_byte ds ∙ all-each (λ d. is_value_digit (digit_byte d)) digit-byte ds in
      let from : List ℕ = decimal_text w ++ (39 ∷ map digit_byte ds ++ l) in
      digits_step (39 ∷ map digit_byte ds ++ l) (decimal-digits w) no-quote
      ∙ rw (decimal-text w, run-upto is_value_digit (map digit_byte ds) l a (no-value-digit l s), rest-upto is_value_digit (map digit_byte ds) l a (no-value-digit l s), digits-back ds)
      (separate-sep from (literal (value w ds)) s)

  string-step : (bs : List ℕ) → all (within 1 255) bs ≡ true → step (34 ∷ flat_map escaped bs ++ 34 ∷ l) ≡ token (literal (string bs)) l
  unfolding step step_at bytes_open string_step
  string-step bs a = rw (quoted-string bs l a) (separate-sep (34 ∷ flat_map escaped bs ++ 34 ∷ l) (literal (string bs)) s)

-- what may stand right behind a token
abbrev Follows : Token → List ℕ → Type 0
Follows (name n) l = Gap l
Follows (word w) l = Sep l
Follows (literal c) l = Sep l
Follows (mark m) l = Unit {0}

literal-step : (c : Literal) (l : List ℕ) → Sep l → fine_literal c ≡ true → step (literal_text c ++ l) ≡ token (literal c) l
unfolding literal_text integer_text fine_literal
literal-step (value w ds) l s f = rw append_assoc (value-step l s w ds)
literal-step (integer (pos n)) l s f = pos-step l s n
literal-step (integer (negsuc n)) l s f = negsuc-step l s n
literal-step (string bs) l s f = rw append_assoc (string-step l s bs f)

-- a written token is read back, whatever else may follow
token-step : (t : Token) (l : List ℕ) → Follows t l → fine_token t ≡ true → step (token_text t ++ l) ≡ token t l
unfolding token_text fine_token
token-step (name n) l g f = name-step n l g f
token-step (word w) l s f = word-step l s w f
token-step (literal c) l s f = literal-step c l s f
token-step (mark m) l s f = mark-start m l f

-- `:` or `]`
close-sep : (t : Token) (l : List ℕ) → (shapes.is_mark ":" t || shapes.is_mark "]" t) ≡ true → Sep (token_text t ++ l)
unfolding shapes.is_mark token_text
close-sep (name n) l h = absurd (false≢true h)
close-sep (word w) l h = absurd (false≢true h)
close-sep (literal c) l h = absurd (false≢true h)
close-sep (mark m) l h =
    by-test (eqb m 58) (λ e. rw (eqb-true m 58 e) colon)
    (λ e. let k : eqb m 93 ≡ true = rw e at h in rw (eqb-true m 93 k) bracket)

gap-sep : (b : Bool) (t : Token) (l : List ℕ) → (b ≡ true → Sep (token_text t ++ l)) → Sep (cond b [] (32 ∷ []) ++ token_text t ++ l)
gap-sep true t l h = h refl
gap-sep false t l h = Sep.space

-- what is written behind a token may stand there
behind-follows : (t : Token) (ts : List Token) → Follows t (behind t ts)
unfolding behind tight
behind-follows (name n) [] = Gap.end
behind-follows (name n) (u ∷ us) = Gap.space
behind-follows (word w) [] = Sep.end
behind-follows (word w) (u ∷ us) = Sep.space
behind-follows (literal c) [] = Sep.end
behind-follows (literal c) (u ∷ us) = gap-sep (shapes.is_mark ":" u || shapes.is_mark "]" u) u (behind u us) (λ e. close-sep u (behind u us) e)
behind-follows (mark m) ts = tt

-- spaces before a token are left out
spaces-step : (k : ℕ) (l : List ℕ) → step (replicate k 32 ++ l) ≡ step l
unfolding step bytes_open
spaces-step zero l = refl
spaces-step (suc k) l = spaces-step k l

gap_step : (b : Bool) (x l : List ℕ) → step (cond b [] (32 ∷ []) ++ x ++ l) ≡ step (x ++ l)
unfolding step bytes_open
gap_step true x l = refl
gap_step false x l = refl

-- one token, and those behind it
tokens-first : (k : ℕ) (l m : List ℕ) (t : Token) (ts : List Token) → step l ≡ token t m → tokens_from k m ≡ good ts → tokens_from (suc k) l ≡ good (t ∷ ts)
unfolding tokens_from tokens_by tokens_onto
tokens-first k l m t ts p q = rw (p, q)

tokens_none : (k : ℕ) (l : List ℕ) → step l ≡ done → tokens_from k l ≡ good []
unfolding tokens_from tokens_by
tokens_none zero l e = refl
tokens_none (suc k) l e = rw e

no_step : step [] ≡ done
unfolding step
no_step = refl

tokens-behind : (k : ℕ) (t : Token) (ts : List Token) → all fine_token ts ≡ true → length ts ≤ k → tokens_from k (behind t ts) ≡ good ts
unfolding behind
tokens-behind k t [] f h = tokens_none k [] no_step
tokens-behind zero t (u ∷ us) f h = absurd (omega arith)
tokens-behind (suc k) t (u ∷ us) f h =
    tokens-first k (behind t (u ∷ us)) (behind u us) u us
    (gap_step (tight t u) (token_text u) (behind u us) ∙ token-step u (behind u us) (behind-follows u us) (all_first fine_token u us f))
    (tokens-behind k u us (all-later fine_token u us f) (omega arith))

-- each token takes a byte or more
digits_long : {ds : List ℕ} → Digits ds → 1 ≤ length ds
digits_long (some-digits h a) = omega arith

text-long : (t : Token) → fine_token t ≡ true → 1 ≤ length (token_text t)
unfolding token_text fine_token literal_text integer_text lowers
text-long (name []) f = absurd (no_name f)
text-long (name (b ∷ bs)) f = omega arith
text-long (word []) f = absurd (false≢true (keyword-lowers [] f))
text-long (word (b ∷ bs)) f = omega arith
text-long (literal (value w ds)) f = simp length-append (omega arith)
text-long (literal (integer (pos n))) f = digits_long (decimal-digits n)
text-long (literal (integer (negsuc n))) f = omega arith
text-long (literal (string s)) f = omega arith
text-long (mark m) f = omega arith

behind-long : (t : Token) (ts : List Token) → all fine_token ts ≡ true → length ts ≤ length (behind t ts)
unfolding behind
behind-long t [] f = omega arith
behind-long t (u ∷ us) f =
    simp length-append
    (omega (arith, text-long u (all_first fine_token u us f), behind-long u us (all-later fine_token u us f)))

-- the tokens of a written line are read back
pub tokens-spaced : (k : ℕ) (ts : List Token) → all fine_token ts ≡ true → tokens (replicate k 32 ++ spaced ts) ≡ good ts
unfolding tokens spaced
tokens-spaced k [] f = tokens_none (length (replicate k 32 ++ [])) (replicate k 32 ++ []) (spaces-step k [] ∙ no_step)
tokens-spaced k (t ∷ ts) f = enough (length l) long
  where
    l : List ℕ
    l = replicate k 32 ++ (token_text t ++ behind t ts)

    long : length (t ∷ ts) ≤ length l
    long = simp (length-append, length-replicate) (omega (arith, text-long t (all_first fine_token t ts f), behind-long t ts (all-later fine_token t ts f)))

    enough : (j : ℕ) → length (t ∷ ts) ≤ j → tokens_from j l ≡ good (t ∷ ts)
    enough zero h = absurd (omega arith)
    enough (suc j) h =
        tokens-first j l (behind t ts) t ts
        (spaces-step k (token_text t ++ behind t ts) ∙ token-step t (behind t ts) (behind-follows t ts) (all_first fine_token t ts f))
        (tokens-behind j t ts (all-later fine_token t ts f) (omega arith))
