-- The tokens that rows hold: read from a row on, and with a row put behind them.
-- Assumes nothing.
use mathlib.Core.Path.{◌≡◌, refl, sym, ap, ap₂, ◌∙◌}
use mathlib.Core.Bool.{Bool, true, false, cond}
use mathlib.Core.List.{List, [], ◌∷◌, ◌++◌}
use Prim.Native.Nat.{ℕ, zero, suc, ◌+◌, ◌-◌, ◌*◌, ◌/◌, ◌<◌, ◌≤◌}
use native.Mathlib.Nat.{add-zero, zero-add}
use native.Mathlib.Omega.{arith}
use lib.Dec.{eqb, ltb}
use lib.ListN.{length, get_or, take, drop, length-append, get_or-append}
use lib.Seq.{length-take-le, get_or-append-add, take_at}
use borrow.Author.Tests.{ltb-true, ltb-false}
use Rattle.rules.specs.Tokens as rules
use Rattle.tables.specs.Store.{store, store-eq}
use Rattle.tokens.specs.Rows.{front, token_in, token_of, row_of, token_at, sign_word, constant_words, row_words, rows_from, line, Present}
use Rattle.tokens.specs.declared.ConstantSpan.{ConstantSpan}
use Rattle.tokens.specs.declared.ConstantSpan.TheVariants as constant
use Rattle.tokens.specs.declared.Token.{Token}
use Rattle.tokens.specs.declared.Token.TheVariants.{Name, Word, Constant as Constantly, Mark, End}
use Rattle.lists.specs.Tests.{by-test, by_order}

-- ---- a token in front

pub front-token : (f : List ℕ) (x : Token) (ts : List rules.Token) → Present x → front f x ts ≡ token_in f x ∷ ts
unfolding front token_in
front-token f (Name a b) ts h = refl
front-token f (Word c) ts h = refl
front-token f (Constantly c) ts h = refl
front-token f (Mark b) ts h = refl
front-token f End ts h = absurd h

front-append : (f : List ℕ) (x : Token) (ts us : List rules.Token) → Present x → front f x (ts ++ us) ≡ front f x ts ++ us
front-append f x ts us h = front-token f x (ts ++ us) h ∙ ap (λ (l : List rules.Token). l ++ us) (sym (front-token f x ts h))

-- every row holds a token
row-present : (p q r s u : Bool) (a b : ℕ) (x y z : ConstantSpan) → Present (cond p (Name a b) (cond q (Word a) (cond r (Constantly x) (cond s (Constantly y) (cond u (Constantly z) (Mark a))))))
row-present true q r s u a b x y z = tt
row-present false true r s u a b x y z = tt
row-present false false true s u a b x y z = tt
row-present false false false true u a b x y z = tt
row-present false false false false true a b x y z = tt
row-present false false false false false a b x y z = tt

pub present : (t : List ℕ) (i : ℕ) → Present (row_of t i)
unfolding row_of token_of
present t i =
    let k = get_or t (4 * i) 0 in
    row-present (eqb k 0) (eqb k 1) (eqb k 2) (eqb k 3) (eqb k 4) (get_or t (4 * i + 1) 0) (get_or t (4 * i + 2) 0) _ _ _

-- ---- the tokens from a row on

module _ (f t : List ℕ) (i : ℕ) where
  pub line-end : length t / 4 ≤ i → line f t i ≡ []
  unfolding line rows_from
  line-end h = let e : length t / 4 - i ≡ 0 = omega arith in rw e

  -- a row stands where the line goes on
  pub line-there : (line f t i ≡ [] → ⊥) → i < length t / 4
  line-there h =
      by_order (length t / 4) i (λ b. absurd (h (line-end b))) (λ b. b)

  pub line-more : i < length t / 4 → line f t i ≡ front f (row_of t i) (line f t (i + 1))
  unfolding line rows_from
  line-more h = let e : length t / 4 - i ≡ suc (length t / 4 - (i + 1)) = omega arith in rw e

  -- the first of the rows that are left
  pub line_row : i < length t / 4 → line f t i ≡ token_in f (row_of t i) ∷ line f t (i + 1)
  line_row h = line-more h ∙ front-token f (row_of t i) (line f t (i + 1)) (present t i)

  -- a proof by whether a row is left
  pub by-line : (P : List rules.Token → Type 0) → (length t / 4 ≤ i → P []) → (i < length t / 4 → P (token_in f (row_of t i) ∷ line f t (i + 1))) → P (line f t i)
  by-line P p q =
      by-test (ltb i (length t / 4)) (λ b. let h = ltb-true i (length t / 4) b in rw (line_row h) (q h))
      (λ b. let h = ltb-false i (length t / 4) b in rw (line-end h) (p h))

  line-by : (b : Bool) → b ≡ ltb i (length t / 4) → line f t i ≡ front f (cond b (row_of t i) End) (line f t (i + 1))
  unfolding front
  line-by true e = line-more (ltb-true i (length t / 4) (sym e))
  line-by false e = line-end (ltb-false i (length t / 4) (sym e))

  -- the token of row i, and those from the next row on
  pub line-is : line f t i ≡ front f (token_at t i) (line f t (i + 1))
  unfolding token_at
  line-is = line-by (ltb i (length t / 4)) refl

  -- the same of a token that was read
  pub line_read : (x : Token) → x ≡ token_at t i → line f t i ≡ front f x (line f t (i + 1))
  line_read x e = rw e line-is

-- a row whose token was read is there
present-by : (i n : ℕ) (b : Bool) (x y : Token) → x ≡ cond b y End → b ≡ ltb i n → Present x → i < n
present-by i n true x y e t p = ltb-true i n (sym t)
present-by i n false x y e t p = absurd (rw e at p)

pub below : (t : List ℕ) (i : ℕ) (x : Token) → x ≡ token_at t i → Present x → i < length t / 4
unfolding token_at
below t i x e p = present-by i (length t / 4) (ltb i (length t / 4)) x (row_of t i) e refl p

rows_long : (f t : List ℕ) (k i : ℕ) → length (rows_from f t k i) ≡ k
unfolding rows_from
rows_long f t zero i = refl
rows_long f t (suc k) i = ap length (front-token f (row_of t i) (rows_from f t k (i + 1)) (present t i)) ∙ ap suc (rows_long f t k (i + 1))

pub line-long : (f t : List ℕ) (i : ℕ) → length (line f t i) ≡ length t / 4 - i
unfolding line
line-long f t i = rows_long f t (length t / 4 - i) i

-- ---- a row put behind the rows

sign-back : (b : Bool) → eqb (sign_word b) 1 ≡ b
unfolding sign_word
sign-back true = refl
sign-back false = refl

-- the token that a row of words holds
abbrev words_token : List ℕ → Token
words_token ws = token_of (get_or ws 0 0) (get_or ws 1 0) (get_or ws 2 0) (get_or ws 3 0)

-- a token's words hold that token
pub words_back : (x : Token) → Present x → words_token (row_words x) ≡ x
unfolding row_words constant_words token_of
words_back (Name a b) h = refl
words_back (Word c) h = refl
words_back (Constantly (constant.Integer z)) h = rw (sign-back z.negative)
words_back (Constantly (constant.Value a b c)) h = refl
words_back (Constantly (constant.Text a)) h = refl
words_back (Mark b) h = refl
words_back End h = absurd h

pub length-row_words : (x : Token) → length (row_words x) ≡ 4
unfolding row_words constant_words
length-row_words (Name a b) = refl
length-row_words (Word c) = refl
length-row_words (Constantly (constant.Integer z)) = refl
length-row_words (Constantly (constant.Value a b c)) = refl
length-row_words (Constantly (constant.Text a)) = refl
length-row_words (Mark b) = refl
length-row_words End = refl

-- four words that are the same are the same row
pub row_same : (t u : List ℕ) (a b : ℕ) → ((j : ℕ) → j < 4 → get_or t (a + j) 0 ≡ get_or u (b + j) 0) → token_of (get_or t a 0) (get_or t (a + 1) 0) (get_or t (a + 2) 0) (get_or t (a + 3) 0) ≡ token_of (get_or u b 0) (get_or u (b + 1) 0) (get_or u (b + 2) 0) (get_or u (b + 3) 0)
row_same t u a b e = rw (rw (add-zero a, add-zero b) at (e 0 (omega arith)), e 1 (omega arith), e 2 (omega arith), e 3 (omega arith))

-- rows u of n tokens with a row ws behind them
module _ (u ws : List ℕ) (n : ℕ) (long : length u ≡ 4 * n) where
  pub row_before : (i : ℕ) → i < n → row_of (u ++ ws) i ≡ row_of u i
  unfolding row_of
  row_before i h = row_same (u ++ ws) u (4 * i) (4 * i) (λ j k. get_or-append u ws 0 (4 * i + j) (omega arith))

  row-behind : row_of (u ++ ws) n ≡ words_token ws
  unfolding row_of
  row-behind = row_same (u ++ ws) ws (4 * n) 0 (λ j k. rw (← long, zero-add j) (get_or-append-add u ws j 0))

  rows_snoc : (f : List ℕ) (k i : ℕ) → i + k ≡ n → rows_from f (u ++ ws) (suc k) i ≡ rows_from f u k i ++ front f (row_of (u ++ ws) n) []
  unfolding rows_from
  rows_snoc f zero i e = let q : i ≡ n = omega arith in rw q
  rows_snoc f (suc k) i e =
      ap₂ (front f) (row_before i (omega arith)) (rows_snoc f k (i + 1) (omega arith))
      ∙ front-append f (row_of u i) (rows_from f u k (i + 1)) (front f (row_of (u ++ ws) n) []) (present u i)

quarter : (l : List ℕ) (n : ℕ) → length l ≡ 4 * n → length l / 4 - 0 ≡ n
quarter l n e = omega arith

pub line-snoc : (f u : List ℕ) (n : ℕ) (x : Token) → length u ≡ 4 * n → Present x → line f (u ++ row_words x) 0 ≡ line f u 0 ++ token_in f x ∷ []
unfolding line
line-snoc f u n x long h =
    let ws : List ℕ = row_words x in
    let more : length (u ++ ws) ≡ 4 * suc n = length-append u ws ∙ ap₂ ◌+◌ long (length-row_words x) ∙ omega arith in
    ap (λ (k : ℕ). rows_from f (u ++ ws) k 0) (quarter (u ++ ws) (suc n) more)
    ∙ rows_snoc u ws n long f n 0 (omega arith)
    ∙ ap₂ (λ (k : ℕ) (y : Token). rows_from f u k 0 ++ front f y []) (sym (quarter u n long)) (row-behind u ws n long ∙ words_back x h)
    ∙ ap (λ (l : List rules.Token). rows_from f u (length u / 4 - 0) 0 ++ l) (front-token f x [] h)

-- with a token put into row n, the rows up to it hold the tokens before it, and then that token
pub put-token-line : (f t : List ℕ) (n : ℕ) (x : Token) → Present x → 4 * n + 4 ≤ length t → line f (take (4 * (n + 1)) (store t (4 * n) (row_words x))) 0 ≡ line f (take (4 * n) t) 0 ++ token_in f x ∷ []
put-token-line f t n x h room =
    let ws : List ℕ = row_words x in
    let u : List ℕ = take (4 * n) t in
    let q : List ℕ = drop (4 * n + length ws) t in
    let w : length ws ≡ 4 = length-row_words x in
    let long : length u ≡ 4 * n = length-take-le (4 * n) t (omega arith) in
    let more : length (u ++ ws) ≡ 4 * (n + 1) = length-append u ws ∙ ap₂ ◌+◌ long w ∙ omega arith in
    ap (λ (l : List ℕ). line f l 0) (ap (take (4 * (n + 1))) (store-eq t (4 * n) ws (omega arith)) ∙ take_at (u ++ ws) q (4 * (n + 1)) more)
    ∙ line-snoc f u n x long h
