-- Each token of a line is fine: a name is legal, a string has no byte 0, a word is a keyword, a mark is a mark.
-- Assumes nothing.
use Rattle.std.specs.Prelude.{◌≡◌, true, ℕ, zero, suc, eqb, pos, length}
use Rattle.std.proofs.Math.Path.{refl}
use mathlib.Core.List.{List, [], ◌∷◌}
use Rattle.rules.specs.Bytes.{byte, all, within, is_blank, is_name_start, is_lower, is_digit, is_value_digit, is_mark, legal, rest}
use Rattle.rules.specs.Tokens.{integer, Token, word, literal, is_keyword, plain, Quoted, closed, broken, quoted, Step, token, done, wrong, parted, separate, name_step, word_step, integer_step, value_step, number_step, minus_step, string_step, step_at, step, Lexed, good, bad, tokens_onto, tokens_by, tokens_from, tokens}
use Rattle.lists.specs.Tests.{by_cond}
use Rattle.strings.proofs.StringLaws.{quoted-bytes}
use Rattle.lists.specs.Elements.{all_cons}
use Rattle.written.specs.TokenLaws.{fine_literal, fine_token}

-- ---- tokens

data FineStep : Step → Type 0 where
  one_token : {t : Token} {l : List ℕ} → fine_token t ≡ true → FineStep (token t l)
  no-token : FineStep done
  bad-token : {l : List ℕ} → FineStep (wrong l)

module _ (from : List ℕ) where
  separate-fine : (t : Token) (l : List ℕ) → fine_token t ≡ true → FineStep (separate from t l)
  unfolding separate
  separate-fine t l h = by_cond FineStep (parted l) (λ e. one_token h) (λ e. bad-token)

  name-fine : (n l : List ℕ) → FineStep (name_step from n l)
  unfolding name_step fine_token
  name-fine n l = by_cond FineStep (legal n) (λ e. one_token e) (λ e. bad-token)

  word-fine : (w l : List ℕ) → FineStep (word_step from w l)
  unfolding word_step fine_token
  word-fine w l = by_cond FineStep (is_keyword w) (λ e. separate-fine (word w) l e) (λ e. bad-token)

  integer-fine : (n : ℕ) (l : List ℕ) → FineStep (integer_step from n l)
  unfolding integer_step fine_token fine_literal
  integer-fine n l = separate-fine (literal (integer (pos n))) l refl

  value-fine : (n : ℕ) (l : List ℕ) → FineStep (value_step from n l)
  unfolding value_step fine_token fine_literal
  value-fine n l = separate-fine _ (rest is_value_digit l) refl

  number-fine : (n : ℕ) (l : List ℕ) → FineStep (number_step from n l)
  unfolding number_step
  number-fine n [] = integer-fine n []
  number-fine n (b ∷ bs) = by_cond FineStep (eqb b (byte "'")) (λ e. value-fine n bs) (λ e. integer-fine n (b ∷ bs))

  minus-fine : (ds l : List ℕ) → FineStep (minus_step from ds l)
  unfolding minus_step fine_token fine_literal
  minus-fine [] l = bad-token
  minus-fine (d ∷ ds) l = separate-fine _ l refl

  string-fine : (q : Quoted) → ((ds l : List ℕ) → q ≡ closed ds l → all (within 1 255) ds ≡ true) → FineStep (string_step from q)
  unfolding string_step fine_token fine_literal
  string-fine (closed ds l) h = separate-fine _ _ (h ds l refl)
  string-fine broken h = bad-token

step-at-fine : (b : ℕ) (bs : List ℕ) → FineStep (step_at b bs)
unfolding step_at fine_token
step-at-fine b bs =
    by_cond FineStep (is_name_start b) (λ e. name-fine (b ∷ bs) _ _)
    (λ e. by_cond FineStep (is_lower b) (λ e. word-fine (b ∷ bs) _ _)
    (λ e. by_cond FineStep (is_digit b) (λ e. number-fine (b ∷ bs) _ _)
    (λ e. by_cond FineStep (eqb b (byte "-")) (λ e. minus-fine (b ∷ bs) _ _)
    (λ e. by_cond FineStep (eqb b (byte "\"")) (λ e. string-fine (b ∷ bs) (quoted plain bs) (quoted-bytes plain bs))
    (λ e. by_cond FineStep (is_mark b) (λ e. one_token e)
    (λ e. by_cond FineStep (eqb b (byte "#")) (λ e. no-token) (λ e. bad-token)))))))

step-fine : (l : List ℕ) → FineStep (step l)
unfolding step
step-fine [] = no-token
step-fine (b ∷ bs) = by_cond FineStep (is_blank b) (λ e. step-fine bs) (λ e. step-at-fine b bs)

-- ---- a line

pub data FineLexed : Lexed → Type 0 where
  fine-good : {ts : List Token} → all fine_token ts ≡ true → FineLexed (good ts)
  fine-bad : {l : List ℕ} → FineLexed (bad l)

onto-fine : (t : Token) {x : Lexed} → fine_token t ≡ true → FineLexed x → FineLexed (tokens_onto t x)
unfolding tokens_onto
onto-fine t h (fine-good {ts} k) = fine-good (all_cons fine_token t ts h k)
onto-fine t h fine-bad = fine-bad

none-fine : FineLexed (good [])
unfolding all
none-fine = fine-good refl

by-fine : (more : List ℕ → Lexed) {s : Step} → ((l : List ℕ) → FineLexed (more l)) → FineStep s → FineLexed (tokens_by more s)
unfolding tokens_by
by-fine more h (one_token {t} {l} k) = onto-fine t k (h l)
by-fine more h no-token = none-fine
by-fine more h bad-token = fine-bad

from-fine : (k : ℕ) (l : List ℕ) → FineLexed (tokens_from k l)
unfolding tokens_from
from-fine zero l = none-fine
from-fine (suc k) l = by-fine (tokens_from k) (from-fine k) (step-fine l)

pub tokens-fine : (l : List ℕ) → FineLexed (tokens l)
unfolding tokens
tokens-fine l = from-fine (length l) l
