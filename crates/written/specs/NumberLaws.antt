-- A number's decimal text is read back.
-- Assumes nothing.
use Rattle.std.specs.Prelude.{◌≡◌, refl, true, List, [], ◌∷◌, ℕ, zero, suc, ◌+◌, ◌/◌, ◌%◌, ◌<◌}
use Rattle.std.proofs.Common.{ap, ◌∙◌, arith}
use Rattle.rules.specs.Bytes.{all, is_digit}
use Rattle.rules.specs.Tokens.{number, decimal}
use Rattle.rules.specs.Text.{decimal_onto, decimal_text}
use Rattle.lists.specs.Tests.{by-lt}
use Rattle.lists.specs.Bytes.{within-yes}
use Rattle.lists.specs.Elements.{all_cons}

number-onto : (k n : ℕ) (ds : List ℕ) → n < k → number 10 0 (decimal_onto k n ds) ≡ number 10 n ds
unfolding decimal_onto number
number-onto zero n ds h = absurd (omega arith)
number-onto (suc k) n ds h =
    by-lt (λ (l : List ℕ). number 10 0 l ≡ number 10 n ds) n 10
    (λ t. ap (λ (m : ℕ). number 10 m ds) (omega arith))
    (λ t. number-onto k (n / 10) ((48 + n % 10) ∷ ds) (omega arith) ∙ ap (λ (m : ℕ). number 10 m ds) (omega arith))

pub decimal-text : (n : ℕ) → decimal (decimal_text n) ≡ n
unfolding decimal decimal_text number
decimal-text n = number-onto (suc n) n [] (omega arith)

-- digits, with a first one
pub data Digits : List ℕ → Type 0 where
  some-digits : {d : ℕ} {ds : List ℕ} → is_digit d ≡ true → all is_digit ds ≡ true → Digits (d ∷ ds)

last-digit : (n : ℕ) → is_digit (48 + n % 10) ≡ true
unfolding is_digit
last-digit n = within-yes 48 57 (48 + n % 10) (omega arith) (omega arith)

digits_onto : (k n : ℕ) (ds : List ℕ) → n < k → all is_digit ds ≡ true → Digits (decimal_onto k n ds)
unfolding decimal_onto
digits_onto zero n ds h a = absurd (omega arith)
digits_onto (suc k) n ds h a =
    by-lt Digits n 10
    (λ t. some-digits (last-digit n) a)
    (λ t. digits_onto k (n / 10) ((48 + n % 10) ∷ ds) (omega arith) (all_cons is_digit (48 + n % 10) ds (last-digit n) a))

pub decimal-digits : (n : ℕ) → Digits (decimal_text n)
unfolding decimal_text all
decimal-digits n = digits_onto (suc n) n [] (omega arith) refl
