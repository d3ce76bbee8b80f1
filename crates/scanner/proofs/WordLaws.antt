-- The laws of keywords and their numbers.
-- Assumes nothing.
use mathlib.Core.Path.{◌≡◌, refl, sym, ap, ◌∙◌}
use mathlib.Core.Bool.{Bool, true, false}
use mathlib.Core.List.{List, [], ◌∷◌}
use Prim.Native.Nat.{ℕ, ◌<◌}
use native.Mathlib.Omega.{arith}
use lib.Dec.{eqb, ltb, eqb→eq, leb-zero, leb-suc-suc}
use lib.ListN.{length, get_or, replicate}
use borrow.Author.Tests.{lt-ltb, eq-eqb, ne_eqb}
use Rattle.rules.specs.Bytes.{same, any}
use Rattle.rules.specs.Tokens.{keywords, is_keyword}
use Rattle.scanner.specs.Words.{place_in, keyword_number, keyword_at}
use Rattle.lists.specs.Tests.{by-test}
use Rattle.lists.specs.Bytes.{same-eq, same_refl}
use Rattle.scanner.proofs.Table.{at}

module _ (w : List ℕ) where
  place_in-any : (ks : List (List ℕ)) → any (same w) ks ≡ ltb (place_in w ks) (length ks)
  unfolding place_in any
  place_in-any [] = refl
  place_in-any (k ∷ ks) = by-test (same w k) (λ e. rw (e, leb-suc-suc, leb-zero)) (λ e. rw (e, leb-suc-suc) (place_in-any ks))

  place_in-at : (ks : List (List ℕ)) → any (same w) ks ≡ true → get_or ks (place_in w ks) [] ≡ w
  unfolding place_in any
  place_in-at [] h = cc
  place_in-at (k ∷ ks) h = by-test (same w k) (λ e. rw e (sym (same-eq w k e))) (λ e. rw e (place_in-at ks (rw e at h)))

  pub keyword-number : is_keyword w ≡ ltb (keyword_number w) 32
  unfolding keyword_number is_keyword keywords
  keyword-number = place_in-any keywords

  pub keyword-back : is_keyword w ≡ true → keyword_at (keyword_number w) ≡ w
  unfolding keyword_number is_keyword keyword_at
  keyword-back h = place_in-at keywords h

numbered : ℕ → ℕ → Bool
numbered k x = eqb (keyword_number (keyword_at k)) k

-- a keyword's number is that of its place
pub keyword-numbered : (k : ℕ) → k < 32 → keyword_number (keyword_at k) ≡ k
unfolding numbered keyword_number keyword_at place_in keywords same
keyword-numbered k h = eqb→eq (keyword_number (keyword_at k)) k (at numbered (replicate 32 0) tt k h)

never : (w : List ℕ) (k : ℕ) → k < 32 → same w (keyword_at k) ≡ false → keyword_number w ≡ k → ⊥
never w k h e q =
    let i : is_keyword w ≡ true = keyword-number w ∙ rw q (lt-ltb k 32 h) in
    let s : same w (keyword_at k) ≡ true = rw (← q, keyword-back w i) (same_refl w) in
    let z : ◌≡◌ {A = ℕ} 0 1 = cc in
    omega arith

-- to be a keyword is to have its number
pub keyword-is : (w : List ℕ) (k : ℕ) → k < 32 → same w (keyword_at k) ≡ eqb (keyword_number w) k
keyword-is w k h =
    by-test (same w (keyword_at k))
    (λ e. let q : keyword_number w ≡ k = ap keyword_number (same-eq w (keyword_at k) e) ∙ keyword-numbered k h in rw (e, eq-eqb (keyword_number w) k q))
    (λ e. rw (e, ne_eqb (keyword_number w) k (λ q. never w k h e q)))
