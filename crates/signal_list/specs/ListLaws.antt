-- A step's line in the grammar is the list of its signals, of which there are as many as it takes.
-- Assumes nothing.
use Prim.Native.Nat.{ℕ, zero, suc, ◌<◌, ◌≤◌}
use Rattle.std.specs.Prelude.{◌≡◌, Bool, cond, eqb, length}
use Rattle.std.proofs.Math.Path.{refl, sym, ap}
use Rattle.std.proofs.Common.{◌∙◌, arith, ne_eqb}
use mathlib.Core.List.{List, [], ◌∷◌, ◌++◌, reverse, reverse-cons}
use Rattle.std.proofs.Math.Option.{Option, none, some}
use Rattle.std.proofs.Math.Bool.{true, false}
use Rattle.std.proofs.Math.ListN.{length-append}
use Rattle.rules.specs.Tokens.{Token}
use Rattle.rules.specs.Statements.{Sig, Shape, Step, case, step-stmt}
use Rattle.rules.specs.Shapes.{is_mark, nowhere, give, after, of₁, of₂, either, repeat, several, or_end, sigspec, compare, compares, of0, of1, of2, case_form, whole_by, whole, shapes_open}
use Rattle.signal_list.specs.Lists.{further, onward, list_on, listed, step_with}

unfoldable list_open : Unit {0}
unfolding further onward list_on listed step_with give after of₁ of₂ either whole whole_by
list_open = tt

abbrev exactly : ℕ → ℕ → Bool
exactly n m = eqb m n

-- no signal is taken from nothing
sigspec-none : sigspec [] ≡ none
unfolding shapes_open
sigspec-none = refl

-- ---- too many signals

by-onward : (P : Option (List Sig) → Type 0) (x : Option (Sig × List Token)) (g : Sig → List Token → Option (List Sig)) → P none → ((s : Sig) (us : List Token) → P (g s us)) → P (onward x g)
unfolding onward
by-onward P none g h k = h
by-onward P (some p) g h k = k p.0 p.1

module _ (p : Step) (comma : Bool) (n : ℕ) where
  abbrev Nothing : Option (List Sig) → Type 0
  Nothing o = step_with p (exactly n) o ≡ none

  further-over : (k : ℕ) (ss : List Sig) (t : Token) (ts : List Token) → ((ss : List Sig) (us : List Token) → n < length ss → Nothing (list_on comma k ss us)) → n ≤ length ss → Nothing (list_on comma (suc k) ss (t ∷ ts))
  unfolding list_open
  further-over k ss t ts h l =
      by-onward Nothing (further comma (t ∷ ts)) _ refl
      (λ s us. h (ss ++ s ∷ []) us (omega (arith, length-append ss (s ∷ []))))

  over : (k : ℕ) (ss : List Sig) (ts : List Token) → n < length ss → Nothing (list_on comma k ss ts)
  unfolding list_open
  over zero ss [] h = rw (ne_eqb (length ss) n (λ e. omega arith))
  over zero ss (t ∷ ts) h = refl
  over (suc k) ss [] h = rw (ne_eqb (length ss) n (λ e. omega arith))
  over (suc k) ss (t ∷ ts) h = further-over k ss t ts (over k) (omega arith)

  over-more : (k : ℕ) (ss : List Sig) (t : Token) (ts : List Token) → n ≤ length ss → Nothing (list_on comma k ss (t ∷ ts))
  unfolding list_open
  over-more zero ss t ts h = refl
  over-more (suc k) ss t ts h = further-over k ss t ts (over k) h

pub list-end : (comma : Bool) (k : ℕ) (ss : List Sig) → list_on comma k ss [] ≡ some ss
unfolding list_on
list-end comma zero ss = refl
list-end comma (suc k) ss = refl

-- ---- no signal, one, two

module _ (p : Step) where
  pub none-taken : (ts : List Token) → whole (of0 p ts) ≡ step_with p (exactly 0) (listed false ts)
  unfolding list_open of0
  none-taken [] = refl
  none-taken (t ∷ ts) = sym (by-onward (λ o. step_with p (exactly 0) o ≡ none) (sigspec (t ∷ ts)) _ refl (λ s us. over p false 0 (length us) (s ∷ []) us (omega arith)))

  one-by : (o : Option (Sig × List Token)) → whole (after o (λ s. give (step-stmt p (s ∷ [])))) ≡ step_with p (exactly 1) (onward o (λ s us. list_on false (length us) (s ∷ []) us))
  unfolding list_open
  one-by none = refl
  one-by (some (s, [])) = refl
  one-by (some (s, u ∷ us)) = sym (over-more p false 1 (length (u ∷ us)) (s ∷ []) u us (omega arith))

  pub one-taken : (ts : List Token) → whole (of1 p ts) ≡ step_with p (exactly 1) (listed false ts)
  unfolding list_open of1
  one-taken [] = rw sigspec-none
  one-taken (t ∷ ts) = one-by (sigspec (t ∷ ts))

  second-by : (s : Sig) (k : ℕ) (o : Option (Sig × List Token)) → whole (after o (λ x. give (step-stmt p (s ∷ x ∷ [])))) ≡ step_with p (exactly 2) (onward o (λ x vs. list_on false k (s ∷ x ∷ []) vs))
  unfolding list_open
  second-by s k none = refl
  second-by s k (some (x, [])) = rw (list-end false k (s ∷ x ∷ []))
  second-by s k (some (x, u ∷ us)) = sym (over-more p false 2 k (s ∷ x ∷ []) u us (omega arith))

  two-by : (o : Option (Sig × List Token)) → whole (after o (λ s us. after (sigspec us) (λ x. give (step-stmt p (s ∷ x ∷ []))))) ≡ step_with p (exactly 2) (onward o (λ s us. list_on false (length us) (s ∷ []) us))
  unfolding list_open
  two-by none = refl
  two-by (some (s, [])) = rw sigspec-none
  two-by (some (s, u ∷ us)) = second-by s (length us) (sigspec (u ∷ us))

  pub two-taken : (ts : List Token) → whole (of2 p ts) ≡ step_with p (exactly 2) (listed false ts)
  unfolding list_open of2
  two-taken [] = rw sigspec-none
  two-taken (t ∷ ts) = two-by (sigspec (t ∷ ts))

-- ---- the values of a case

abbrev any_number : ℕ → Bool
any_number n = true

-- the values behind the first, those read before in acc, the last one first
abbrev case_on : Sig → Option (List Sig × List Token) → Option Shape
case_on s o = whole (after o (λ ss. give (step-stmt case (s ∷ reverse ss))))

module _ (s : Sig) where
  abbrev Same : ℕ → List Sig → List Token → Type 0
  Same k acc us =
      case_on s (repeat (is_mark ",") (either (is_mark ",") sigspec nowhere) k acc us) ≡ step_with case any_number (list_on true k (s ∷ reverse acc) us)

  value-by :
      (k : ℕ) (acc : List Sig) → ((acc : List Sig) (us : List Token) → Same k acc us) → (o : Option (Sig × List Token)) →
      case_on s (after o (λ x. repeat (is_mark ",") (either (is_mark ",") sigspec nowhere) k (x ∷ acc))) ≡ step_with case any_number (onward o (λ x vs. list_on true k ((s ∷ reverse acc) ++ x ∷ []) vs))
  unfolding list_open
  value-by k acc h none = refl
  value-by k acc h (some (x, us)) = h (x ∷ acc) us ∙ ap (λ (ss : List Sig). step_with case any_number (list_on true k (s ∷ ss) us)) (reverse-cons x acc)

  comma-by :
      (b : Bool) (u : Token) (us : List Token) (k : ℕ) (acc : List Sig) → ((acc : List Sig) (us : List Token) → Same k acc us) →
      case_on s (cond b (after (cond b (sigspec us) none) (λ x. repeat (is_mark ",") (either (is_mark ",") sigspec nowhere) k (x ∷ acc))) (some (acc, u ∷ us)))
      ≡ step_with case any_number (onward (cond b (sigspec us) none) (λ x vs. list_on true k ((s ∷ reverse acc) ++ x ∷ []) vs))
  unfolding list_open
  comma-by true u us k acc h = value-by k acc h (sigspec us)
  comma-by false u us k acc h = refl

  values : (k : ℕ) (acc : List Sig) (us : List Token) → Same k acc us
  unfolding list_open repeat nowhere
  values zero acc [] = refl
  values zero acc (u ∷ us) = refl
  values (suc k) acc [] = refl
  values (suc k) acc (u ∷ us) = comma-by (is_mark "," u) u us k acc (values k)

case-by :
    (o : Option (Sig × List Token)) →
    whole (after (after (after o (λ s us. after (repeat (is_mark ",") (either (is_mark ",") sigspec nowhere) (length us) [] us) (λ ss. give (s ∷ reverse ss)))) (λ ss. give (some ss))) (λ ss. give (step-stmt case (compares ss))))
    ≡ step_with case any_number (onward o (λ s us. list_on true (length us) (s ∷ []) us))
unfolding list_open compares
case-by none = refl
case-by (some (s, us)) = rejoined (repeat (is_mark ",") (either (is_mark ",") sigspec nowhere) (length us) [] us) ∙ values s (length us) [] us
  where
    rejoined : (o : Option (List Sig × List Token)) → whole (after (after (after o (λ ss. give (s ∷ reverse ss))) (λ ss. give (some ss))) (λ ss. give (step-stmt case (compares ss)))) ≡ case_on s o
    rejoined none = refl
    rejoined (some x) = refl

pub case-taken : (ts : List Token) → whole (case_form.1 ts) ≡ step_with case any_number (listed true ts)
unfolding list_open case_form or_end compare compares several
case-taken [] = refl
case-taken (t ∷ ts) = case-by (sigspec (t ∷ ts))
