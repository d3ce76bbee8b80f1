-- The options that the code holds, and one more of them.
-- Assumes nothing.
use mathlib.Core.Path.{◌≡◌, refl, sym, ap, ◌∙◌, subst}
use mathlib.Core.Bool.{Bool, true, false, cond, not, ◌&&◌, ◌||◌, false≢true}
use mathlib.Core.List.{List, [], ◌∷◌, Option-to_list}
use mathlib.Core.Option.{Option, none, some}
use Prim.Native.Nat.{ℕ, ◌<◌, ◌≤◌}
use native.Mathlib.Omega.{arith}
use lib.IntN.{ℤ}
use lib.Dec.{eqb}
use borrow.Author.Tests.{eq-eqb, ne_eqb, eqb-true, eqb-false}
use Rattle.rules.specs.Bytes.{same, any, all}
use Rattle.rules.specs.Statements.{Opt}
use Rattle.rules.specs.Numbers.{once}
use Rattle.scanner.specs.Words.{keyword_at}
use Rattle.lists.specs.Tests.{by-test, or_true_right, or-false-left, or-false-right}
use Rattle.lists.specs.Elements.{◌then◌, by-any}
use Rattle.tokens.specs.Rows.{integer_in}
use Rattle.tokens.specs.declared.Integer.{Integer}
use Rattle.std.specs.Prelude.{Option as Optional, Some, None, is_some as is_given}
use Rattle.tokens.proofs.Words.{keyword-same}
use Rattle.options.specs.Forms.{is_flag, number_codes, option_codes, is_option}
use Rattle.options.specs.Holds.{first, slot_of, flag_of, slot_at, at, given, is_some, fits, all_fit, Holds, no_options, Took}
use Rattle.options.specs.declared.Options.{Options}

-- ---- what the code holds of an option

given-slot : (f : List ℕ) (s : Optional Integer) → is_given s ≡ is_some (slot_of f s)
unfolding is_some slot_of
given-slot f (Some z) = refl
given-slot f None = refl

pub given-flag : (b : Bool) → b ≡ is_some (flag_of b)
unfolding is_some flag_of
given-flag true = refl
given-flag false = refl

pub given-at : (f : List ℕ) (o : Options) (c : ℕ) → given o c ≡ is_some (at f o c)
unfolding given at
given-at f o c =
    by-test (eqb c 12) (λ e. rw e (given-flag o.upto))
    (λ e. by-test (eqb c 13) (λ g. rw (e, g) (given-flag o.signed)) (λ g. rw (e, g) (given-slot f (slot_at o c))))

-- ---- one option more

slot-pick : (f : List ℕ) (z : Integer) (b : Bool) (s : Optional Integer) → slot_of f (cond b (Some z) s) ≡ cond b (some (some (integer_in f z))) (slot_of f s)
unfolding slot_of
slot-pick f z true s = refl
slot-pick f z false s = refl

flag-pick : (b u : Bool) → flag_of (cond b true u) ≡ cond b (some none) (flag_of u)
unfolding flag_of
flag-pick true u = refl
flag-pick false u = refl

pub flag-not : (c : ℕ) → is_flag c ≡ false → (c ≡ 12 → ⊥) × (c ≡ 13 → ⊥)
unfolding is_flag
flag-not c h = by-test (eqb c 12) (λ e. absurd (false≢true (sym (rw e at h)))) (λ e. (eqb-false c 12 e, eqb-false c 13 (rw e at h)))

pub flag-range : (c : ℕ) → is_flag c ≡ true → (12 ≤ c) × (c ≤ 13)
unfolding is_flag
flag-range c h =
    by-test (eqb c 12) (λ e. let q : c ≡ 12 = eqb-true c 12 e in (omega arith, omega arith))
    (λ e. let q : c ≡ 13 = eqb-true c 13 (rw e at h) in (omega arith, omega arith))

-- o with the number z for option c, and with the flag c
abbrev numbered : Options → ℕ → Integer → Bool → Options
numbered o c z t =
    record {
      width = cond (eqb c 7) (Some z) o.width;
      offset = cond (eqb c 8) (Some z) o.offset;
      size = cond (eqb c 15) (Some z) o.size;
      input = cond (eqb c 9) (Some z) o.input;
      output = cond (eqb c 10) (Some z) o.output;
      inout = cond (eqb c 11) (Some z) o.inout;
      upto = o.upto;
      signed = o.signed;
      twice = t;
    }

abbrev flagged : Options → ℕ → Bool → Options
flagged o c t =
    record {
      width = o.width;
      offset = o.offset;
      size = o.size;
      input = o.input;
      output = o.output;
      inout = o.inout;
      upto = cond (eqb c 12) true o.upto;
      signed = cond (eqb c 13) true o.signed;
      twice = t;
    }

module _ (f : List ℕ) (o : Options) (t : Bool) where
  module _ (c : ℕ) (z : Integer) (h : is_flag c ≡ false) (again : t ≡ (o.twice || given o c)) where
    took : Took f o c (some (integer_in f z)) (numbered o c z t)
    unfolding at slot_at is_option option_codes number_codes
    took =
        record {
          twice = again ∙ ap (λ (b : Bool). o.twice || b) (given-at f o c);
          fields =
              by-any (λ d. at f (numbered o c z t) d ≡ cond (eqb c d) (some (some (integer_in f z))) (at f o d)) option_codes
              ((rw (ne_eqb c 12 (flag-not c h).0)) then
              (rw (ne_eqb c 13 (flag-not c h).1)) then
              slot-pick f z (eqb c 7) o.width then
              slot-pick f z (eqb c 8) o.offset then
              slot-pick f z (eqb c 15) o.size then
              slot-pick f z (eqb c 9) o.input then
              slot-pick f z (eqb c 10) o.output then
              slot-pick f z (eqb c 11) o.inout then
              tt);
        }

    -- of the option n, and of none of those with numbers
    pub took_number : (n : ℕ) → c ≡ n → Took f o c (some (integer_in f z)) (numbered o n z t)
    took_number n e = subst (λ n. Took f o c (some (integer_in f z)) (numbered o n z t)) e took

    pub took_other : (c ≡ 7 → ⊥) → (c ≡ 8 → ⊥) → (c ≡ 15 → ⊥) → (c ≡ 9 → ⊥) → (c ≡ 10 → ⊥) → (c ≡ 11 → ⊥) → Took f o c (some (integer_in f z)) (record { width = o.width; offset = o.offset; size = o.size; input = o.input; output = o.output; inout = o.inout; upto = o.upto; signed = o.signed; twice = t })
    took_other n7 n8 n15 n9 n10 n11 = rw (ne_eqb c 7 n7, ne_eqb c 8 n8, ne_eqb c 15 n15, ne_eqb c 9 n9, ne_eqb c 10 n10, ne_eqb c 11 n11) at took

  pub took-flag : (c n : ℕ) → c ≡ n → is_flag n ≡ true → t ≡ (o.twice || given o c) → Took f o c none (flagged o n t)
  unfolding at slot_at is_option option_codes number_codes
  took-flag c n e h again =
      let q : (12 ≤ c) × (c ≤ 13) = flag-range c (ap is_flag e ∙ h) in
      let kept : (d : ℕ) (x : Option (Option ℤ)) → (c ≡ d → ⊥) → x ≡ cond (eqb c d) (some none) x = λ d x n. rw (ne_eqb c d n) in
      record {
        twice = again ∙ ap (λ (b : Bool). o.twice || b) (given-at f o c);
        fields = subst (λ n. (d : ℕ) → is_option d ≡ true → at f (flagged o n t) d ≡ cond (eqb c d) (some none) (at f o d)) e
            (by-any (λ d. at f (flagged o c t) d ≡ cond (eqb c d) (some none) (at f o d)) option_codes
            (flag-pick (eqb c 12) o.upto then
            flag-pick (eqb c 13) o.signed then
            kept 7 _ (λ e. omega arith) then
            kept 8 _ (λ e. omega arith) then
            kept 15 _ (λ e. omega arith) then
            kept 9 _ (λ e. omega arith) then
            kept 10 _ (λ e. omega arith) then
            kept 11 _ (λ e. omega arith) then
            tt));
      }

-- ---- and one more written

pub any-first : (w : List ℕ) (os : List Opt) → any (λ p. same p.0 w) os ≡ is_some (first w os)
unfolding any first is_some
any-first w [] = refl
any-first w (o ∷ os) = by-test (same o.0 w) (λ e. rw e) (λ e. rw e (any-first w os))

singly-by : (o t a : Bool) → o ≡ not t → (not a && o) ≡ not (t || a)
singly-by o true true e = refl
singly-by o true false e = e
singly-by o false true e = refl
singly-by o false false e = e

all_fit-none : (x : Option (Option ℤ)) → is_some x ≡ false → all_fit x ≡ true
unfolding is_some all_fit
all_fit-none none h = refl
all_fit-none (some v) h = absurd (false≢true (sym h))

all-by : (e a v p x : Bool) → (e ≡ true → p ≡ true) → (cond e v p && (cond a v true && x)) ≡ (cond (e || a) v true && (p && x))
all-by true true true p x h = rw (h refl)
all-by true true false p x h = refl
all-by true false v p x h = rw (h refl)
all-by false true true p x h = refl
all-by false true false true x h = refl
all-by false true false false x h = refl
all-by false false v p x h = refl

-- p with v at c, where p passed, passes all numbers of a list where p does, and v, if c is one of them
all-pick : (p q : ℕ → Bool) (c : ℕ) (v : Bool) (ds : List ℕ) → p c ≡ true → ((d : ℕ) → any (eqb d) ds ≡ true → q d ≡ cond (eqb c d) v (p d)) → all q ds ≡ (cond (any (eqb c) ds) v true && all p ds)
unfolding any all
all-pick p q c v [] t h = refl
all-pick p q c v (d ∷ ds) t h =
    rw (h d (rw (eq-eqb d d refl)), all-pick p q c v ds t (λ k l. h k (or_true_right (eqb k d) _ l)))
    (all-by (eqb c d) (any (eqb c) ds) v (p d) (all p ds) (λ e. rw (← eqb-true c d e) t))

small : (d : ℕ) → is_option d ≡ true → d < 32
unfolding is_option option_codes number_codes
small =
    by-any (λ d. d < 32) option_codes (omega arith then omega arith then omega arith then omega arith then omega arith then omega arith then omega arith then omega arith then tt)

number-option : (d : ℕ) → any (eqb d) number_codes ≡ true → is_option d ≡ true
unfolding is_option option_codes number_codes any
number-option = by-any (λ d. is_option d ≡ true) number_codes (refl then refl then refl then refl then refl then refl then tt)

-- where the option is no number, or has none, its place in the list of numbers is left alone
pub counts : (c : ℕ) → any (eqb c) number_codes ≡ true → (v : Option ℤ) → cond (any (eqb c) number_codes) (fits v) true ≡ fits v
counts c h v = rw h

pub counts-flag : (c : ℕ) → cond (any (eqb c) number_codes) (fits none) true ≡ fits none
unfolding fits all Option-to_list
counts-flag c = by-test (any (eqb c) number_codes) (λ e. rw e) (λ e. rw e)

pub option-number : (c : ℕ) → is_option c ≡ true → is_flag c ≡ false → any (eqb c) number_codes ≡ true
unfolding is_option option_codes any
option-number c h g = rw (ne_eqb c 12 (flag-not c g).0, ne_eqb c 13 (flag-not c g).1) at h

module _ (f : List ℕ) (o r : Options) (os : List Opt) (c : ℕ) (v : Option ℤ) where
  pub holds_more : Holds f o os → is_option c ≡ true → cond (any (eqb c) number_codes) (fits v) true ≡ fits v → Took f o c v r → Holds f r ((keyword_at c, v) ∷ os)
  unfolding once first all fits all_fit
  holds_more H h n T =
      record {
        singly =
            singly-by (once os) o.twice (any (λ p. same p.0 (keyword_at c)) os) H.singly
            ∙ ap (λ (b : Bool). not (o.twice || b)) (any-first (keyword_at c) os ∙ ap is_some (sym (H.fields c h)))
            ∙ ap not (sym T.twice);
        fields = λ d l. T.fields d l ∙ rw (H.fields d l, keyword-same c d (small d l));
        numbers = λ e.
            let t : (o.twice || is_some (at f o c)) ≡ false = sym T.twice ∙ e in
            let p : ℕ → Bool = λ d. all_fit (at f o d) in
            let q : ℕ → Bool = λ d. all_fit (at f r d) in
            ap (λ (b : Bool). fits v && b) (H.numbers (or-false-left o.twice (is_some (at f o c)) t))
            ∙ ap (λ (b : Bool). b && all p number_codes) (sym n)
            ∙ sym (all-pick p q c (fits v) number_codes
            (all_fit-none (at f o c) (or-false-right o.twice (is_some (at f o c)) t))
            (λ d l. ap all_fit (T.fields d (number-option d l)) ∙ fit-by (eqb c d) (at f o d)));
      }
    where
      fit-by : (b : Bool) (x : Option (Option ℤ)) → all_fit (cond b (some v) x) ≡ cond b (fits v) (all_fit x)
      fit-by true x = refl
      fit-by false x = refl

pub holds-none : (f : List ℕ) → Holds f no_options []
unfolding once first all number_codes is_option option_codes all_fit at slot_at slot_of flag_of
holds-none f =
    record {
      singly = refl;
      fields =
          by-any (λ c. at f no_options c ≡ none) option_codes (refl then refl then refl then refl then refl then refl then refl then refl then tt);
      numbers = λ e. refl;
    }
