-- Integers and their words, and the numbers that options give.
-- Assumes nothing.
use mathlib.Core.Path.{◌≡◌, refl, sym, ap, ◌∙◌}
use mathlib.Core.Bool.{Bool, true, false, not, ◌&&◌, and-true, false≢true}
use mathlib.Core.List.{List, [], ◌∷◌, Option-to_list}
use mathlib.Core.Option.{Option, none, some, get_or}
use Prim.Native.Nat.{ℕ, ◌<◌}
use Prim.Native.String.{String}
use native.Mathlib.Omega.{arith}
use lib.IntN.{ℤ, pos, negsuc, nat_abs}
use borrow.Author.Tests.{ltb-true, ltb-false}
use Rattle.rules.specs.Bytes.{bytes, same, all, within}
use Rattle.rules.specs.Statements.{Opt}
use Rattle.rules.specs.Numbers.{int32, in_range, has, number_or, good_options}
use Rattle.rules.specs.Signals.{twos_complement}
use Rattle.scanner.specs.Words.{keyword_at}
use Rattle.lists.specs.Tests.{by-test, and-true-left, and-true-right}
use Rattle.lists.specs.Bytes.{within-above}
use Rattle.tokens.specs.Rows.{integer_in}
use Rattle.std.specs.Prelude.{Option as Optional, Some, None}
use Rattle.tokens.specs.declared.Integer.{Integer}
use Rattle.options.specs.Forms.{number_codes, is_option}
use Rattle.options.specs.Holds.{first, slot_of, slot_at, at, is_some, fits, all_fit, Holds}
use Rattle.option_rules.specs.Numbers.{value_or, slot_fits, options_good}
use Rattle.options.specs.declared.Options.{Options}
use Rattle.options.proofs.Held.{any-first}

-- ---- a range of integers is one of words

pub range-word : (lo hi : ℕ) (z : ℤ) {w : ℕ} → hi < 2147483648 → int32 z ≡ true → twos_complement z ≡ w → in_range lo hi z ≡ within lo hi w
unfolding in_range twos_complement int32
range-word lo hi (pos n) k h e = rw e
range-word lo hi (negsuc n) {w} k h e = sym (within-above lo hi w (omega (arith, ltb-true n 2147483648 h)))

pub range-outside : (lo hi : ℕ) (z : ℤ) → hi < 2147483648 → int32 z ≡ false → in_range lo hi z ≡ false
unfolding in_range int32
range-outside lo hi (pos n) k h = within-above lo hi n (omega (arith, ltb-false n 2147483648 h))
range-outside lo hi (negsuc n) k h = refl

pub range-abs : (lo hi : ℕ) (z : ℤ) → in_range lo hi z ≡ true → nat_abs z ≡ twos_complement z
unfolding in_range twos_complement
range-abs lo hi (pos n) h = refl
range-abs lo hi (negsuc n) h = absurd (false≢true h)

-- ---- the number of an option, and whether it is given

number_in : ℤ → Option (Option ℤ) → ℤ
number_in d none = d
number_in d (some v) = get_or v d

number-first : (d : ℤ) (w : String) (os : List Opt) → number_or d w os ≡ number_in d (first (bytes w) os)
unfolding number_or first number_in
number-first d w [] = refl
number-first d w (o ∷ os) = by-test (same o.0 (bytes w)) (λ e. rw e) (λ e. rw e (number-first d w os))

number-slot : (d : ℤ) (f : List ℕ) (s : Optional Integer) → number_in d (slot_of f s) ≡ value_or d f s
unfolding number_in slot_of value_or
number-slot d f (Some z) = refl
number-slot d f None = refl

fit-slot : (f : List ℕ) (s : Optional Integer) → all_fit (slot_of f s) ≡ slot_fits f s
unfolding all_fit slot_of slot_fits fits all Option-to_list
fit-slot f (Some z) = and-true (int32 (integer_in f z))
fit-slot f None = refl

pub fits-value : (d : ℤ) (f : List ℕ) (s : Optional Integer) → int32 d ≡ true → slot_fits f s ≡ true → int32 (value_or d f s) ≡ true
unfolding slot_fits value_or
fits-value d f (Some z) h k = k
fits-value d f None h k = h

six : (a b c x y z : Bool) → (a && (b && (c && (x && (y && (z && true)))))) ≡ ((a && (b && c)) && (x && (y && z)))
six true true true x y z = ap (λ (b : Bool). x && (y && b)) (and-true z)
six true true false x y z = refl
six true false c x y z = refl
six false b c x y z = refl

numbers_fit : (f : List ℕ) (o : Options) → all (λ c. all_fit (at f o c)) number_codes ≡ ((slot_fits f o.width && (slot_fits f o.offset && slot_fits f o.size)) && (slot_fits f o.input && (slot_fits f o.output && slot_fits f o.inout)))
unfolding all number_codes at slot_at
numbers_fit f o =
    rw (fit-slot f o.width, fit-slot f o.offset, fit-slot f o.size, fit-slot f o.input, fit-slot f o.output, fit-slot f o.inout)
    (six (slot_fits f o.width) (slot_fits f o.offset) (slot_fits f o.size) (slot_fits f o.input) (slot_fits f o.output) (slot_fits f o.inout))

module _ (f : List ℕ) (o : Options) (os : List Opt) (H : Holds f o os) where
  -- an option by its word w, whose keyword has the number c
  module _ (w : String) (c : ℕ) (e : bytes w ≡ keyword_at c) (h : is_option c ≡ true) where
    held_first : first (bytes w) os ≡ at f o c
    held_first = ap (λ (v : List ℕ). first v os) e ∙ sym (H.fields c h)

    pub has-held : has w os ≡ is_some (at f o c)
    unfolding has
    has-held = any-first (bytes w) os ∙ ap is_some held_first

    pub number-held : (d : ℤ) (s : Optional Integer) → at f o c ≡ slot_of f s → number_or d w os ≡ value_or d f s
    number-held d s a = number-first d w os ∙ ap (number_in d) (held_first ∙ a) ∙ number-slot d f s

  pub options-held : good_options os ≡ options_good f o
  unfolding good_options options_good
  options-held = by-test o.twice (λ e. rw (H.singly, e)) (λ e. rw (H.singly, e, H.numbers e) (numbers_fit f o))

-- the numbers of good options
module _ (f : List ℕ) (o : Options) (G : options_good f o ≡ true) where
  numbers-good : (slot_fits f o.width && (slot_fits f o.offset && slot_fits f o.size)) ≡ true
  unfolding options_good
  numbers-good = and-true-left _ _ (and-true-right (not o.twice) _ G)

  pub width-good : slot_fits f o.width ≡ true
  width-good = and-true-left _ _ numbers-good

  pub offset-good : slot_fits f o.offset ≡ true
  offset-good = and-true-left _ _ (and-true-right (slot_fits f o.width) _ numbers-good)

  pub size-good : slot_fits f o.size ≡ true
  size-good = and-true-right (slot_fits f o.offset) _ (and-true-right (slot_fits f o.width) _ numbers-good)
