-- Whether a part stands in its table, by the tests in the order of the code.
-- Assumes nothing.
use Prim.Native.Nat.{ℕ, ◌+◌, ◌-◌, ◌≤◌, ◌<◌}
use mathlib.Core.Path.{◌≡◌, sym, ap, ◌∙◌}
use mathlib.Core.List.{List, [], ◌∷◌}
use mathlib.Core.Bool.{Bool, true, false, ◌&&◌, and-true}
use native.Mathlib.Omega.{arith}
use lib.Dec.{leb}
use lib.ListN.{length, get_or, take, drop}
use borrow.Author.Tests.{le-leb, lt-leb, leb-true, leb-false}
use Rattle.std.proofs.lemmas.List.{take_more, take_all, drop_more, drop_all}
use Rattle.rules.specs.Bytes.{all, within}
use Rattle.rules.specs.Signals.{Wires}
use Rattle.lists.specs.Tests.{by-test, and-true-left, and-true-right}
use Rattle.lists.specs.Parts.{slice-part}
use Rattle.lists.specs.Elements.{all_split}
use Rattle.lists.specs.Bytes.{legal-short}
use Rattle.admitted.specs.Admitted.{fine_bit}
use Rattle.numbers.specs.Kinds.{bit_of, bit_at}
use Rattle.row_statements.specs.Parts.{span, whole, name_stands, part_stands, text_stands, bits_stand, signal_stands}
use Rattle.row_statements.proofs.Spans.{whole-none, whole_in, whole_out, whole_long, span_none}

pub positive : (n : ℕ) → (n ≡ 0 → ⊥) → 0 < n
positive n h = omega arith

pub given-byte : (b : ℕ) → b ≤ 255 → within 1 255 b ≡ leb 1 b
unfolding within
given-byte b h = rw (le-leb b 255 h) (and-true (leb 1 b))

-- values one behind another that pass a test: those before a place and from it on
module _ (f : ℕ → Bool) (xs : List ℕ) (i : ℕ) where
  pub all-next : i < length xs → (all f (take i xs) && f (get_or xs i 0)) ≡ all f (take (i + 1) xs)
  unfolding all
  all-next h = sym (ap (all f) (take_more xs i 0 h) ∙ all_split f (take i xs) (get_or xs i 0 ∷ []) ∙ ap (λ (b : Bool). all f (take i xs) && b) (and-true (f (get_or xs i 0))))

  pub all-taken : length xs ≤ i → all f (take i xs) ≡ all f xs
  all-taken h = ap (all f) (take_all i xs h)

  pub all-from : i < length xs → all f (drop i xs) ≡ (f (get_or xs i 0) && all f (drop (i + 1) xs))
  unfolding all
  all-from h = ap (all f) (drop_more xs i 0 h)

  pub all-done : length xs ≤ i → all f (drop i xs) ≡ true
  unfolding all
  all-done h = ap (all f) (drop_all i xs h)

-- the part of a table that is passed on
pub taken-span : (t : List ℕ) (at n : ℕ) → take (at + n - at) (drop at t) ≡ span t at n
unfolding span
taken-span t at n = sym (slice-part at (at + n) t)

-- inside the table just where the end is
pub whole_by : (t : List ℕ) (at n : ℕ) → (n ≡ 0 → ⊥) → leb (at + n) (length t) ≡ whole t at n
whole_by t at n h =
    by-test (leb (at + n) (length t))
    (λ e. e ∙ sym (whole_in t at n (leb-true (at + n) (length t) e)))
    (λ e. let p : 0 < n = positive n h in e ∙ sym (whole_out t at n p (leb-false (at + n) (length t) e)))

-- a part stands where its span is whole and passes its test
module _ (t : List ℕ) (at n : ℕ) {b : Bool} (w : b ≡ whole t at n) where
  pub part_out : (x : Bool) → b ≡ false → false ≡ (whole t at n && x)
  part_out x e = rw (← w, e)

  pub part_in : {r x : Bool} → b ≡ true → r ≡ x → r ≡ (whole t at n && x)
  part_in e q = rw (← w, e) q

  -- digits and signals
  module _ (f : ℕ → Bool) where
    pub part-wide : b ≡ true → 2048 < n → false ≡ part_stands f t at n
    part-wide e h = part_in e (rw (lt-leb n 2048 h))

    pub part-all : b ≡ true → n ≤ 2048 → {r : Bool} → r ≡ all f (span t at n) → r ≡ part_stands f t at n
    part-all e h q = part_in e (rw (le-leb n 2048 h) q)

-- bits that stand, and a signal of so many
module _ (ws : Wires) (t : List ℕ) (at n : ℕ) where
  pub bits_out : {b : Bool} → b ≡ whole t at n → b ≡ false → false ≡ bits_stand ws t at n
  unfolding bits_stand
  bits_out w e = part_out t at n w _ e

  pub bits_none : n ≡ 0 → true ≡ bits_stand ws t at n
  unfolding bits_stand all
  bits_none e = rw (e, whole-none, span_none)

  pub bits-all : {b : Bool} → b ≡ whole t at n → b ≡ true → {r : Bool} → r ≡ all (λ c. fine_bit ws (bit_of (bit_at c))) (span t at n) → r ≡ bits_stand ws t at n
  unfolding bits_stand
  bits-all w e q = part_in t at n w e q

  pub signal-wide : 2048 < n → false ≡ signal_stands ws t at n
  unfolding signal_stands
  signal-wide h = by-test (whole t at n) (λ e. rw (e, lt-leb n 2048 h)) (λ e. rw e)

  pub signal-narrow : n ≤ 2048 → {r : Bool} → r ≡ bits_stand ws t at n → r ≡ signal_stands ws t at n
  unfolding signal_stands bits_stand
  signal-narrow h e = rw (le-leb n 2048 h) e

-- a part of no values stands everywhere
module _ (t : List ℕ) (at n : ℕ) (e : n ≡ 0) where
  pub part_none : (f : ℕ → Bool) → true ≡ part_stands f t at n
  unfolding all
  part_none f = rw (e, whole-none, span_none)

  pub text-none : true ≡ text_stands t at n
  unfolding text_stands all
  text-none = rw (e, whole-none, span_none)

-- names and signals are short, so that a place behind one does not wrap
pub name-few : (t : List ℕ) (at n : ℕ) → name_stands t at n ≡ true → n ≤ 255
unfolding name_stands
name-few t at n h = omega (arith, whole_long t at n (and-true-left _ _ h), legal-short (span t at n) (and-true-right (whole t at n) _ h))

pub signal-few : (ws : Wires) (t : List ℕ) (at n : ℕ) → signal_stands ws t at n ≡ true → n ≤ 2048
unfolding signal_stands
signal-few ws t at n h = leb-true n 2048 (and-true-left _ _ (and-true-right (whole t at n) _ h))
