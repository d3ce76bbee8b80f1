-- Equally wide signals that stand one behind another: how many and how wide they are, their bits, and that they keep the rules where all their bits do.
-- Assumes nothing.
use Prim.Native.Nat.{ℕ, zero, suc, ◌+◌, ◌*◌, ◌≤◌}
use mathlib.Core.Path.{◌≡◌, refl, sym, ap, ap₂, ◌∙◌}
use mathlib.Core.List.{List, [], ◌∷◌, ◌++◌, map, flat_map}
use mathlib.Core.Bool.{Bool, true, ◌&&◌, ◌||◌}
use native.Mathlib.Omega.{arith}
use native.Mathlib.Nat.{mul-zero}
use lib.Dec.{eqb}
use lib.ListN.{length, take, drop, length-map, length-take, length-drop}
use lib.Seq.{take-add, length-take-le}
use borrow.Author.Tests.{eq-eqb, ne_eqb, eqb-true, le-leb, leb-true}
use Rattle.rules.specs.Bytes.{all}
use Rattle.rules.specs.Statements.{Signal}
use Rattle.rules.specs.Signals.{Wires}
use Rattle.rules.specs.Judgement.{sum, equal}
use Rattle.rules.specs.Layout.{bit_code, each_length}
use Rattle.admitted.specs.Admitted.{fine_bit, fine_signal}
use Rattle.numbers.specs.Kinds.{bit_of, bit_at, signal_of}
use Rattle.numbers.specs.KindLaws.{codes-back, length-signal}
use Rattle.lists.specs.Tests.{by-test, and-true-left}
use Rattle.lists.specs.Lists.{flat_map-map, flat_map-same}
use Rattle.lists.specs.Elements.{Each, all_split, all_map, all_first, each-through}
use Rattle.netlist.specs.Steps.{pieces}
use Rattle.row_statements.specs.Parts.{span, whole}
use Rattle.row_statements.specs.Reads.{signals_of}
use Rattle.row_statements.proofs.Spans.{span-is, whole_long}
use Rattle.row_statements.proofs.CodeLaws.{all-signal}

-- ---- pieces of a list

length-pieces : (w n : ℕ) (zs : List ℕ) → length (pieces w n zs) ≡ n
unfolding pieces
length-pieces w zero zs = refl
length-pieces w (suc n) zs = ap suc (length-pieces w n (drop w zs))

pieces-joined : (w n : ℕ) (zs : List ℕ) → flat_map (λ x. x) (pieces w n zs) ≡ take (w * n) zs
unfolding pieces flat_map
pieces-joined w zero zs = rw mul-zero
pieces-joined w (suc n) zs =
    let e : w * suc n ≡ w + w * n = omega arith in
    ap (λ (l : List ℕ). take w zs ++ l) (pieces-joined w n (drop w zs)) ∙ rw e (sym (take-add w (w * n) zs))

pieces-long : (w n : ℕ) (zs : List ℕ) → w * n ≤ length zs → Each (λ z. length z ≡ w) (pieces w n zs)
unfolding pieces
pieces-long w zero zs h = tt
pieces-long w (suc n) zs h =
    let e : w * suc n ≡ w * n + w = omega arith in
    (length-take-le w zs (omega arith), pieces-long w n (drop w zs) (omega (arith, length-drop w zs)))

all-joined : (f : ℕ → Bool) (zs : List (List ℕ)) → all f (flat_map (λ x. x) zs) ≡ all (all f) zs
unfolding flat_map all
all-joined f [] = refl
all-joined f (z ∷ zs) = all_split f z (flat_map (λ x. x) zs) ∙ ap (λ (b : Bool). all f z && b) (all-joined f zs)

-- ---- signals of one width

even-rest : (v w : ℕ) (xs : List Signal) → v ≡ w → Each (λ x. length x ≡ w) xs → all (eqb v) (map length xs) ≡ true
unfolding all
even-rest v w [] e h = refl
even-rest v w (x ∷ xs) e h = rw (eq-eqb v (length x) (e ∙ sym h.0)) (even-rest v w xs e h.1)

pub even-equal : (w : ℕ) (xs : List Signal) → Each (λ x. length x ≡ w) xs → equal (map length xs) ≡ true
unfolding equal
even-equal w [] h = refl
even-equal w (x ∷ xs) h = even-rest (length x) w xs h.0 h.1

pub even-each : (w n : ℕ) (xs : List Signal) → Each (λ x. length x ≡ w) xs → length xs ≡ n → (n ≡ 0 → w ≡ 0) → each_length xs ≡ w
unfolding each_length
even-each w n [] h e z = sym (z (sym e))
even-each w n (x ∷ xs) h e z = h.0

pub even_sum : (w : ℕ) (xs : List Signal) → Each (λ x. length x ≡ w) xs → sum length xs ≡ w * length xs
unfolding sum
even_sum w [] h = omega arith
even_sum w (x ∷ xs) h = let e : w * suc (length xs) ≡ w * length xs + w = omega arith in omega (arith, even_sum w xs h.1, h.0)

pub none_each : (xs : List Signal) → length xs ≡ 0 → each_length xs ≡ 0
unfolding each_length
none_each [] e = refl
none_each (x ∷ xs) e = absurd (omega arith)

pub first-narrow : (ws : Wires) (xs : List Signal) → all (fine_signal ws) xs ≡ true → each_length xs ≤ 2048
unfolding each_length fine_signal
first-narrow ws [] e = omega arith
first-narrow ws (x ∷ xs) e = leb-true (length x) 2048 (and-true-left _ _ (all_first (fine_signal ws) x xs e))

-- as wide as a number, if there are any
pub even-asked : (v : ℕ) (xs : List Signal) → equal (map length xs) ≡ true → (eqb (length xs) 0 || eqb v (each_length xs)) ≡ all (eqb v) (map length xs)
unfolding equal each_length all
even-asked v [] e = refl
even-asked v (x ∷ xs) e =
    rw (ne_eqb (suc (length xs)) 0 (λ q. omega arith))
    (by-test (eqb v (length x)) (λ q. rw q (sym (ap (λ (k : ℕ). all (eqb k) (map length xs)) (eqb-true v (length x) q) ∙ e))) (λ q. rw q))

narrow-fine : (ws : Wires) (z : List ℕ) → length z ≤ 2048 → fine_signal ws (signal_of z) ≡ all (λ c. fine_bit ws (bit_of (bit_at c))) z
unfolding fine_signal
narrow-fine ws z h = rw (length-signal z, le-leb (length z) 2048 h) (all-signal ws z)

each-fine : (ws : Wires) (w : ℕ) → w ≤ 2048 → (zs : List (List ℕ)) → Each (λ z. length z ≡ w) zs → all (λ z. fine_signal ws (signal_of z)) zs ≡ all (all (λ c. fine_bit ws (bit_of (bit_at c)))) zs
unfolding all
each-fine ws w l [] e = refl
each-fine ws w l (z ∷ zs) e = ap₂ ◌&&◌ (narrow-fine ws z (omega (arith, e.0))) (each-fine ws w l zs e.1)

-- ---- the signals of a row

module _ (bits : List ℕ) (at w n : ℕ) where
  pub signals-count : length (signals_of bits at w n) ≡ n
  unfolding signals_of
  signals-count = length-map (pieces w n (drop at bits)) signal_of ∙ length-pieces w n (drop at bits)

  pub signals-codes : flat_map (map bit_code) (signals_of bits at w n) ≡ span bits at (w * n)
  unfolding signals_of
  signals-codes =
      flat_map-map (map bit_code) signal_of (pieces w n (drop at bits))
      ∙ flat_map-same (λ z. map bit_code (signal_of z)) (λ z. z) codes-back (pieces w n (drop at bits))
      ∙ pieces-joined w n (drop at bits)
      ∙ sym (span-is bits at (w * n))

  module _ (h : whole bits at (w * n) ≡ true) where
    cut-long : Each (λ z. length z ≡ w) (pieces w n (drop at bits))
    cut-long = pieces-long w n (drop at bits) (omega (arith, whole_long bits at (w * n) h, ap length (span-is bits at (w * n)), length-take (w * n) (drop at bits)))

    pub signals-even : Each (λ x. length x ≡ w) (signals_of bits at w n)
    unfolding signals_of
    signals-even = each-through _ signal_of _ (λ z e. length-signal z ∙ e) (pieces w n (drop at bits)) cut-long

    pub signals-fine : (ws : Wires) → w ≤ 2048 → all (fine_signal ws) (signals_of bits at w n) ≡ all (λ c. fine_bit ws (bit_of (bit_at c))) (span bits at (w * n))
    unfolding signals_of
    signals-fine ws l =
        all_map (fine_signal ws) signal_of (pieces w n (drop at bits))
        ∙ each-fine ws w l (pieces w n (drop at bits)) cut-long
        ∙ sym (all-joined _ (pieces w n (drop at bits)))
        ∙ ap (all (λ c. fine_bit ws (bit_of (bit_at c)))) (pieces-joined w n (drop at bits) ∙ sym (span-is bits at (w * n)))
