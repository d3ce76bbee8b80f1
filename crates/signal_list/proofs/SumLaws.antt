-- The signals read so far, and one more.
-- Assumes nothing.
use Prim.Native.Nat.{ℕ, ◌+◌, ◌*◌, ◌≤◌}
use mathlib.Core.Path.{◌≡◌, refl, sym, ap, ap₂, ◌∙◌}
use mathlib.Core.List.{List, [], ◌∷◌, ◌++◌, map, flat_map, map-append}
use mathlib.Core.Bool.{Bool, true, false, cond, ◌&&◌}
use native.Mathlib.Numerals.{add-one}
use native.Mathlib.Omega.{arith}
use lib.Dec.{eqb}
use lib.ListN.{length, take, drop, get_or, replicate, length-append, length-map}
use lib.Seq.{slice}
use borrow.Author.Tests.{eqb-true, eqb-false, eq-eqb, ne_eqb, lt-ltb, le-ltb}
use Rattle.rules.specs.Limits.{most_signal_bits}
use Rattle.rules.specs.Statements.{Sig}
use Rattle.rules.specs.Signals.{Wires, width, bits, parts}
use Rattle.rules.specs.Judgement.{sum, equal}
use Rattle.lists.specs.Tests.{by_cond, by-test, by_order, and-true-left, and-true-right}
use Rattle.lists.specs.Lists.{flat_map-snoc}
use Rattle.lists.specs.Sums.{sum-append}
use Rattle.lists.specs.Parts.{slice-span, take-kept}
use Rattle.netlist.specs.Steps.{pieces}
use Rattle.faults.specs.Faults.{faults, fault, merge, mild}
use Rattle.signals.specs.Held.{codes, Held, Kept}
use Rattle.signals.specs.declared.Bits.{Bits}
use Rattle.faults.proofs.FaultLaws.{merge-zero, mild-merge, faults-none, faults-append}
use Rattle.signal_list.specs.Sums.{place_of, added_to, uneven_fault, total_fault, listed_of}
use Rattle.signal_list.specs.Reads.{ListHeld}
use Rattle.signal_list.specs.declared.Sum.{Sum}
use Rattle.signal_list.specs.declared.Listed.{Listed}
use Rattle.signal_list.proofs.Faults.{told, list-fault, told-mild, told_none}
use Rattle.signal_list.proofs.Pieces.{pieces_more, pieces_kept, equal-more, first_more, all_same}

-- the signals read so far, of which this is kept
pub record SumHeld (ws : Wires) (ss : List Sig) (out : List ℕ) (l : Sum) : Type 0 where
  pub many : length ss ≡ l.count
  pub refused : faults ws (flat_map parts ss) ≡ l.fault
  pub first : mild l.fault ≡ true → get_or (map (width ws) ss) 0 0 ≡ l.width
  pub even : mild l.fault ≡ true → equal (map (width ws) ss) ≡ l.even
  pub total : mild l.fault ≡ true → sum (width ws) ss ≡ l.total
  pub nothing : l.count ≡ 0 → (l.width ≡ 0) × (l.total ≡ 0)
  pub small : l.fault ≡ 0 → l.width ≤ 2048
  pub whole : l.even ≡ true → l.total ≡ l.count * l.width
  pub coded : l.fault ≡ 0 → l.even ≡ true → l.total ≤ most_signal_bits → pieces l.width l.count out ≡ map (λ s. codes (bits ws s)) ss

abbrev pub nothing_read : Sum
nothing_read = record { width = 0; count = 0; total = 0; even = true; fault = 0 }

pub sum-start : (ws : Wires) (out : List ℕ) → SumHeld ws [] out nothing_read
unfolding flat_map equal sum pieces
sum-start ws out =
    record {
      many = refl;
      refused = faults-none ws;
      first = λ m. refl;
      even = λ m. refl;
      total = λ m. refl;
      nothing = λ e. (refl, refl);
      small = λ e. omega arith;
      whole = λ e. refl;
      coded = λ e v l. refl;
    }

pub place-behind : (total : ℕ) → total ≤ most_signal_bits → place_of total ≡ total
unfolding place_of
place-behind total h = by_order most_signal_bits total (λ l. rw (le-ltb total most_signal_bits l) (omega arith)) (λ l. rw (lt-ltb total most_signal_bits l))

pub place-below : (total : ℕ) → place_of total ≤ most_signal_bits
unfolding place_of
place-below total = by_order most_signal_bits total (λ l. rw (le-ltb total most_signal_bits l) (omega arith)) (λ l. rw (lt-ltb total most_signal_bits l) (omega arith))

no-signals : {A : Type 0} (f : Sig → A) (ss : List Sig) → length ss ≡ 0 → map f ss ≡ []
no-signals f [] h = refl
no-signals f (s ∷ ss) h = absurd (omega arith)

-- what `added` and `told` give
module _ (l : Sum) (b : Bits) (n : ℕ) (q : n ≡ merge l.fault b.fault) where
  pub added-first : l.count ≡ 0 → record { width = b.width; count = l.count + 1; total = l.total + b.width; even = true; fault = n } ≡ added_to l b
  unfolding added_to
  added-first z = rw (eq-eqb l.count 0 z, q)

  pub added-later :
      (e : Bool) → (l.count ≡ 0 → ⊥) → e ≡ (l.even && eqb l.width b.width) →
      record { width = l.width; count = l.count + 1; total = l.total + b.width; even = e; fault = n } ≡ added_to l b
  unfolding added_to
  added-later e z h = rw (ne_eqb l.count 0 z, q, h)

-- the signals with this number
abbrev told_of : Sum → ℕ → Listed
told_of l n = record { width = l.width; count = l.count; fault = n }

pub told_is : (l : Sum) (u o m n : ℕ) → u ≡ uneven_fault l.even → o ≡ total_fault l.total → m ≡ merge u l.fault → n ≡ merge o m → told_of l n ≡ listed_of l
unfolding listed_of
told_is l u o m n hu ho hm hn = rw (hn, hm, hu, ho)

-- one signal more
module _ (ws : Wires) (ss : List Sig) (s : Sig) (out out' : List ℕ) (l : Sum) (b : Bits) (M : SumHeld ws ss out l) (K : Kept (place_of l.total) out out') (H : Held ws s (place_of l.total) out' b) where
  abbrev vs : List ℕ
  vs = map (width ws) ss

  vs-long : length vs ≡ l.count
  vs-long = length-map ss (width ws) ∙ M.many

  vs-more : map (width ws) (ss ++ s ∷ []) ≡ vs ++ width ws s ∷ []
  vs-more = map-append (width ws) ss (s ∷ [])

  more-refused : faults ws (flat_map parts (ss ++ s ∷ [])) ≡ merge l.fault b.fault
  unfolding fault
  more-refused = ap (faults ws) (flat_map-snoc parts ss s) ∙ faults-append ws (flat_map parts ss) (parts s) ∙ ap₂ merge M.refused H.refused

  module _ (m : mild (merge l.fault b.fault) ≡ true) where
    both-mild : mild l.fault && mild b.fault ≡ true
    both-mild = sym (mild-merge l.fault b.fault) ∙ m

    old-mild : mild l.fault ≡ true
    old-mild = and-true-left _ _ both-mild

    new-width : width ws s ≡ b.width
    new-width = H.wide (and-true-right (mild l.fault) _ both-mild)

    more-first : get_or (map (width ws) (ss ++ s ∷ [])) 0 0 ≡ cond (eqb l.count 0) b.width l.width
    more-first = ap (λ (x : List ℕ). get_or x 0 0) vs-more ∙ first_more (width ws s) l.count vs vs-long ∙ ap₂ (cond (eqb l.count 0)) new-width (M.first old-mild)

    more-even : equal (map (width ws) (ss ++ s ∷ [])) ≡ cond (eqb l.count 0) true (l.even && eqb l.width b.width)
    more-even =
        ap equal vs-more
        ∙ equal-more (width ws s) l.count vs vs-long
        ∙ rw (M.even old-mild, M.first old-mild, new-width)

    more-total : sum (width ws) (ss ++ s ∷ []) ≡ l.total + b.width
    unfolding sum
    more-total = sum-append (width ws) ss (s ∷ []) ∙ omega (arith, M.total old-mild, new-width)

  more-small : merge l.fault b.fault ≡ 0 → cond (eqb l.count 0) b.width l.width ≤ 2048
  more-small e = let z = merge-zero l.fault b.fault e in by_cond (λ w. w ≤ 2048) (eqb l.count 0) (λ h. H.small z.1) (λ h. M.small z.0)

  -- equal widths: this one is as wide as the first, behind so many as wide
  module _ (e : cond (eqb l.count 0) true (l.even && eqb l.width b.width) ≡ true) where
    old-even : (l.count ≡ 0 → ⊥) → (l.even ≡ true) × (l.width ≡ b.width)
    old-even h = by (eqb l.count 0) (λ q. h (eqb-true l.count 0 q)) e
      where
        by : (t : Bool) → (t ≡ true → ⊥) → cond t true (l.even && eqb l.width b.width) ≡ true → (l.even ≡ true) × (l.width ≡ b.width)
        by true h e = absurd (h refl)
        by false h e = (and-true-left _ _ e, eqb-true l.width b.width (and-true-right l.even _ e))

    new-first : cond (eqb l.count 0) b.width l.width ≡ b.width
    new-first = by-test (eqb l.count 0) (λ h. rw h) (λ h. rw h (old-even (eqb-false l.count 0 h)).1)

    old-total : l.total ≡ l.count * b.width
    old-total =
        by-test (eqb l.count 0) (λ h. let z : l.count ≡ 0 = eqb-true l.count 0 h in (M.nothing z).1 ∙ rw z (omega arith)) (λ h. let k = old-even (eqb-false l.count 0 h) in M.whole k.0 ∙ ap (λ (w : ℕ). l.count * w) k.1)

    more-whole : l.total + b.width ≡ (l.count + 1) * cond (eqb l.count 0) b.width l.width
    more-whole = rw new-first (rw old-total (omega arith))

    module _ (q : merge l.fault b.fault ≡ 0) (r : l.total + b.width ≤ most_signal_bits) where
      new-place : place_of l.total ≡ l.total
      new-place = place-behind l.total (omega arith)

      old-coded : pieces b.width l.count out' ≡ map (λ x. codes (bits ws x)) ss
      unfolding pieces
      old-coded =
          by-test (eqb l.count 0)
          (λ h. let z : l.count ≡ 0 = eqb-true l.count 0 h in rw z (sym (no-signals (λ x. codes (bits ws x)) ss (M.many ∙ z))))
          (λ h. let k = old-even (eqb-false l.count 0 h) in
          let t : l.total ≡ l.count * l.width = M.whole k.0 in
          rw (← k.1)
          (pieces_kept l.width l.count out out' (take-kept out out' (place_of l.total) (l.count * l.width) K.below (omega (arith, t, new-place)))
          ∙ M.coded (merge-zero l.fault b.fault q).0 k.0 (omega arith)))

      new_coded : take b.width (drop (l.count * b.width) out') ≡ codes (bits ws s)
      new_coded =
          sym (slice-span (l.count * b.width) b.width out')
          ∙ ap (λ (k : ℕ). slice k (k + b.width) out') (sym (new-place ∙ old-total))
          ∙ H.coded (merge-zero l.fault b.fault q).1

      more-coded : pieces (cond (eqb l.count 0) b.width l.width) (l.count + 1) out' ≡ map (λ x. codes (bits ws x)) (ss ++ s ∷ [])
      more-coded =
          rw (new-first, add-one)
          (pieces_more b.width l.count out'
          ∙ ap₂ (λ (x : List (List ℕ)) (y : List ℕ). x ++ y ∷ []) old-coded new_coded
          ∙ sym (map-append (λ x. codes (bits ws x)) ss (s ∷ [])))

  pub sum_more : SumHeld ws (ss ++ s ∷ []) out' (added_to l b)
  unfolding added_to
  sum_more =
      record {
        many = length-append ss (s ∷ []) ∙ omega (arith, M.many);
        refused = more-refused;
        first = more-first;
        even = more-even;
        total = more-total;
        nothing = λ e. absurd (omega arith);
        small = more-small;
        whole = more-whole;
        coded = λ q e r. more-coded e q r;
      }

-- what is told of them at the end
module _ (ws : Wires) (ss : List Sig) (out : List ℕ) (l : Sum) (M : SumHeld ws ss out l) where
  abbrev number : ℕ
  number = told l.total l.even l.fault

  all-even : mild number ≡ true → map (width ws) ss ≡ replicate l.count l.width
  all-even m =
      let h = told-mild l.total l.even l.fault m in
      all_same l.width (map (width ws) ss) (M.even h.1 ∙ h.0) (M.first h.1)
      ∙ ap (λ (n : ℕ). replicate n l.width) (length-map ss (width ws) ∙ M.many)

  pub sum_told : ListHeld ws ss out l.width l.count number
  sum_told =
      record {
        many = M.many;
        refused = list-fault ws ss l.total l.even l.fault M.refused M.even M.total;
        widths = all-even;
        nothing = λ e. (M.nothing e).0;
        small = λ z. M.small (none z).2;
        room = λ z. let h = none z in omega (arith, M.whole h.1, h.0);
        coded = λ z. let h = none z in M.coded h.2 h.1 h.0;
      }
    where
      none : number ≡ 0 → (l.total ≤ most_signal_bits) × (l.even ≡ true) × (l.fault ≡ 0)
      none z = told_none l.total l.even l.fault z
