-- The lowest number of signals, from that of their parts, from whether their widths are equal, and from their bits in all.
-- Assumes nothing.
use Prim.Native.Nat.{ℕ, ◌<◌, ◌≤◌}
use mathlib.Core.Path.{◌≡◌, refl, sym, ap, ◌∙◌}
use mathlib.Core.List.{List, [], ◌∷◌, map, flat_map}
use mathlib.Core.Option.{get_or}
use mathlib.Core.Bool.{Bool, true, false, not, cond, ◌&&◌, ◌||◌}
use native.Mathlib.Omega.{arith}
use lib.Dec.{leb, ltb}
use borrow.Author.Tests.{ltb-false}
use Rattle.rules.specs.Limits.{most_signal_bits}
use Rattle.rules.specs.Bytes.{all}
use Rattle.rules.specs.Statements.{Sig}
use Rattle.rules.specs.Signals.{Wires, width, declared_wire, good_slice, parts}
use Rattle.rules.specs.Numbers.{good_numbers}
use Rattle.rules.specs.Judgement.{sum, equal, lowest}
use Rattle.lists.specs.Tests.{by-test, and-true-left, and-true-right}
use Rattle.faults.specs.Faults.{faults, merge, mild}
use Rattle.faults.proofs.FaultLaws.{merge-zero, mild-merge, late-merge}
use Rattle.signal_list.specs.Lists.{list_fault}
use Rattle.signal_list.specs.Sums.{uneven_fault, total_fault}

-- ---- two tests more

abbrev first : (a b c d : Bool) → ℕ
first a b c d = get_or (lowest ((7, a) ∷ (8, b) ∷ (10, c) ∷ (11, d) ∷ [])) 0

with-ten : (a b c d e : Bool) → merge (uneven_fault e) (first a b (not c) d) ≡ first a b (not (c && e)) d
unfolding lowest merge uneven_fault
with-ten a b true d true = refl
with-ten a b false d true = refl
with-ten true b c d false = refl
with-ten false true c d false = refl
with-ten false false true true false = refl
with-ten false false true false false = refl
with-ten false false false d false = refl

with-eleven : (a b c d o : Bool) → merge (cond o 11 0) (first a b c d) ≡ first a b c (d || o)
unfolding lowest merge
with-eleven a b c true false = refl
with-eleven a b c false false = refl
with-eleven true b c d true = refl
with-eleven false true c d true = refl
with-eleven false false true d true = refl
with-eleven false false false true true = refl
with-eleven false false false false true = refl

-- ---- numbers from 10 on

uneven-late : (e : Bool) → 0 < uneven_fault e → 10 ≤ uneven_fault e
unfolding uneven_fault
uneven-late true h = absurd (omega arith)
uneven-late false h = omega arith

total-late : (n : ℕ) → 0 < total_fault n → 10 ≤ total_fault n
unfolding total_fault
total-late n h = by (ltb most_signal_bits n) h
  where
    by : (b : Bool) → 0 < cond b 11 0 → 10 ≤ cond b 11 0
    by true h = omega arith
    by false h = absurd (omega arith)

-- ---- the number of signals

abbrev pub told : ℕ → Bool → ℕ → ℕ
told total even fault = merge (total_fault total) (merge (uneven_fault even) fault)

module _ (ws : Wires) (ss : List Sig) where
  fault-told : list_fault ws ss ≡ told (sum (width ws) ss) (equal (map (width ws) ss)) (faults ws (flat_map parts ss))
  unfolding list_fault faults total_fault
  fault-told =
      let ps = flat_map parts ss in
      sym (ap (merge _)
      (with-ten (not (all good_numbers ps)) (not (all (declared_wire ws) ps)) (all (good_slice ws) ps) (not (all (λ p. leb (width ws p) 2048) ps)) (equal (map (width ws) ss)))
      ∙ with-eleven _ _ _ _ (ltb most_signal_bits (sum (width ws) ss)))

  -- where the signals have widths, they are those that were read
  pub list-fault :
      (total : ℕ) (even : Bool) (n : ℕ) → faults ws (flat_map parts ss) ≡ n → (mild n ≡ true → equal (map (width ws) ss) ≡ even) →
      (mild n ≡ true → sum (width ws) ss ≡ total) → list_fault ws ss ≡ told total even n
  list-fault total even n r e t =
      fault-told
      ∙ ap (told (sum (width ws) ss) (equal (map (width ws) ss))) r
      ∙ ap (merge (total_fault (sum (width ws) ss)))
      (late-merge (uneven_fault (equal (map (width ws) ss))) (uneven_fault even) n (uneven-late _) (uneven-late _) (λ m. ap uneven_fault (e m)))
      ∙ late-merge (total_fault (sum (width ws) ss)) (total_fault total) (merge (uneven_fault even) n) (total-late _) (total-late _)
      (λ m. ap total_fault (t (and-true-right (mild (uneven_fault even)) (mild n) (sym (mild-merge (uneven_fault even) n) ∙ m))))

-- ---- what a number says of the three

module _ (total : ℕ) (even : Bool) (n : ℕ) where
  pub told-mild : mild (told total even n) ≡ true → (even ≡ true) × (mild n ≡ true)
  unfolding uneven_fault mild
  told-mild h =
      let m = and-true-right (mild (total_fault total)) _ (sym (mild-merge (total_fault total) (merge (uneven_fault even) n)) ∙ h) in
      let k = sym (mild-merge (uneven_fault even) n) ∙ m in
      (by even (and-true-left _ _ k), and-true-right (mild (uneven_fault even)) _ k)
    where
      by : (e : Bool) → mild (uneven_fault e) ≡ true → e ≡ true
      by true h = refl
      by false h = h

  pub told_none : told total even n ≡ 0 → (total ≤ most_signal_bits) × (even ≡ true) × (n ≡ 0)
  unfolding total_fault uneven_fault
  told_none h =
      let z = merge-zero (total_fault total) (merge (uneven_fault even) n) h in
      let k = merge-zero (uneven_fault even) n z.1 in
      (by-test (ltb most_signal_bits total) (λ t. let q : 11 ≡ 0 = rw t at z.0 in absurd (omega arith)) (λ t. ltb-false most_signal_bits total t), by even k.0, k.1)
    where
      by : (e : Bool) → uneven_fault e ≡ 0 → e ≡ true
      by true h = refl
      by false h = absurd (omega arith)
