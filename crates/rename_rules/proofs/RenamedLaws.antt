-- The search for a name among the wires' last renames, and what it leaves of the search among their own names.
-- Assumes nothing.
use Prim.Native.Nat.{ℕ, zero, suc, ◌+◌, ◌-◌, ◌<◌, ◌≤◌}
use mathlib.Core.Path.{◌≡◌, refl, sym, ap, ◌∙◌}
use mathlib.Core.List.{List}
use mathlib.Core.Bool.{Bool, true, false, ◌&&◌}
use native.Mathlib.Omega.{arith}
use lib.Dec.{eqb}
use borrow.Author.Tests.{eqb-true}
use Rattle.rules.specs.Bytes.{same}
use Rattle.rules.specs.Tokens.{Name}
use Rattle.rules.specs.Judgement.{Verdict, accepted}
use Rattle.lists.specs.Tests.{by-test, by_order, never, and-true-left, and-true-right}
use Rattle.lists.specs.Bytes.{same-sym}
use Rattle.wires.specs.Rows.{column, span_at}
use Rattle.wire_names.specs.Now.{renames, last_rename, name_now}
use Rattle.wire_names.specs.NowLaws.{name_by, name_by_lem}
use Rattle.wire_names.specs.declared.Module.{Module}
use Rattle.rename_rules.specs.Search.{search_now, last_of, Renamed, keeps_name}
use Rattle.rename_rules.proofs.SearchLaws.{search-here, search-next}

-- the last rename is one of those that stand, and of the wire
module _ (rows : List ℕ) (from m n : ℕ) where
  last-few : (count : ℕ) → last_rename rows from count m n ≤ count
  unfolding last_rename
  last-few zero = omega arith
  last-few (suc c) = by-test (renames rows (from + c) m n) (λ e. rw e (omega arith)) (λ e. rw e (omega (arith, last-few c)))

  last-wire : (count j : ℕ) → last_rename rows from count m n ≡ suc j → column rows (from + j) 4 ≡ n
  unfolding last_rename renames
  last-wire zero j e = absurd (omega arith)
  last-wire (suc c) j e =
      by-test (renames rows (from + c) m n)
      (λ t. let q : j ≡ c = omega (arith, rw t at e) in rw q (eqb-true (column rows (from + c) 4) n (and-true-right (eqb (column rows (from + c) 3) m) _ t)))
      (λ t. last-wire c j (rw t at e))

module _ {names rows : List ℕ} {m : Module} {n : Name} where
  pub renamed-none : Renamed names rows m n 0 m.wires
  renamed-none = record { below = omega arith; others = λ k j p q e. absurd (omega arith); here = λ p. absurd (omega arith) }

  renamed-live : {r : ℕ} → Renamed names rows m n m.renames r → (k j : ℕ) → k < r → last_of rows m k ≡ suc j → same (span_at names rows (m.from + j) 1) n ≡ false
  renamed-live x k j p e = x.others k j p (omega (arith, last-few rows m.from m.number.0 k m.renames)) e

  -- one row more, of wire w
  module _ (i r w : ℕ) (ew : w ≡ column rows (m.from + i) 4) (x : Renamed names rows m n i r) where
    of-wire : (k : ℕ) → last_of rows m k ≡ suc i → w ≡ k
    of-wire k e = ew ∙ last-wire rows m.from m.number.0 k m.renames i e

    more : ((k : ℕ) → k < r → last_of rows m k ≡ suc i → same (span_at names rows (m.from + i) 1) n ≡ false) → Renamed names rows m n (i + 1) r
    more f =
        record {
          below = x.below;
          others = λ k j p q e. by_order i j (λ o. let z : j ≡ i = omega arith in rw z (f k p (rw z at e))) (λ o. x.others k j p o e);
          here = x.here;
        }

    pub renamed-behind : r ≤ w → Renamed names rows m n (i + 1) r
    renamed-behind q = more (λ k p e. absurd (omega (arith, of-wire k e)))

    pub renamed-other : (a : Name) → a ≡ span_at names rows (m.from + i) 1 → same a n ≡ false → Renamed names rows m n (i + 1) r
    renamed-other a ea e = more (λ k p q. rw (← ea) e)

    pub renamed-again : (l : ℕ) → l ≡ last_of rows m w → (l ≡ i + 1 → ⊥) → Renamed names rows m n (i + 1) r
    renamed-again l el f = more (λ k p e. absurd (f (el ∙ ap (last_of rows m) (of-wire k e) ∙ e ∙ (let z : suc i ≡ i + 1 = omega arith in z))))

    pub renamed-here :
        w < r → (a : Name) → a ≡ span_at names rows (m.from + i) 1 → same a n ≡ true → (l : ℕ) → l ≡ last_of rows m w → l ≡ i + 1 → Renamed names rows m n (i + 1) w
    renamed-here q a ea e l el f =
        record {
          below = omega (arith, x.below);
          others = λ k j p o d.
              by_order i j
              (λ u. let z : j ≡ i = omega arith in absurd (omega (arith, of-wire k (rw z at d))))
              (λ u. x.others k j (omega arith) u d);
          here = λ _. (i, sym el ∙ f ∙ (let z : i + 1 ≡ suc i = omega arith in z), rw (← ea) e);
        }

-- the name now of a wire by its last rename
module _ (names wires rows : List ℕ) (m : Module) (n : Name) (k : ℕ) where
  abbrev Now : Name
  Now = name_now names wires rows m.from m.renames m.number.0 k (m.first + k)

  now-by : (l : ℕ) → last_of rows m k ≡ l → Now ≡ name_by names wires rows m.from (m.first + k) l
  now-by l e = name_by_lem names wires rows m.from m.number.0 k (m.first + k) m.renames ∙ ap (name_by names wires rows m.from (m.first + k)) e

  now-renamed : Renamed names rows m n m.renames k → k < m.wires → same Now n ≡ true
  unfolding name_by
  now-renamed x q = let h = x.here q in ap (λ (a : Name). same a n) (now-by (suc h.0) h.1) ∙ h.2

  now-kept : keeps_name names wires rows m n k ≡ true → same Now n ≡ true
  unfolding keeps_name name_by
  now-kept e = ap (λ (a : Name). same a n) (now-by 0 (eqb-true (last_of rows m k) 0 (and-true-right (same (span_at names wires (m.first + k) 1) n) _ e))) ∙ and-true-left _ (eqb (last_of rows m k) 0) e

  now-other : (r : ℕ) → Renamed names rows m n m.renames r → k < r → keeps_name names wires rows m n k ≡ false → same Now n ≡ false
  unfolding keeps_name name_by
  now-other r x q e = by_last (last_of rows m k) refl where
    by_last : (l : ℕ) → last_of rows m k ≡ l → same Now n ≡ false
    by_last zero d =
        by-test (same (span_at names wires (m.first + k) 1) n)
        (λ t. never true refl (rw (t, d) at e))
        (λ t. ap (λ (a : Name). same a n) (now-by 0 d) ∙ t)
    by_last (suc j) d = ap (λ (a : Name). same a n) (now-by (suc j) d) ∙ renamed-live x k j q d

  -- where no rename gives the name, a wire has it just where it keeps it
  pub now-same : Renamed names rows m n m.renames m.wires → k < m.wires → same n Now ≡ keeps_name names wires rows m n k
  now-same x q =
      same-sym n Now ∙ by-test (keeps_name names wires rows m n k) (λ e. now-kept e ∙ sym e) (λ e. now-other m.wires x q e ∙ sym e)

  -- a turn of the search for the first wire of this name
  abbrev Search : ℕ → Verdict ℕ
  Search j = search_now names wires rows m n (m.wires - j) j

  module _ (q : k < m.wires) where
    left : m.wires - k ≡ suc (m.wires - (k + 1))
    left = omega arith

    found : same Now n ≡ true → Search k ≡ accepted k
    found e = search-here names wires rows m n Now (m.wires - k) (m.wires - (k + 1)) k (same Now n) left refl refl e

    pub search-kept : keeps_name names wires rows m n k ≡ true → Search k ≡ accepted k
    search-kept e = found (now-kept e)

    pub search-renamed : (r : ℕ) → r ≡ k → Renamed names rows m n m.renames r → Search k ≡ accepted r
    search-renamed r e x = let y : Renamed names rows m n m.renames k = rw e at x in rw e (found (now-renamed y q))

    pub search-passed : (r : ℕ) → Renamed names rows m n m.renames r → k < r → keeps_name names wires rows m n k ≡ false → Search k ≡ Search (k + 1)
    search-passed r x p e = search-next names wires rows m n Now (m.wires - k) (m.wires - (k + 1)) k (same Now n) left refl refl (now-other r x p e)
