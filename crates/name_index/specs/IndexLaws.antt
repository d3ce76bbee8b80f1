-- Laws of the index: rows fall along a chain; a search over all rows is a search over the chain of a key; one row more.
-- Assumes nothing.
use Prim.Native.Nat.{ℕ, zero, suc, ◌+◌, ◌-◌, ◌<◌, ◌≤◌}
use Rattle.std.specs.Prelude.{◌≡◌, List, Bool, true, false, ◌&&◌, ◌||◌, eqb, length, get_or, set, drop, replicate}
use Rattle.std.proofs.Math.Path.{refl, sym, ap}
use Rattle.std.proofs.Common.{◌∙◌, add-one, length-set, length-drop, get_or-drop, get_or-set_same, get_or-set_other, eq-eqb, ne_eqb, eqb-true}
use Rattle.std.proofs.Math.Bool.{and-false}
use native.Mathlib.Omega.{arith}
use Rattle.std.proofs.lemmas.List.{length-replicate, get_or-replicate}
use Rattle.std.proofs.lemmas.Bool.{eqb-false}
use Rattle.rules.specs.Bytes.{same, any}
use Rattle.rules.specs.Tokens.{Name}
use Rattle.lists.specs.Tests.{by_cond, by-test, by_order}
use Rattle.lists.specs.Bytes.{same-eq}
use Rattle.lists.specs.Elements.{any-chosen}
use Rattle.wires.specs.Rows.{name_of, span_at}
use Rattle.netlist.specs.Rows.{kind_at, name_at, names_between}
use Rattle.netlist.specs.Kinds.{has_name}
use Rattle.name_index.specs.HashLaws.{hash-less}
use Rattle.name_index.specs.Index.{key_count, hash_of, key_at, wire_key, Named, youngest, Indexed}

module _ (key : ℕ → ℕ) (h : ℕ) where
  -- the turns of the definition
  pub youngest-here : (k : ℕ) → key k ≡ h → youngest key h (suc k) ≡ suc k
  unfolding youngest
  youngest-here k e = rw (eq-eqb (key k) h e)

  pub youngest-past : (k : ℕ) → (key k ≡ h → ⊥) → youngest key h (suc k) ≡ youngest key h k
  unfolding youngest
  youngest-past k e = rw (ne_eqb (key k) h e)

  by_key : {P : Type 0} (k : ℕ) → (key k ≡ h → P) → ((key k ≡ h → ⊥) → P) → P
  by_key k f g = by-test (eqb (key k) h) (λ e. f (eqb-true (key k) h e)) (λ e. g (eqb-false (key k) h e))

  pub youngest-le : (n : ℕ) → youngest key h n ≤ n
  unfolding youngest
  youngest-le zero = omega arith
  youngest-le (suc k) = by_key k (λ e. omega (arith, youngest-here k e)) (λ e. omega (arith, youngest-past k e, youngest-le k))

  -- it is its own youngest
  pub youngest-again : (n : ℕ) → youngest key h (youngest key h n) ≡ youngest key h n
  unfolding youngest
  youngest-again zero = refl
  youngest-again (suc k) =
      by_key k
      (λ e. ap (youngest key h) (youngest-here k e))
      (λ e. ap (youngest key h) (youngest-past k e) ∙ youngest-again k ∙ sym (youngest-past k e))

  -- and has the key
  pub youngest-key : (k : ℕ) → youngest key h (suc k) ≡ suc k → key k ≡ h
  youngest-key k e = by_key k (λ q. q) (λ q. absurd (omega (arith, youngest-past k q, youngest-le k)))

  -- what no row of another key changes, all rows give and the youngest row of the key gives
  pub chain-scan : {A : Type 0} (f : ℕ → A) → (n : ℕ) → ((k : ℕ) → k < n → (key k ≡ h → ⊥) → f (suc k) ≡ f k) → f n ≡ f (youngest key h n)
  unfolding youngest
  chain-scan f zero t = refl
  chain-scan f (suc k) t =
      by_key k
      (λ e. ap f (sym (youngest-here k e)))
      (λ e. t k (omega arith) e ∙ chain-scan f k (λ j q. t j (omega arith)) ∙ ap f (sym (youngest-past k e)))

-- keys that agree below n
pub youngest-same : (f g : ℕ → ℕ) (h n : ℕ) → ((k : ℕ) → k < n → f k ≡ g k) → youngest f h n ≡ youngest g h n
unfolding youngest
youngest-same f g h zero e = refl
youngest-same f g h (suc k) e = rw (e k (omega arith), youngest-same f g h k (λ j q. e j (omega arith)))

pub indexed-same : (heads chain : List ℕ) (f g : ℕ → ℕ) (n : ℕ) → ((k : ℕ) → k < n → f k ≡ g k) → Indexed heads chain f n → Indexed heads chain g n
indexed-same heads chain f g n e x =
    record {
      keys = x.keys;
      room = x.room;
      head = λ h q. x.head h q ∙ youngest-same f g h n e;
      older = λ k q. x.older k q ∙ ap (λ (h : ℕ). youngest f h k) (e k q) ∙ youngest-same f g (g k) k (λ j r. e j (omega arith));
    }

-- no row yet: heads that are zero from a place on, or all of them
pub none_from : (a m : ℕ) (chain : List ℕ) (key : ℕ → ℕ) → a + key_count ≤ m → Indexed (drop a (replicate m 0)) chain key 0
unfolding youngest
none_from a m chain key e =
    record {
      keys = omega (arith, length-drop {A = ℕ} a (replicate m 0), length-replicate {A = ℕ} m 0);
      room = omega arith;
      head = λ h q. get_or-drop a (replicate m 0) h 0 ∙ get_or-replicate m (a + h) 0 0 (omega arith);
      older = λ k q. absurd (omega arith);
    }

pub indexed-none : (chain : List ℕ) (key : ℕ → ℕ) → Indexed (replicate key_count 0) chain key 0
indexed-none chain key = none_from 0 key_count chain key (omega arith)

-- one row more
module _ (heads chain : List ℕ) (key : ℕ → ℕ) (n : ℕ) (x : Indexed heads chain key n) where
  pub indexed-more : key n < key_count → n < length chain → Indexed (set heads (key n) (n + 1)) (set chain n (get_or heads (key n) 0)) key (n + 1)
  indexed-more q r =
      record {
        keys = simp length-set x.keys;
        room = simp length-set (omega arith);
        head = λ h p.
            by_key key h n
            (λ e. rw (add-one, e) (get_or-set_same heads h (suc n) 0 (omega (arith, x.keys)) ∙ sym (youngest-here key h n e)))
            (λ e. get_or-set_other heads (key n) h (n + 1) 0 (λ w. e (sym w)) ∙ x.head h p ∙ sym (rw add-one (youngest-past key h n e)));
        older = λ k p.
            by_order n k
            (λ w. let e : k ≡ n = omega arith in rw e (get_or-set_same chain n (get_or heads (key n) 0) 0 r ∙ x.head (key n) q))
            (λ w. get_or-set_other chain n k (get_or heads (key n) 0) 0 (λ e. omega arith) ∙ x.older k w);
      }

-- the row reached is a youngest one, and f of the rows below it is f of all n
pub record Walk {A : Type 0} (key : ℕ → ℕ) (h : ℕ) (f : ℕ → A) (n at : ℕ) : Type 0 where
  pub below : at ≤ n
  pub own : youngest key h at ≡ at
  pub rest : f n ≡ f at

module _ {A : Type 0} (key : ℕ → ℕ) (h : ℕ) (f : ℕ → A) (n : ℕ) (other : (k : ℕ) → k < n → (key k ≡ h → ⊥) → f (suc k) ≡ f k) where
  walk-to : (m : ℕ) → m ≤ n → f n ≡ f m → Walk key h f n (youngest key h m)
  walk-to m w e =
      record { below = omega (arith, youngest-le key h m); own = youngest-again key h m; rest = e ∙ chain-scan key h f m (λ k q. other k (omega arith)) }

  module _ (heads chain : List ℕ) (x : Indexed heads chain key n) where
    pub walk_first : h < key_count → Walk key h f n (get_or heads h 0)
    walk_first q = rw (x.head h q) (walk-to n (omega arith) refl)

    module _ (at : ℕ) (w : Walk key h f n at) (p : 0 < at) where
      at_row : at ≡ suc (at - 1)
      at_row = omega arith

      next-is : get_or chain (at - 1) 0 ≡ youngest key h (at - 1)
      next-is =
          let k : key (at - 1) ≡ h = youngest-key key h (at - 1) (rw at_row at w.own) in
          x.older (at - 1) (omega (arith, w.below)) ∙ ap (λ (j : ℕ). youngest key j (at - 1)) k

      pub walk-falls : get_or chain (at - 1) 0 < at
      walk-falls = omega (arith, next-is, youngest-le key h (at - 1))

      pub walk-on : f at ≡ f (at - 1) → Walk key h f n (get_or chain (at - 1) 0)
      walk-on e = rw next-is (walk-to (at - 1) (omega (arith, w.below)) (w.rest ∙ e))

-- the search for a name among the rows from one on, below m: the last row's turn, and one of another hash
module _ (names rows : List ℕ) (test : ℕ → Bool) (from : ℕ) (n : Name) where
  abbrev pub scan : ℕ → Bool
  scan m = any (same n) (names_between names rows test from (m - from))

  pub scan-turn : (k : ℕ) → from ≤ k → scan (suc k) ≡ (test (kind_at rows k) && same n (name_at names rows k)) || scan k
  unfolding names_between
  scan-turn k w =
      let e : suc k - from ≡ suc (k - from) = omega arith in
      let d : from + (k - from) ≡ k = omega arith in
      rw (e, d) (any-chosen (same n) (test (kind_at rows k)) (name_at names rows k) (names_between names rows test from (k - from)))

  differs :
      (k : ℕ) → (test (kind_at rows k) ≡ true → has_name (kind_at rows k) ≡ true) → (key_at names rows k ≡ hash_of n → ⊥) →
      test (kind_at rows k) && same n (name_at names rows k) ≡ false
  unfolding key_at
  differs k h e =
      by-test (test (kind_at rows k))
      (λ t. by-test (same n (name_at names rows k))
      (λ u. absurd (e (rw (h t) (ap hash_of (sym (same-eq n (name_at names rows k) u))))))
      (λ u. rw (u, and-false)))
      (λ t. rw t)

  module _ (count : ℕ) (named : Named rows test from count) where
    scan-other : (k : ℕ) → k < from + count → (key_at names rows k ≡ hash_of n → ⊥) → scan (suc k) ≡ scan k
    scan-other k q e =
        by_order from k
        (λ w. scan-turn k w ∙ rw (differs k (named k w q) e))
        (λ w. let z : suc k - from ≡ k - from = omega arith in rw z)

  abbrev pub NameWalk : (count at : ℕ) → Type 0
  NameWalk count at = Walk (key_at names rows) (hash_of n) scan (from + count) at

  -- the walk: a turn at a row above from, where a tells whether it has the name; and the end
  module _ (count : ℕ) (named : Named rows test from count) where
    abbrev Taken : Bool
    Taken = any (same n) (names_between names rows test from count)

    other : (k : ℕ) → k < from + count → (key_at names rows k ≡ hash_of n → ⊥) → scan (suc k) ≡ scan k
    other = scan-other count named

    all-rows : scan (from + count) ≡ Taken
    all-rows = let q : from + count - from ≡ count = omega arith in rw q

    pub walk_end : (at : ℕ) → NameWalk count at → at ≤ from → Taken ≡ false
    unfolding names_between any
    walk_end at w e = let q : at - from ≡ 0 = omega arith in sym all-rows ∙ w.rest ∙ rw q

    module _ (heads chain : List ℕ) (x : Indexed heads chain (key_at names rows) (from + count)) where
      pub walk_start : (h : ℕ) → h ≡ hash_of n → NameWalk count (get_or heads h 0)
      walk_start h e = rw e (walk_first _ _ _ _ other heads chain x (omega (arith, hash-less n)))

      module _ (at : ℕ) (w : NameWalk count at) (f : from < at) (a : Bool) (ea : a ≡ test (kind_at rows (at - 1)) && same n (name_at names rows (at - 1))) where
        turn : scan at ≡ a || scan (at - 1)
        turn = let e : at ≡ suc (at - 1) = omega arith in ap scan e ∙ rw ea (scan-turn (at - 1) (omega arith))

        pub walk-found : a ≡ true → Taken ≡ true
        walk-found e = sym all-rows ∙ w.rest ∙ turn ∙ rw e

        pub walk-less : get_or chain (at - 1) 0 < at
        walk-less = walk-falls _ _ _ _ other heads chain x at w (omega arith)

        pub walk-next : a ≡ false → NameWalk count (get_or chain (at - 1) 0)
        walk-next e = walk-on _ _ _ _ other heads chain x at w (omega arith) (turn ∙ rw e)

pub key-less : (names rows : List ℕ) (k : ℕ) → key_at names rows k < key_count
unfolding key_at
key-less names rows k = by_cond (λ (h : ℕ). h < key_count) (has_name (kind_at rows k)) (λ e. omega (arith, hash-less (name_at names rows k))) (λ e. omega arith)

-- the row behind those that are indexed, put by its key
module _ (names rows heads chain : List ℕ) (row h : ℕ) (x : Indexed heads chain (key_at names rows) row) (eh : h ≡ key_at names rows row) where
  pub put-fits : h < length heads
  put-fits = omega (arith, x.keys, eh, key-less names rows row)

  pub row_put : row < length chain → (heads' chain' : List ℕ) → heads' ≡ set heads h (row + 1) → chain' ≡ set chain row (get_or heads h 0) →
      Indexed heads' chain' (key_at names rows) (row + 1)
  row_put r heads' chain' a b = rw (a, b, eh) (indexed-more heads chain (key_at names rows) row x (key-less names rows row) r)

-- the wire behind those that are indexed, put by the hash of its name
module _ (names wires heads chain : List ℕ) (k h : ℕ) (x : Indexed heads chain (wire_key names wires) k) (eh : h ≡ hash_of (span_at names wires k 1)) where
  pub wire-fits : h < length heads
  wire-fits = omega (arith, x.keys, eh, hash-less (span_at names wires k 1))

  pub wire-put :
      k < length chain → (heads' chain' : List ℕ) → heads' ≡ set heads h (k + 1) → chain' ≡ set chain k (get_or heads h 0) →
      Indexed heads' chain' (wire_key names wires) (k + 1)
  unfolding wire_key name_of
  wire-put r heads' chain' a b =
      rw (a, b, eh) (indexed-more heads chain (wire_key names wires) k x (omega (arith, hash-less (span_at names wires k 1))) r)

-- the rows of a part that ends with those that are indexed
pub indexed-part : (heads chain : List ℕ) (key : ℕ → ℕ) (from n : ℕ) → from ≤ n → Indexed heads chain key n → Indexed heads chain key (from + (n - from))
indexed-part heads chain key from n e x = let q : from + (n - from) ≡ n = omega arith in rw q x

pub indexed-upto : {heads chain : List ℕ} {key : ℕ → ℕ} {m n : ℕ} → m ≡ n → Indexed heads chain key n → Indexed heads chain key m
indexed-upto e x = rw e x
