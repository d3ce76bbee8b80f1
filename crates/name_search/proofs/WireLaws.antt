-- The search for a wire along the chain of its name's hash.
-- Assumes nothing.
use Prim.Native.Nat.{ℕ, suc, ◌+◌, ◌-◌, ◌<◌, ◌≤◌}
use mathlib.Core.Path.{◌≡◌, sym, ap, subst, ◌∙◌}
use mathlib.Core.List.{List}
use mathlib.Core.Bool.{Bool, true, false, cond}
use mathlib.Core.Option.{Option, none, some}
use native.Mathlib.Omega.{arith}
use lib.ListN.{get_or, drop}
use lib.Seq.{get_or-drop}
use Rattle.rules.specs.Bytes.{same}
use Rattle.rules.specs.Tokens.{Name}
use Rattle.rules.specs.Statements.{Wire}
use Rattle.rules.specs.Signals.{find}
use Rattle.lists.specs.Tests.{by-test, by_order}
use Rattle.lists.specs.Bytes.{same-eq}
use Rattle.wires.specs.Rows.{name_of, wire_of, wires_from}
use Rattle.wires.specs.RowLaws.{length-wires}
use Rattle.name_index.specs.HashLaws.{hash-less}
use Rattle.name_index.specs.Index.{key_count, row_room, hash_of, wire_key, WiresIndexed}
use Rattle.name_index.specs.IndexLaws.{Walk, walk_first, walk-falls, walk-on}

-- the search for a wire below a row
abbrev pub wire_scan : (names t : List ℕ) (first : ℕ) (n : Name) → ℕ → Option (ℕ × Wire)
wire_scan names t first n m = find n (wires_from names t first (m - first))

module _ (names t : List ℕ) (first : ℕ) (n : Name) where
  wire-turn : (k : ℕ) → first ≤ k → wire_scan names t first n (suc k) ≡ cond (same (name_of names t k) n) (some (k - first, wire_of t k)) (wire_scan names t first n k)
  unfolding find wires_from
  wire-turn k w =
      let e : suc k - first ≡ suc (k - first) = omega arith in
      let d : first + (k - first) ≡ k = omega arith in
      rw (e, d, length-wires names t first (k - first))

  wire-other : (k : ℕ) → (wire_key names t k ≡ hash_of n → ⊥) → wire_scan names t first n (suc k) ≡ wire_scan names t first n k
  unfolding wire_key
  wire-other k e =
      by_order first k
      (λ w. by-test (same (name_of names t k) n) (λ u. absurd (e (ap hash_of (same-eq (name_of names t k) n u)))) (λ u. wire-turn k w ∙ rw u))
      (λ w. let z : suc k - first ≡ k - first = omega arith in rw z)

  abbrev pub WireWalk : (count at : ℕ) → Type 0
  WireWalk count at = Walk (wire_key names t) (hash_of n) (wire_scan names t first n) (first + count) at

  module _ (count : ℕ) where
    all-wires : wire_scan names t first n (first + count) ≡ find n (wires_from names t first count)
    all-wires = let e : first + count - first ≡ count = omega arith in rw e

    pub wire-none : (at : ℕ) → WireWalk count at → at ≤ first → find n (wires_from names t first count) ≡ none
    unfolding find wires_from
    wire-none at w q = let e : at - first ≡ 0 = omega arith in sym all-wires ∙ w.rest ∙ rw e

    module _ (heads chain : List ℕ) (x : WiresIndexed heads chain names t (first + count)) where
      pub wire-first : (h : ℕ) → h ≡ hash_of n → WireWalk count (get_or heads (key_count + h) 0)
      wire-first h e =
          subst (WireWalk count) (get_or-drop key_count heads h 0)
          (rw e (walk_first _ _ _ _ (λ k q. wire-other k) (drop key_count heads) (drop row_room chain) x.indexed (omega (arith, hash-less n))))

      module _ (at : ℕ) (w : WireWalk count at) (q : first < at) where
        pub wire-less : get_or chain (row_room + (at - 1)) 0 < at
        wire-less =
            subst (λ (j : ℕ). j < at) (get_or-drop row_room chain (at - 1) 0)
            (walk-falls _ _ _ _ (λ k q. wire-other k) (drop key_count heads) (drop row_room chain) x.indexed at w (omega arith))

        -- a turn; b: whether the row's name a is the name
        module _ (a : Name) (b : Bool) (ea : a ≡ name_of names t (at - 1)) (eb : b ≡ same a n) where
          turn : wire_scan names t first n at ≡ cond b (some (at - 1 - first, wire_of t (at - 1))) (wire_scan names t first n (at - 1))
          turn =
              let e : at ≡ suc (at - 1) = omega arith in
              ap (wire_scan names t first n) e ∙ wire-turn (at - 1) (omega arith) ∙ rw (eb, ea)

          pub wire-found : b ≡ true → find n (wires_from names t first count) ≡ some (at - 1 - first, wire_of t (at - 1))
          wire-found e = sym all-wires ∙ w.rest ∙ turn ∙ rw e

          pub wire-next : b ≡ false → WireWalk count (get_or chain (row_room + (at - 1)) 0)
          wire-next e =
              subst (WireWalk count) (get_or-drop row_room chain (at - 1) 0)
              (walk-on _ _ _ _ (λ k q. wire-other k) (drop key_count heads) (drop row_room chain) x.indexed at w (omega arith) (turn ∙ rw e))
