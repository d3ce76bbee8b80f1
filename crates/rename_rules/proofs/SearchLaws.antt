-- A turn of the search for a name now, and that a name is taken just where its wire is found.
-- Assumes nothing.
use Prim.Native.Nat.{ℕ, zero, suc, ◌+◌, ◌-◌}
use mathlib.Core.Path.{◌≡◌, refl, sym, ap, ◌∙◌}
use mathlib.Core.List.{List}
use mathlib.Core.Bool.{Bool, true, false, ◌||◌, or-false, or-true}
use native.Mathlib.Omega.{arith}
use Rattle.std.specs.Prelude.{Some, None, is_some}
use Rattle.std.specs.Prelude.{Option as Optional}
use Rattle.rules.specs.Bytes.{same, any}
use Rattle.rules.specs.Tokens.{Name}
use Rattle.rules.specs.Judgement.{accepted, refused}
use Rattle.lists.specs.Tests.{by-test}
use Rattle.lists.specs.Bytes.{same-sym}
use Rattle.numbers.specs.declared.kinds.WireNumber.{WireNumber}
use Rattle.wire_names.specs.Now.{name_now, wires_now, wires_in}
use Rattle.wire_names.specs.declared.Module.{Module}
use Rattle.rename_rules.specs.Search.{search_now, named, is_found}

-- l wires are left from number k on; b: whether wire k has the name
module _ (names wires rows : List ℕ) (m : Module) (n own : Name) (l j k : ℕ) (b : Bool) (e : l ≡ suc j)
    (eo : own ≡ name_now names wires rows m.from m.renames m.number.0 k (m.first + k)) (eb : b ≡ same own n) where
  pub search-here : b ≡ true → search_now names wires rows m n l k ≡ accepted k
  unfolding search_now
  search-here t = rw (e, ← eo, ← eb, t)

  pub search-next : b ≡ false → search_now names wires rows m n l k ≡ search_now names wires rows m n j (k + 1)
  unfolding search_now
  search-next t = rw (e, ← eo, ← eb, t)

found-some : (r : Optional WireNumber) → is_found (named r) ≡ is_some r
unfolding is_found named
found-some (Some w) = refl
found-some None = refl

module _ (names wires rows : List ℕ) (m : Module) (n : Name) where
  pub search-start : search_now names wires rows m n m.wires 0 ≡ search_now names wires rows m n (m.wires - 0) 0
  search-start = let e : m.wires - 0 ≡ m.wires = omega arith in rw e

  pub search-end : (l k : ℕ) → l ≡ 0 → search_now names wires rows m n l k ≡ refused 8
  unfolding search_now
  search-end l k e = rw e

  -- among the first k wires, or found behind them
  abbrev pub taken : ℕ → Bool
  taken k = any (λ x. same n x.0) (wires_now names wires rows m.from m.renames m.number.0 m.first k)

  pub taken_more : (k : ℕ) → taken (k + 1) ≡ same n (name_now names wires rows m.from m.renames m.number.0 k (m.first + k)) || taken k
  unfolding any wires_now
  taken_more k = let e : k + 1 ≡ suc k = omega arith in rw e

  pub found-on : (l k : ℕ) → taken (k + l) ≡ taken k || is_found (search_now names wires rows m n l k)
  unfolding search_now is_found
  found-on zero k = let e : k + 0 ≡ k = omega arith in rw (e, or-false (taken k))
  found-on (suc l) k =
      let own : Name = name_now names wires rows m.from m.renames m.number.0 k (m.first + k) in
      let e : k + suc l ≡ k + 1 + l = omega arith in
      let h : taken (k + suc l) ≡ (same own n || taken k) || is_found (search_now names wires rows m n l (k + 1)) =
      ap taken e ∙ found-on l (k + 1) ∙ ap (λ (b : Bool). b || is_found (search_now names wires rows m n l (k + 1))) (taken_more k ∙ ap (λ (b : Bool). b || taken k) (same-sym n own)) in
      by-test (same own n) (λ t. h ∙ rw (t, or-true (taken k))) (λ t. h ∙ rw t)

  pub taken-found : (r : Optional WireNumber) → named r ≡ search_now names wires rows m n m.wires 0 → any (λ x. same n x.0) (wires_in names wires rows m) ≡ is_some r
  unfolding wires_in any wires_now
  taken-found r e =
      let z : 0 + m.wires ≡ m.wires = omega arith in
      ap taken (sym z) ∙ found-on m.wires 0 ∙ ap is_found (sym e) ∙ found-some r
