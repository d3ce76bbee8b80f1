-- The search for a name over rows, and the bound of a name's column.
-- Assumes nothing.
use Prim.Native.Nat.{ℕ, zero, suc, ◌+◌, ◌≤◌}
use mathlib.Core.Path.{◌≡◌, refl, sym, ap, ◌∙◌}
use mathlib.Core.List.{List}
use mathlib.Core.Bool.{Bool, ◌&&◌, ◌||◌}
use native.Mathlib.Omega.{arith}
use lib.Dec.{eqb}
use Rattle.std.specs.List.{list_any, range_with_len}
use Rattle.rules.specs.Bytes.{same, any}
use Rattle.rules.specs.Tokens.{Name}
use Rattle.lists.specs.Tests.{by_cond}
use Rattle.lists.specs.Elements.{any-chosen}
use Rattle.wires.specs.RowLaws.{any-below}
use Rattle.netlist.specs.Rows.{name_column, kind_at, name_at, names_between}

pub name-column-small : (k : ℕ) → name_column k ≤ 3
unfolding name_column
name-column-small k = by_cond (λ (c : ℕ). c ≤ 3) (eqb k 7) (λ e. omega arith) (λ e. omega arith)

-- the search for a name by the rows' numbers
module _ (names rows : List ℕ) (test : ℕ → Bool) (from : ℕ) (n : Name) where
  abbrev has_it : ℕ → Bool
  has_it k = test (kind_at rows (from + k)) && same n (name_at names rows (from + k))

  pub taken-rows : (count : ℕ) → list_any has_it (range_with_len 0 count) ≡ any (same n) (names_between names rows test from count)
  unfolding any names_between
  taken-rows zero = refl
  taken-rows (suc k) =
      any-below has_it k
      ∙ ap (λ (b : Bool). has_it k || b) (taken-rows k)
      ∙ sym (any-chosen (same n) (test (kind_at rows (from + k))) (name_at names rows (from + k)) (names_between names rows test from k))
