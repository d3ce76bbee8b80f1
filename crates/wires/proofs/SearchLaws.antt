-- The search for a port over the rows of wires, and what a direction's code says of a port.
-- Assumes nothing.
use Prim.Native.Nat.{ℕ, zero, suc, ◌+◌, ◌/◌, ◌≤◌, ◌<◌}
use mathlib.Core.Path.{◌≡◌, refl, ap, ◌∙◌}
use mathlib.Core.List.{List, Option-to_list}
use mathlib.Core.Bool.{Bool, false, or-false, ◌||◌}
use lib.Dec.{eqb}
use Rattle.std.specs.List.{list_any, range_with_len}
use Rattle.rules.specs.Bytes.{any}
use Rattle.rules.specs.Judgement.{port_numbers}
use Rattle.wires.specs.Rows.{column, wire_of, wires_from, has_port}
use Rattle.wires.specs.RowLaws.{any-below, port-by, port-none}

module _ (names t : List ℕ) (first p : ℕ) where
  pub taken-rows : (count : ℕ) → list_any (λ k. has_port p (wire_of t (first + k))) (range_with_len 0 count) ≡ any (λ v. any (eqb p) (port_numbers v.1)) (wires_from names t first count)
  unfolding any wires_from has_port
  taken-rows zero = refl
  taken-rows (suc k) = any-below (λ j. has_port p (wire_of t (first + j))) k ∙ ap (λ (b : Bool). has_port p (wire_of t (first + k)) || b) (taken-rows k)

module _ (t : List ℕ) (row p d : ℕ) (e : d ≡ column t row 5 / 4) where
  -- a code other than 1, 2 and 3 is no port's
  pub no-port : (d ≡ 1 → ⊥) → (d ≡ 2 → ⊥) → (d ≡ 3 → ⊥) → has_port p (wire_of t row) ≡ false
  unfolding has_port port_numbers wire_of any Option-to_list
  no-port h k l = rw (← e, port-none d (column t row 6) h k l)

  pub port-number : 0 < d → d ≤ 3 → has_port p (wire_of t row) ≡ eqb p (column t row 6)
  unfolding has_port port_numbers wire_of any Option-to_list
  port-number h k = let x = port-by d (column t row 6) h k in rw (← e, x.1, or-false (eqb p (column t row 6)))
