-- The search for a wire of a module by its name now.
use Rattle.std.specs.Prelude.{ℕ, zero, suc, ◌+◌, ◌-◌, ◌<◌, ◌≤◌, ◌≡◌, Bool, true, false, not, cond, ◌&&◌, List, Some, None, eqb, leb}
use Rattle.std.specs.Prelude.{Option as Optional}
use Rattle.rules.specs.Bytes.{same}
use Rattle.rules.specs.Tokens.{Name}
use Rattle.rules.specs.Judgement.{Verdict, accepted, refused}
use Rattle.numbers.specs.declared.kinds.WireNumber.{WireNumber}
use Rattle.wires.specs.Rows.{span_at}
use Rattle.wire_names.specs.Now.{last_rename, name_now}
use Rattle.wire_names.specs.declared.Module.{Module}

-- the number of the first wire of a module that has this name now, from number k on, among so many
module _ (names wires rows : List ℕ) (m : Module) (n : Name) where
  unfoldable pub search_now : (many k : ℕ) → Verdict ℕ
  search_now zero k = refused 8
  search_now (suc l) k =
      let r = search_now l (k + 1) in
      cond (same (name_now names wires rows m.from m.renames m.number.0 k (m.first + k)) n) (accepted k) r

-- a found wire's number
unfoldable pub named : Optional WireNumber → Verdict ℕ
named (Some w) = accepted w.0
named None = refused 8

unfoldable pub is_found : Verdict ℕ → Bool
is_found (accepted k) = true
is_found (refused n) = false

-- the last rename of a wire of a module, counted from 1; 0 if it has none
abbrev pub last_of : List ℕ → Module → ℕ → ℕ
last_of rows m k = last_rename rows m.from m.renames m.number.0 k

-- of the wires whose last rename is among the first i the least that it gives this name is r, or there is none
pub record Renamed (names rows : List ℕ) (m : Module) (n : Name) (i r : ℕ) : Type 0 where
  pub below : r ≤ m.wires
  pub others : (k j : ℕ) → k < r → j < i → last_of rows m k ≡ suc j → same (span_at names rows (m.from + j) 1) n ≡ false
  pub here : r < m.wires → (j : ℕ) × (last_of rows m r ≡ suc j) × (same (span_at names rows (m.from + j) 1) n ≡ true)

-- whether wire k has this name from its own line, and no rename
unfoldable pub keeps_name : (names wires rows : List ℕ) → Module → Name → ℕ → Bool
keeps_name names wires rows m n k = same (span_at names wires (m.first + k) 1) n && eqb (last_of rows m k) 0

-- the same of the wire in a row from the module's first on, if it is the module's
unfoldable pub row_keeps : (names wires rows : List ℕ) → Module → Name → ℕ → Bool
row_keeps names wires rows m n row = not (leb m.wires (row - m.first)) && keeps_name names wires rows m n (row - m.first)
