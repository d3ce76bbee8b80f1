-- Wires with their names as they are now: a standing rename is a row with its new name's span, its module's number and its wire's.
use Rattle.std.specs.Prelude.{ℕ, zero, suc, ◌+◌, ◌-◌, List, [], ◌∷◌, Bool, cond, ◌&&◌, eqb}
use Rattle.rules.specs.Tokens.{Name}
use Rattle.rules.specs.Signals.{Wires}
use Rattle.wires.specs.Rows.{column, name_of, wire_of}
use Rattle.netlist.specs.Rows.{name_from}
use Rattle.wire_names.specs.declared.Module.{Module}

-- whether the rename in a row is of wire n of module m
unfoldable pub renames : (rows : List ℕ) → (row m n : ℕ) → Bool
renames rows r m n = eqb (column rows r 3) m && eqb (column rows r 4) n

-- how many of count rename rows from a row on there are up to the last one of wire n of module m; 0 if there is none
unfoldable pub last_rename : (rows : List ℕ) → (from count m n : ℕ) → ℕ
last_rename rows from zero m n = 0
last_rename rows from (suc c) m n = let r = last_rename rows from c m n in cond (renames rows (from + c) m n) (suc c) r

-- the name now of wire n of module m, whose row in the table of wires is k: that of the last rename of it among count rows from a row on, else its own
module _ (names wires rows : List ℕ) (from : ℕ) where
  unfoldable pub name_now : (count m n k : ℕ) → Name
  name_now zero m n k = name_of names wires k
  name_now (suc c) m n k =
      let r = name_now c m n k in
      cond (renames rows (from + c) m n) (name_from names rows (from + c) 1) r

  -- the wires of a module, in consecutive rows, by their names now, the last one first
  unfoldable pub wires_now : (count m first many : ℕ) → Wires
  wires_now count m first zero = []
  wires_now count m first (suc k) = (name_now count m k (first + k), wire_of wires (first + k)) ∷ wires_now count m first k

-- the same of a module as code holds it
unfoldable pub wires_in : (names wires rows : List ℕ) → Module → Wires
wires_in names wires rows m = wires_now names wires rows m.from m.renames m.number.0 m.first m.wires

-- the name now of the wire in row k
unfoldable pub own_now : (names wires rows : List ℕ) → Module → ℕ → Name
own_now names wires rows m k = name_now names wires rows m.from m.renames m.number.0 (k - m.first) k
