-- Names in byte order, and the sorted index of wires that are told by their names alone: f gives the name of each number.
use Rattle.std.specs.Prelude.{ℕ, zero, suc, ◌+◌, ◌-◌, ◌≤◌, ◌<◌, ◌≡◌, List, [], ◌∷◌, ◌++◌, map, Bool, true, false, cond, ◌&&◌, ◌||◌, eqb, ltb, length, get_or}
use Rattle.rules.specs.Bytes.{same, any}
use Rattle.rules.specs.Tokens.{Name}
use Rattle.rules.specs.Judgement.{Verdict, accepted, refused}
use Rattle.rules.specs.Sorted.{before, placed}
use Rattle.lists.specs.Elements.{Each}
use Rattle.lists.specs.Lists.{up}

-- names in order: none comes before one that stands in front of it
abbrev pub Ordered : List Name → Type 0
Ordered [] = Unit {0}
Ordered (n ∷ ns) = Each (λ m. before m n ≡ false) ns × Ordered ns

-- names that rise: each comes before all behind it
abbrev pub Rising : List Name → Type 0
Rising [] = Unit {0}
Rising (n ∷ ns) = Each (λ m. before n m ≡ true) ns × Rising ns

-- names of which no two are the same
abbrev pub Apart : List Name → Type 0
Apart [] = Unit {0}
Apart (n ∷ ns) = (any (same n) ns ≡ false) × Apart ns

-- how many come before a name, from the front
unfoldable pub place : Name → List Name → ℕ
place n [] = 0
place n (m ∷ ms) = let r = suc (place n ms) in cond (before m n) r 0

-- a search by halving: names in front of low come before n, names from high on do not
pub record Halved (n : Name) (ms : List Name) (low high : ℕ) : Type 0 where
  pub lower : low ≤ high
  pub within : high ≤ length ms
  pub front : (j : ℕ) → j < low → before (get_or ms j []) n ≡ true
  pub back : (j : ℕ) → high ≤ j → j < length ms → before (get_or ms j []) n ≡ false

module _ (f : ℕ → Name) where
  -- so many wires from number k on, with their names, in order
  unfoldable pub order_up : (many k : ℕ) → List (ℕ × Name)
  order_up zero k = []
  order_up (suc l) k = placed (k, f k) (order_up l (k + 1))

  -- THE SORTED INDEX of so many wires from number k on
  unfoldable pub index_up : (many k : ℕ) → List ℕ
  index_up many k = map (λ x. x.0) (order_up many k)

  -- THE PLAIN SCAN for a name, of so many wires from number k on
  unfoldable pub scan_up : Name → (many k : ℕ) → Verdict ℕ
  scan_up n zero k = refused 8
  scan_up n (suc l) k = let r = scan_up n l (k + 1) in cond (same (f k) n) (accepted k) r

-- whether entry k of an index is the number of one of so many wires, and the name of the entry in front of it comes before its name
unfoldable pub stands_next : (f : ℕ → Name) (many : ℕ) (xs : List ℕ) (k : ℕ) → Bool
stands_next f many xs k = ltb (get_or xs k 0) many && (eqb k 0 || before (f (get_or xs (k - 1) 0)) (f (get_or xs k 0)))

-- THE SORTED INDEXES of so many modules, one behind the other: f gives the name of each module's each wire, w how many wires a module has
unfoldable pub indexes_up : (f : ℕ → ℕ → Name) (w : ℕ → ℕ) (modules : ℕ) → List ℕ
indexes_up f w zero = []
indexes_up f w (suc m) = indexes_up f w m ++ index_up (f m) (w m) 0

-- the search at a name's place
unfoldable pub found_in : Name → List (ℕ × Name) → Verdict ℕ
found_in n [] = refused 8
found_in n (y ∷ ys) = let r = found_in n ys in cond (before y.1 n) r (cond (same y.1 n) (accepted y.0) (refused 8))

-- an index that was the sorted one when wire w had another name
pub record SortedBut (g : ℕ → Name) (many w : ℕ) (xs : List ℕ) : Type 0 where
  pub was : ℕ → Name
  pub inside : w < many
  pub others : (j : ℕ) → (j ≡ w → ⊥) → was j ≡ g j
  pub apart : Apart (up was many 0)
  pub sorted : xs ≡ index_up was many 0
