-- The index of each module's wires in byte order of their names.
-- Source: document 02, request 11.
use Rattle.std.specs.Prelude.{ℕ, ◌+◌, Bool, true, false, cond, ◌&&◌, ◌||◌, ltb, eqb}
use mathlib.Core.List.{List, [], ◌∷◌, map, flat_map}
use Rattle.rules.specs.Tokens.{Name}
use Rattle.rules.specs.Statements.{Wire}
use Rattle.rules.specs.Design.{Object, Module, Design}

-- Byte order: the first byte that differs decides, and a name comes before those that it begins
unfoldable pub before : Name → Name → Bool
before [] [] = false
before [] (y ∷ ys) = true
before (x ∷ xs) [] = false
before (x ∷ xs) (y ∷ ys) = let r = before xs ys in ltb x y || (eqb x y && r)

-- a name's place among names in order: behind those before it
unfoldable pub placed : ℕ × Name → List (ℕ × Name) → List (ℕ × Name)
placed x [] = x ∷ []
placed x (y ∷ ys) = let r = y ∷ placed x ys in cond (before y.1 x.1) r (x ∷ y ∷ ys)

-- the wires from number i on
unfoldable pub in_order : ℕ → List (Object Wire) → List (ℕ × Name)
in_order i [] = []
in_order i (w ∷ ws) = placed (i, w.name) (in_order (i + 1) ws)

-- Each module's index has its wires' numbers
unfoldable pub order_of : Module → List ℕ
order_of m = map (λ x. x.0) (in_order 0 m.wires)

-- the modules' indexes, one behind the other
unfoldable pub orders : Design → List ℕ
orders d = flat_map (λ o. order_of o.body) d.modules

unfoldable pub sorted_open : Unit {0}
unfolding flat_map before placed in_order order_of orders
sorted_open = tt
