-- The design with its standing renames, by the number of each module and wire.
use Rattle.std.specs.Prelude.{ℕ, suc, List, [], ◌∷◌, Bool, cond, ◌&&◌, eqb}
use Rattle.rules.specs.Tokens.{Name}
use Rattle.rules.specs.Statements.{Wire}
use Rattle.rules.specs.Design.{Object, object, Module, Design}
use Rattle.rules.specs.Session.{Rename}

-- each element changed by its number, from 0
unfoldable pub numbered : {A : Type 0} → (ℕ → A → A) → List A → List A
numbered f [] = []
numbered f (x ∷ xs) = f 0 x ∷ numbered (λ i. f (suc i)) xs

-- whether a rename is of this wire
unfoldable pub renames : Rename → (m w : ℕ) → Bool
renames r m w = eqb r.module_number m && eqb r.wire_number w

-- the name of wire w of module m, which was read as n: the new name of its last rename, or n if it has none
unfoldable pub name_now : List Rename → (m w : ℕ) → Name → Name
name_now [] m w n = n
name_now (r ∷ rs) m w n = name_now rs m w (cond (renames r m w) r.new_name n)

unfoldable pub wire_now : List Rename → (m w : ℕ) → Object Wire → Object Wire
wire_now rs m w o = object o.attributes (name_now rs m w o.name) o.body

unfoldable pub module_now : List Rename → ℕ → Object Module → Object Module
module_now rs m o =
    object o.attributes o.name
    (record {
      parameters = o.body.parameters;
      wires = numbered (wire_now rs m) o.body.wires;
      memories = o.body.memories;
      cells = o.body.cells;
      processes = o.body.processes;
      connections = o.body.connections;
    })

unfoldable pub design_now : List Rename → Design → Design
design_now rs d = record { autoidx = d.autoidx; modules = numbered (module_now rs) d.modules }
