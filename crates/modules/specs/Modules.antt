-- The statements of each module of a file.
use Rattle.std.specs.Prelude.{ℕ, suc, ◌<◌, ◌≡◌, List, [], ◌∷◌, true, cond, leb, get_or}
use Rattle.std.proofs.Math.Option.{Option-elim}
use Rattle.std.proofs.Math.ListN.{get_elem?}
use Rattle.rules.specs.Statements.{Memory, Statement, a_module, a_wire, is}
use Rattle.rules.specs.Judgement.{Past, until, sum, count}
use Rattle.rules.specs.Design.{Object, Cell, Line, Design}
pub use Rattle.netlist.specs.WireLaws.{wires_of}

-- for each module line, in the order of the file, the statements behind it up to the next module line
unfoldable pub modules_in : List Statement → List (List Statement)
modules_in [] = []
modules_in (s ∷ ss) = let r = modules_in ss in cond (is a_module s) (until (is a_module) ss ∷ r) r

-- those behind the m-th module line, from 0; none if there is no such module
unfoldable pub statements_of : ℕ → List Statement → List Statement
statements_of m ss = get_or (modules_in ss) m []

-- how many modules the statements so far have; and the statements so far as they stood at the end of module m: without the next module's line and what
-- is behind it
abbrev pub module_count : Past → ℕ
module_count ss = sum (count (a_module ∷ [])) ss

unfoldable pub up_to : ℕ → Past → Past
up_to m [] = []
up_to m (s ∷ ss) = let r = up_to m ss in cond (leb (module_count (s ∷ ss)) (suc m)) (s ∷ ss) r

-- no wire stands before the first module line
pub data Headed : Past → Type 0 where
  none-headed : Headed []
  one-headed : {s : Statement} {ss : Past} → (is a_wire s ≡ true → 0 < module_count ss) → Headed ss → Headed (s ∷ ss)

-- the memories, cells and processes of a module of the design, as the rules have its wires
unfoldable pub memories_at : Design → ℕ → List (Object Memory)
memories_at d m = Option-elim (get_elem? d.modules m) [] (λ o. o.body.memories)

unfoldable pub cells_at : Design → ℕ → List (Object Cell)
cells_at d m = Option-elim (get_elem? d.modules m) [] (λ o. o.body.cells)

unfoldable pub processes_at : Design → ℕ → List (Object (List Line))
processes_at d m = Option-elim (get_elem? d.modules m) [] (λ o. o.body.processes)
