-- Name spaces as ranges of rows.
use Rattle.std.specs.Prelude.{ℕ, ◌+◌, ◌≡◌, List, [], ◌∷◌, Bool, true, cond, length, take}
use Rattle.rules.specs.Bytes.{all}
use Rattle.rules.specs.Statements.{Kind, a_wire, a_memory, a_cell, a_process, code}
use Rattle.rules.specs.Judgement.{Past, only, Space, name_spaces}
use Rattle.netlist.specs.Kinds.{of_kinds, Tests, has_name, one_kind, four_kinds}
use Rattle.netlist.specs.declared.rows.Kinds.{Kinds}

-- a name space of the statements so far is the rows of some kinds from a row on
pub record Ranged (z : Space) (ss : Past) (test : ℕ → Bool) (from count : ℕ) : Type 0 where
  pub named : all (λ k. has_name (code k)) z.kinds ≡ true
  pub tests : Tests test z.kinds
  pub part-is : z.part ss ≡ take count ss
  pub ends : from + count ≡ length ss

-- the name spaces that the name of a statement of a kind stands in: one or none
unfoldable pub spaces_of : Kind → List Space
spaces_of k = only (λ z. of_kinds z.kinds (code k)) name_spaces

-- the kinds whose names share a space with a kind's: wires, memories, cells and processes do
unfoldable pub kinds_of : Kind → Kinds
kinds_of k = cond (of_kinds (a_wire ∷ a_memory ∷ a_cell ∷ a_process ∷ []) (code k)) (four_kinds a_wire a_memory a_cell a_process) (one_kind k)
