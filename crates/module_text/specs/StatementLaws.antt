-- What a module and a cell of a design hold is the statements of a kind behind their lines.
-- Assumes nothing.
use Rattle.std.specs.Prelude.{◌≡◌, refl, false, cond, eqb}
use Rattle.std.proofs.Common.{◌∙◌}
use Rattle.std.proofs.Math.Option.{Option, none, some}
use mathlib.Core.List.{List, [], ◌∷◌, map, map-id, head?, Option-to_list}
use Rattle.rules.specs.Statements.{Constant, Statement, param-stmt, cell-param-stmt, cell-conn-stmt, conn-stmt, Kind, code, an_attribute, a_parameter, a_cell_parameter, a_cell_connection, a_connection, is, statements_open}
use Rattle.rules.specs.Judgement.{only}
use Rattle.rules.specs.Design.{Setting, items, parameter_in, port_in, connection_in, cell_parameter_in, each, design_open}
use Rattle.lists.specs.Lists.{flat_map-same, flat_map-only, map-flat_map}
use Rattle.modules.specs.DesignLaws.{each-items}
use Rattle.context.specs.Forms.{by_form, is-other}

-- WHAT THE STATEMENTS OF A KIND GIVE TO ITEMS is these statements, if each that is given is again the statement that gives it
module _ {A : Type 0} (k : Kind) (given : Statement → List A) (again : A → Statement) (other : eqb (code k) (code an_attribute) ≡ false) (same : (s : Statement) → map again (given s) ≡ cond (is k s) (s ∷ []) []) where
  of-kind : (at : List Setting) (ss : List Statement) → map again (each given (items at ss)) ≡ only (is k) ss
  unfolding each
  of-kind at ss =
      map-flat_map again (λ i. given i.statement) (items at ss)
      ∙ each-items (λ s. map again (given s)) (λ s e. same s ∙ rw (is-other an_attribute k s other e)) at ss
      ∙ flat_map-same _ _ same ss
      ∙ flat_map-only (is k) (λ s. s) ss
      ∙ map-id (only (is k) ss)

-- A MODULE'S PARAMETERS AND CONNECTIONS, A CELL'S PARAMETERS AND CONNECTIONS, by the items of any statements
value-back : (c : Option Constant) → head? (Option-to_list c) ≡ c
unfolding Option-to_list
value-back none = refl
value-back (some c) = refl

pub parameters-are : (at : List Setting) (ss : List Statement) → map (λ p. param-stmt p.0 p.1) (each parameter_in (items at ss)) ≡ only (is a_parameter) ss
unfolding design_open statements_open
parameters-are =
    of-kind a_parameter parameter_in (λ p. param-stmt p.0 p.1) refl
    (by_form _ (λ i. refl) (λ n c. refl) (λ n. refl) (λ n c. rw (value-back c)) (λ w n. refl) (λ m n. refl) (λ t n. refl) (λ o n c. refl) (λ n x. refl) (λ x y. refl) (λ n. refl) (λ p xs. refl) refl)

pub connections-are : (at : List Setting) (ss : List Statement) → map (λ k. conn-stmt k.0 k.1) (each connection_in (items at ss)) ≡ only (is a_connection) ss
unfolding design_open statements_open
connections-are =
    of-kind a_connection connection_in (λ k. conn-stmt k.0 k.1) refl
    (by_form _ (λ i. refl) (λ n c. refl) (λ n. refl) (λ n c. refl) (λ w n. refl) (λ m n. refl) (λ t n. refl) (λ o n c. refl) (λ n x. refl) (λ x y. refl) (λ n. refl) (λ p xs. refl) refl)

pub cell-parameters-are : (at : List Setting) (ss : List Statement) → map (λ p. cell-param-stmt p.0 p.1.0 p.1.1) (each cell_parameter_in (items at ss)) ≡ only (is a_cell_parameter) ss
unfolding design_open statements_open
cell-parameters-are =
    of-kind a_cell_parameter cell_parameter_in (λ p. cell-param-stmt p.0 p.1.0 p.1.1) refl
    (by_form _ (λ i. refl) (λ n c. refl) (λ n. refl) (λ n c. refl) (λ w n. refl) (λ m n. refl) (λ t n. refl) (λ o n c. refl) (λ n x. refl) (λ x y. refl) (λ n. refl) (λ p xs. refl) refl)

pub ports-are : (at : List Setting) (ss : List Statement) → map (λ k. cell-conn-stmt k.0 k.1) (each port_in (items at ss)) ≡ only (is a_cell_connection) ss
unfolding design_open statements_open
ports-are =
    of-kind a_cell_connection port_in (λ k. cell-conn-stmt k.0 k.1) refl
    (by_form _ (λ i. refl) (λ n c. refl) (λ n. refl) (λ n c. refl) (λ w n. refl) (λ m n. refl) (λ t n. refl) (λ o n c. refl) (λ n x. refl) (λ x y. refl) (λ n. refl) (λ p xs. refl) refl)
