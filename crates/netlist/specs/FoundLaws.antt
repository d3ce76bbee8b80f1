-- The rows that the code searches for a name are the name space of its kind.
-- Assumes nothing.
use Rattle.std.specs.Prelude.{ℕ, ◌-◌, ◌≤◌, ◌≡◌, Bool, true, false, cond, ◌||◌, List, eqb, ltb, length}
use Rattle.std.proofs.Math.Path.{refl}
use Rattle.std.proofs.Common.{sym, ap₂, ◌∙◌}
use Rattle.std.proofs.Math.Bool.{or-false}
use native.Mathlib.Omega.{arith}
use Rattle.rules.specs.Bytes.{same, any}
use Rattle.rules.specs.Tokens.{Name}
use Rattle.rules.specs.Statements.{Kind, an_autoidx, an_attribute, a_module, a_parameter, a_wire, a_memory, a_cell, a_cell_parameter, a_cell_connection, a_connection, a_process, an_end, a_step, Stmt, code, contents, own_name}
use Rattle.rules.specs.Judgement.{Past, only, space, name_spaces, of_module, of_cell, of_object, takes_name}
use Rattle.netlist.specs.Rows.{names_between}
use Rattle.netlist.specs.Kinds.{is_kind, of_kinds}
use Rattle.netlist.specs.Spaces.{spaces_of, kinds_of}
use Rattle.netlist.specs.SpaceLaws.{takes-in-rows}
use Rattle.netlist.specs.Laid.{rooms_of, Laid}
use Rattle.context.specs.Place.{place_of, Bounds}
use Rattle.context.specs.declared.place.Place.{Place}
use Rattle.netlist.specs.Found.{space_from, kinds_from, found_in}
use Rattle.lists.specs.Lists.{until-le}

-- a name space begins at one of the rows so far
pick-le : (b : Bool) (m n k : ℕ) → m ≤ k → n ≤ k → cond b m n ≤ k
pick-le true m n k g h = g
pick-le false m n k g h = h

pub space-within : (p : Place) (k : ℕ) → Bounds p → space_from p k ≤ p.rows
unfolding space_from
space-within p k b =
    let z : 0 ≤ p.rows = omega arith in
    let r : p.rows ≤ p.rows = omega arith in
    pick-le (eqb k 2) _ _ _ b.object-from
    (pick-le (eqb k 3) _ _ _ z (pick-le (ltb k 4) _ _ _ r (pick-le (ltb k 8) _ _ _ b.module-from (pick-le (ltb k 10) _ _ _ b.cell-from (pick-le (eqb k 11) _ _ _ b.module-from r)))))

-- the search for a name in count rows from a row on
module _ (names rows : List ℕ) (n : Name) where
  found : (ℕ → Bool) → (from count : ℕ) → Bool
  found test from count = any (same n) (names_between names rows test from count)

  last-rows : (test : ℕ → Bool) (m k from : ℕ) → k ≤ m → from ≡ m - k → found test (m - k) k || false ≡ found test from (m - from)
  last-rows test m k from h e = or-false (found test (m - k) k) ∙ ap₂ (found test) (sym e) (omega arith)

  no_rows : (test : ℕ → Bool) (m : ℕ) → false ≡ found test m (m - m)
  unfolding found names_between any
  no_rows test m = let e : m - m ≡ 0 = omega arith in rw e

  space-rows :
      (k : Kind) (ss : Past) →
      any (λ z. any (same n) (names_between names rows (is_kind (kinds_of k)) (length ss - length (z.part ss)) (length (z.part ss)))) (spaces_of k)
      ≡ found_in names rows (place_of ss) (code k) n
  unfolding found found_in spaces_of name_spaces space only of_kinds any code kinds_of kinds_from space_from place_of of_module of_cell of_object
  space-rows an_autoidx ss = no_rows _ (length ss)
  space-rows an_attribute ss = last-rows _ (length ss) _ _ (until-le _ ss) refl
  space-rows a_module ss = last-rows _ (length ss) (length ss) 0 (omega arith) (omega arith)
  space-rows a_parameter ss = last-rows _ (length ss) _ _ (until-le _ ss) refl
  space-rows a_wire ss = last-rows _ (length ss) _ _ (until-le _ ss) refl
  space-rows a_memory ss = last-rows _ (length ss) _ _ (until-le _ ss) refl
  space-rows a_cell ss = last-rows _ (length ss) _ _ (until-le _ ss) refl
  space-rows a_cell_parameter ss = last-rows _ (length ss) _ _ (until-le _ ss) refl
  space-rows a_cell_connection ss = last-rows _ (length ss) _ _ (until-le _ ss) refl
  space-rows a_connection ss = no_rows _ (length ss)
  space-rows a_process ss = last-rows _ (length ss) _ _ (until-le _ ss) refl
  space-rows an_end ss = no_rows _ (length ss)
  space-rows a_step ss = no_rows _ (length ss)

-- so a taken name is one that the search finds
pub takes-found :
    {C S W M : Type 0} {names rows : List ℕ} (ss : Past) (sh : Stmt C S W M) (k : Kind) (n : Name) → Laid (rooms_of ss) names rows →
    (contents sh).kind ≡ k → own_name (contents sh).names ≡ n →
    takes_name ss sh
    ≡ found_in names rows (place_of ss) (code k) n
takes-found {names = names} {rows = rows} ss sh k n l ek en = (rw (ek, en) at (takes-in-rows ss sh l)) ∙ space-rows names rows n k ss
