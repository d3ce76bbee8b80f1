-- Each of the rules' name spaces is a range of rows, so the rule for taken names is the search over rows.
-- Assumes nothing.
use Rattle.std.specs.Prelude.{ℕ, ◌+◌, ◌-◌, ◌≡◌, refl, List, [], ◌∷◌, Bool, true, ◌&&◌, length, take}
use Rattle.std.proofs.Math.Path.{sym, ap}
use Rattle.std.proofs.Common.{◌∙◌, arith, length-take}
use Rattle.std.proofs.Math.Bool.{and-true}
use Rattle.std.proofs.Math.Seq.{take-length}
use Rattle.rules.specs.Bytes.{same, any, all}
use Rattle.rules.specs.Statements.{Kind, an_autoidx, an_attribute, a_module, a_parameter, a_wire, a_memory, a_cell, a_cell_parameter, a_cell_connection, a_connection, a_process, an_end, a_step, Stmt, code, contents, is, own_name}
use Rattle.rules.specs.Judgement.{Past, only, of_module, of_cell, of_object, among, Space, space, names_in, name_spaces, takes_name}
use Rattle.lists.specs.Elements.{Each, each_map, any-only, any_same}
use Rattle.lists.specs.Lists.{until-take}
use Rattle.netlist.specs.Rows.{names_between}
use Rattle.netlist.specs.Kinds.{is_kind, of_kinds, has_name, one_kind, four_kinds}
use Rattle.netlist.specs.KindLaws.{one-kind, four-kinds}
use Rattle.netlist.specs.declared.rows.Kinds.{Kinds}
use Rattle.netlist.specs.Laid.{rooms_of, Laid}
use Rattle.netlist.specs.NameLaws.{own_names, names-laid}
use Rattle.netlist.specs.Spaces.{Ranged, spaces_of, kinds_of}

pub takes-in-spaces :
    {C S W M : Type 0} (ss : Past) (sh : Stmt C S W M) →
    takes_name ss sh ≡ any (λ z. any (same (own_name (contents sh).names)) (names_in z ss)) (spaces_of (contents sh).kind)
unfolding takes_name spaces_of of_kinds among is
takes-in-spaces ss sh = any-only (λ z. among z.kinds sh) (λ z. any (same (own_name (contents sh).names)) (names_in z ss)) name_spaces

-- so it is taken in one space just where it is taken between two rows; outside of them it is never
module _ {names rows : List ℕ} {test : ℕ → Bool} {from count : ℕ} (z : Space) (ss : Past) (l : Laid (rooms_of ss) names rows) (r : Ranged z ss test from count) where
  pub space-names : names_in z ss ≡ names_between names rows test from count
  unfolding names_in
  space-names = ap (own_names z.kinds) r.part-is ∙ sym (names-laid z.kinds r.named test r.tests ss l from count r.ends)

-- a space of one kind, and one of four
module _ (f : Past → Past) (ss : Past) (from count : ℕ) (part-is : f ss ≡ take count ss) (ends : from + count ≡ length ss) where
  pub ranged-one : (k : Kind) → has_name (code k) ≡ true → Ranged (space (k ∷ []) f) ss (is_kind (one_kind k)) from count
  unfolding space all
  ranged-one k h = record { named = rw h; tests = one-kind k; part-is = part-is; ends = ends }

  pub ranged-four : (k l m o : Kind) → has_name (code k) && (has_name (code l) && (has_name (code m) && has_name (code o))) ≡ true → Ranged (space (k ∷ l ∷ m ∷ o ∷ []) f) ss (is_kind (four_kinds k l m o)) from count
  unfolding space all
  ranged-four k l m o h = record { named = rw and-true h; tests = four-kinds k l m o; part-is = part-is; ends = ends }

-- ---- the six spaces

-- a space's part of the past, by where it starts and how much it is
abbrev InRows : Kind → Past → Space → Type 0
InRows k ss z = Ranged z ss (is_kind (kinds_of k)) (length ss - length (z.part ss)) (length (z.part ss))

last-ends : (qs ss : Past) → qs ≡ take (length qs) ss → length ss - length qs + length qs ≡ length ss
last-ends qs ss e = omega (arith, ap length e, length-take (length qs) ss)

one-space : (k : Kind) (K : Kinds) (ss : Past) (z : Space) → kinds_of k ≡ K → Ranged z ss (is_kind K) (length ss - length (z.part ss)) (length (z.part ss)) → Each (InRows k ss) (z ∷ [])
one-space k K ss z e r = let q : InRows k ss z = rw e r in (q, tt)

one-in-rows : (f : Past → Past) (ss : Past) → f ss ≡ take (length (f ss)) ss → (k : Kind) → kinds_of k ≡ one_kind k → has_name (code k) ≡ true → Each (InRows k ss) (space (k ∷ []) f ∷ [])
unfolding space
one-in-rows f ss e k q h = one-space k (one_kind k) ss (space (k ∷ []) f) q (ranged-one f ss _ _ e (last-ends (f ss) ss e) k h)

four-in-rows : (k : Kind) (ss : Past) → kinds_of k ≡ four_kinds a_wire a_memory a_cell a_process → Each (InRows k ss) (space (a_wire ∷ a_memory ∷ a_cell ∷ a_process ∷ []) of_module ∷ [])
unfolding space of_module has_name of_kinds any code
four-in-rows k ss q =
    let e : of_module ss ≡ take (length (of_module ss)) ss = until-take _ ss in
    one-space k (four_kinds a_wire a_memory a_cell a_process) ss (space (a_wire ∷ a_memory ∷ a_cell ∷ a_process ∷ []) of_module) q
    (ranged-four of_module ss _ _ e (last-ends (of_module ss) ss e) a_wire a_memory a_cell a_process refl)

spaces-in-rows : (k : Kind) (ss : Past) → Each (InRows k ss) (spaces_of k)
unfolding spaces_of name_spaces space only of_kinds any code kinds_of has_name of_module of_cell of_object
spaces-in-rows an_autoidx ss = tt
spaces-in-rows an_attribute ss = one-in-rows of_object ss (until-take _ ss) an_attribute refl refl
spaces-in-rows a_module ss = one-in-rows (λ qs. qs) ss (sym (take-length ss)) a_module refl refl
spaces-in-rows a_parameter ss = one-in-rows of_module ss (until-take _ ss) a_parameter refl refl
spaces-in-rows a_wire ss = four-in-rows a_wire ss refl
spaces-in-rows a_memory ss = four-in-rows a_memory ss refl
spaces-in-rows a_cell ss = four-in-rows a_cell ss refl
spaces-in-rows a_cell_parameter ss = one-in-rows of_cell ss (until-take _ ss) a_cell_parameter refl refl
spaces-in-rows a_cell_connection ss = one-in-rows of_cell ss (until-take _ ss) a_cell_connection refl refl
spaces-in-rows a_connection ss = tt
spaces-in-rows a_process ss = four-in-rows a_process ss refl
spaces-in-rows an_end ss = tt
spaces-in-rows a_step ss = tt

-- a name is taken just where a search finds it in the rows of its kind's space
pub takes-in-rows :
    {C S W M : Type 0} {names rows : List ℕ} (ss : Past) (sh : Stmt C S W M) → Laid (rooms_of ss) names rows →
    takes_name ss sh
    ≡ any (λ z. any (same (own_name (contents sh).names)) (names_between names rows (is_kind (kinds_of (contents sh).kind)) (length ss - length (z.part ss)) (length (z.part ss)))) (spaces_of (contents sh).kind)
takes-in-rows ss sh l =
    takes-in-spaces ss sh
    ∙ any_same _ _ (spaces_of (contents sh).kind)
    (each_map (InRows (contents sh).kind ss) _ (λ z r. ap (any (same (own_name (contents sh).names))) (space-names z ss l r)) (spaces_of (contents sh).kind) (spaces-in-rows (contents sh).kind ss))
