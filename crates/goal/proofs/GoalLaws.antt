-- What the last row says of the wire sought.
-- Assumes nothing.
use Prim.Native.Nat.{ℕ, ◌+◌, ◌-◌}
use mathlib.Core.Path.{◌≡◌, refl, sym, ap, ◌∙◌}
use mathlib.Core.Bool.{Bool, true, false, ◌&&◌, ◌||◌, or-false}
use mathlib.Core.List.{List, [], ◌∷◌}
use native.Mathlib.Omega.{arith}
use lib.Dec.{eqb}
use lib.ListN.{length}
use borrow.Author.Tests.{eq-eqb, ne_eqb}
use Rattle.std.specs.Prelude.{Some}
use Rattle.rules.specs.Bytes.{any, same}
use Rattle.rules.specs.Tokens.{Name}
use Rattle.rules.specs.Statements.{Statement, a_module, a_wire, an_end, is, code, contents, own_name}
use Rattle.rules.specs.Shapes.{Scope, top, in_module, in_cell, in_process, in_tail, in_sync, in_switch, in_case}
use Rattle.rules.specs.Judgement.{Past, sum, count, scope}
use Rattle.rules.specs.Reading.{is_top}
use Rattle.rules.specs.Quick.{settles}
use Rattle.rules.specs.Layout.{used}
use Rattle.context.specs.Place.{place_of, scope_code}
use Rattle.context.specs.declared.place.Place.{Place}
use Rattle.netlist.specs.Kinds.{has_name, of_kinds}
use Rattle.netlist.specs.Rows.{kind_at, name_at}
use Rattle.netlist.specs.RowLaws.{row-kind, row-own}
use Rattle.netlist.specs.Laid.{rooms_of, Laid}
use Rattle.netlist.specs.LaidLaws.{laid-last, laid-names}
use Rattle.numbers.specs.declared.kinds.ModuleNumber.{ModuleNumber}
use Rattle.goal.specs.Settled.{stop_of}

top-code : (z : Scope) → eqb (scope_code z) 0 ≡ is_top z
unfolding scope_code is_top
top-code top = refl
top-code in_module = refl
top-code in_cell = refl
top-code in_process = refl
top-code in_tail = refl
top-code in_sync = refl
top-code (in_switch k) = refl
top-code (in_case k) = refl

module _ (p : Place) (m : ModuleNumber) (n : Name) where
  module _ (ss : Past) (ep : place_of ss ≡ p) where
    modules-are : sum (count (a_module ∷ [])) ss ≡ p.modules
    unfolding place_of
    modules-are = ap (λ (q : Place). q.modules) ep

    rows_are : length ss ≡ p.rows
    unfolding place_of
    rows_are = ap (λ (q : Place). q.rows) ep

    scope-is : scope_code (scope ss) ≡ p.scope
    unfolding place_of
    scope-is = ap (λ (q : Place). q.scope) ep

    not_there : (qs : Past) → eqb (sum (count (a_module ∷ [])) qs) (m.0 + 1) ≡ false → false ≡ stop_of (Some m) n qs
    unfolding stop_of settles
    not_there [] e = refl
    not_there (s ∷ qs) e = rw e

    pub no-module : p.modules ≡ 0 → false ≡ stop_of (Some m) n ss
    no-module e = not_there ss (ne_eqb (sum (count (a_module ∷ [])) ss) (m.0 + 1) (λ q. omega (arith, modules-are)))

    pub other-module : (p.modules - 1 ≡ m.0 → ⊥) → false ≡ stop_of (Some m) n ss
    other-module b = not_there ss (ne_eqb (sum (count (a_module ∷ [])) ss) (m.0 + 1) (λ q. b (omega (arith, modules-are))))

  pub no_rows : (ss : Past) → place_of ss ≡ p → p.rows ≡ 0 → false ≡ stop_of (Some m) n ss
  unfolding stop_of settles
  no_rows [] ep e = refl
  no_rows (s ∷ ss) ep e = absurd (omega (arith, rows_are (s ∷ ss) ep))

  -- by the last row, which is the last statement's
  module _ (names rows : List ℕ) (k : ℕ) (y : p.rows ≡ 0 → ⊥) (z : p.modules ≡ 0 → ⊥) (there : p.modules - 1 ≡ m.0) (last : p.rows - 1 ≡ k) where
    module _ (s : Statement) (ss : Past) (ep : place_of (s ∷ ss) ≡ p) (l : Laid (rooms_of (s ∷ ss)) names rows) where
      row_is : k ≡ length ss
      row_is = omega (arith, rows_are (s ∷ ss) ep)

      kind-is : kind_at rows k ≡ code (contents s).kind
      kind-is = row-kind rows k (used (rooms_of ss)) s (laid-last s ss k row_is l)

      stops : stop_of (Some m) n (s ∷ ss) ≡ (is a_wire s && same n (own_name (contents s).names)) || (is an_end s && is_top (scope (s ∷ ss)))
      unfolding stop_of settles
      stops = rw (eq-eqb (sum (count (a_module ∷ [])) (s ∷ ss)) (m.0 + 1) (omega (arith, modules-are (s ∷ ss) ep)))

      end-says : kind_at rows k ≡ 12 → (r : Bool) → r ≡ eqb p.scope 0 → r ≡ stop_of (Some m) n (s ∷ ss)
      unfolding is code
      end-says e r er =
          let c : code (contents s).kind ≡ 12 = sym kind-is ∙ e in
          er ∙ sym (stops ∙ rw c (sym (top-code (scope (s ∷ ss))) ∙ ap (λ (q : ℕ). eqb q 0) (scope-is (s ∷ ss) ep)))

      other-says : (kind_at rows k ≡ 12 → ⊥) → (kind_at rows k ≡ 5 → ⊥) → false ≡ stop_of (Some m) n (s ∷ ss)
      unfolding is code
      other-says a b =
          sym (stops
          ∙ rw (ne_eqb 5 (code (contents s).kind) (λ e. b (kind-is ∙ sym e)), ne_eqb 12 (code (contents s).kind) (λ e. a (kind-is ∙ sym e))))

      wire-says : kind_at rows k ≡ 5 → same n (name_at names rows k) ≡ stop_of (Some m) n (s ∷ ss)
      unfolding is code has_name of_kinds any rooms_of used
      wire-says e =
          let c : code (contents s).kind ≡ 5 = sym kind-is ∙ e in
          let h : has_name (code (contents s).kind) ≡ true = rw c in
          let o : name_at names rows k ≡ own_name (contents s).names =
          row-own names rows k (used (rooms_of ss)) s (laid-last s ss k row_is l) h (laid-names (rooms_of ss) s l) in
          sym (stops ∙ rw c (or-false (same n (own_name (contents s).names)) ∙ ap (same n) (sym o)))

    none-there : {P : Type 0} → place_of [] ≡ p → P
    none-there ep = absurd (y (sym (rows_are [] ep)))

    pub ended : (ss : Past) → place_of ss ≡ p → Laid (rooms_of ss) names rows → kind_at rows k ≡ 12 → (r : Bool) → r ≡ eqb p.scope 0 → r ≡ stop_of (Some m) n ss
    ended [] ep l e r er = none-there ep
    ended (s ∷ ss) ep l e r er = end-says s ss ep l e r er

    pub other-line : (ss : Past) → place_of ss ≡ p → Laid (rooms_of ss) names rows → (kind_at rows k ≡ 12 → ⊥) → (kind_at rows k ≡ 5 → ⊥) → false ≡ stop_of (Some m) n ss
    other-line [] ep l a b = none-there ep
    other-line (s ∷ ss) ep l a b = other-says s ss ep l a b

    pub declared : (ss : Past) → place_of ss ≡ p → Laid (rooms_of ss) names rows → kind_at rows k ≡ 5 → same n (name_at names rows k) ≡ stop_of (Some m) n ss
    declared [] ep l e = none-there ep
    declared (s ∷ ss) ep l e = wire-says s ss ep l e
