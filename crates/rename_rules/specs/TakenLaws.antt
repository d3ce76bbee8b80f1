-- A module's wires, and the names that are taken in it now, by the rows of the tables.
-- Assumes nothing.
use Rattle.std.specs.Prelude.{ℕ, zero, suc, ◌+◌, ◌≡◌, refl, List, [], ◌∷◌, reverse, Bool, true, eqb, length}
use Rattle.std.proofs.Math.Path.{sym, ap, ap₂}
use Rattle.std.proofs.Common.{◌∙◌, arith}
use Rattle.std.proofs.Math.Option.{Option-elim}
use Rattle.std.proofs.Math.Bool.{◌||◌, or_comm, or-false, or_self}
use Rattle.std.proofs.Math.ListN.{get_elem?}
use Rattle.rules.specs.Bytes.{same, any, all}
use Rattle.rules.specs.Tokens.{Name}
use Rattle.rules.specs.Statements.{Wire, a_memory, a_cell, a_process, code}
use Rattle.rules.specs.Judgement.{Past}
use Rattle.rules.specs.Signals.{Wires}
use Rattle.rules.specs.Design.{Object, design}
use Rattle.rules.specs.Session.{Rename, wires_at, wire_at, now, taken}
use Rattle.rules.specs.Layout.{put_renames}
use Rattle.lists.specs.Lists.{elim-map, up, up-last}
use Rattle.lists.specs.Elements.{any_append}
use Rattle.wires.specs.Rows.{wires_from}
use Rattle.context.specs.Place.{wires_in, place_of}
use Rattle.context.specs.Offsets.{Offsets}
use Rattle.netlist.specs.Kinds.{is_kind, of_kinds, Tests, has_name, four_kinds}
use Rattle.netlist.specs.Laid.{rooms_of, Laid, Wired}
use Rattle.netlist.specs.LaidLaws.{laid-renames}
use Rattle.netlist.specs.NameLaws.{own_names}
use Rattle.modules.specs.Modules.{statements_of, Headed}
use Rattle.modules.specs.Now.{name_now}
use Rattle.modules.specs.NowLaws.{taken-read-now}
use Rattle.modules.specs.Ranges.{wire_range}
use Rattle.modules.specs.RowLaws.{taken-range}
use Rattle.modules.specs.WireLaws.{design-range}
use Rattle.wire_names.specs.Now as rows
use Rattle.rename_rules.specs.Judged.{object_taken, name_taken, module_by}
use Rattle.rename_rules.specs.NowLaws.{numbered-laid}

-- A WIRE BY ITS NUMBER
module _ {names t : List ℕ} (m w : ℕ) (ss : Past) (headed : Headed ss) (o : Offsets ss) (l : Wired (rooms_of ss) names t) {C : Type 0} (z : C) (g : Wire → C) where
  pub wire-by :
      let r = wire_range t (wires_in ss) m in
      Option-elim (wire_at (design (reverse ss)) m w) z (λ o. g o.body) ≡ Option-elim (get_elem? (reverse (wires_from names t r.first r.count)) w) z (λ x. g x.1)
  unfolding wire_at
  wire-by =
      elim-map z (λ x. g x.1) (λ (o : Object Wire). (o.name, o.body)) (wires_at (design (reverse ss)) m) w
      ∙ ap (λ (xs : Wires). Option-elim (get_elem? xs w) z (λ x. g x.1)) (sym (design-range m ss headed l o))

-- WIRES BY THEIR NAMES NOW, from the last one on
any-now :
    (names wires t : List ℕ) (from count m first : ℕ) (g : Name → Bool) (many : ℕ) →
    any (λ x. g x.0) (rows.wires_now names wires t from count m first many) ≡ any g (up (λ j. rows.name_now names wires t from count m j (first + j)) many 0)
unfolding any rows.wires_now
any-now names wires t from count m first g zero = refl
any-now names wires t from count m first g (suc j) =
    let f : ℕ → Name = λ i. rows.name_now names wires t from count m i (first + i) in
    let z : 0 + j ≡ j = omega arith in
    ap (λ (b : Bool). g (f j) || b) (any-now names wires t from count m first g j)
    ∙ or_comm (g (f j)) (any g (up f j 0))
    ∙ sym (ap (any g) (up-last f j 0)
    ∙ any_append g (up f j 0) (f (0 + j) ∷ [])
    ∙ ap (λ (b : Bool). any g (up f j 0) || b) (or-false (g (f (0 + j))) ∙ ap (λ (i : ℕ). g (f i)) z))

-- MEMORIES, CELLS AND PROCESSES
three-kinds : Tests (is_kind (four_kinds a_memory a_cell a_process a_process)) (a_memory ∷ a_cell ∷ a_process ∷ [])
unfolding is_kind of_kinds any
three-kinds n = let b : Bool = eqb (code a_process) n in ap (λ (c : Bool). eqb (code a_memory) n || (eqb (code a_cell) n || c)) (or_self b ∙ sym (or-false b))

three-named : all (λ k. has_name (code k)) (a_memory ∷ a_cell ∷ a_process ∷ []) ≡ true
unfolding all any has_name of_kinds code
three-named = refl

-- THE NAME SPACE NOW
module _ {names wires t : List ℕ} (m : ℕ) (ss : Past) (headed : Headed ss) (o : Offsets ss) (rs : List Rename)
    (l : Laid (put_renames (rooms_of ss) rs) names t) (k : Wired (rooms_of ss) names wires) (n : Name) where
  objects-taken : object_taken names t (length ss) m n ≡ any (same n) (own_names (a_memory ∷ a_cell ∷ a_process ∷ []) (statements_of m (reverse ss)))
  unfolding object_taken
  objects-taken = taken-range m ss (laid-renames (rooms_of ss) rs l) (a_memory ∷ a_cell ∷ a_process ∷ []) three-named _ three-kinds n

  pub taken-laid : name_taken names wires t (module_by wires (place_of ss) (length rs) m) n ≡ taken (now (design (reverse ss)) rs) m n
  unfolding name_taken rows.wires_in place_of
  taken-laid =
      let r = wire_range wires (wires_in ss) m in
      ap₂ ◌||◌
      (any-now names wires t (length ss) (length rs) m r.first (same n) r.count ∙ ap (any (same n)) (sym (numbered-laid m ss headed o rs l k)))
      objects-taken
      ∙ sym (taken-read-now (reverse ss) rs m n)
