-- What look-up and index answer.
-- Assumes nothing.
use Prim.Native.Nat.{ℕ, zero, suc, ◌+◌, ◌≤◌, ◌<◌}
use mathlib.Core.Path.{◌≡◌, refl, sym, ap, ◌∙◌}
use mathlib.Core.List.{List, [], ◌∷◌, map}
use mathlib.Core.Option
use mathlib.Core.Option.{Option, none, some, Option-elim}
use mathlib.Core.Bool.{cond}
use lib.IntN.{ℤ, pos}
use Rattle.rules.specs.Bytes.{same}
use Rattle.rules.specs.Tokens.{Name}
use Rattle.rules.specs.Statements.{Wire}
use Rattle.rules.specs.Judgement.{Verdict, accepted, refused}
use Rattle.rules.specs.Design.{Object, design}
use Rattle.rules.specs.Session.{Rename, wires_at, wire_at, now, search, look_up, index_in, index}
use Rattle.wires.specs.Rows.{wire_of}
use Rattle.context.specs.declared.place.Place.{Place}
use Rattle.modules.specs.Ranges.{wire_range}
use Rattle.modules.specs.Now.{wire_now}
use Rattle.modules.specs.NowLaws.{wire-now}
use Rattle.modules.specs.declared.Range.{Range}
use Rattle.wire_names.specs.Now as table
use Rattle.wire_names.specs.declared.Module.{Module}
use Rattle.netlist.specs.Results.{lent}
use Rattle.rename_rules.specs.Judged.{module_by}
use Rattle.lists.specs.Lists.{up}
use Rattle.rename_rules.specs.LiesLaws.{names-are, there, missing}
use Rattle.session.specs.Called.{Called, holding, answer}
use Rattle.rename_rules.specs.Search.{search_now}
use Rattle.session.specs.Steps.{Holding}
use Rattle.session.proofs.HoldLaws.{lies}

-- the search by names
unfoldable search_in : Name → ℕ → List Name → Verdict ℕ
search_in n i [] = refused 8
search_in n i (x ∷ xs) = let r = search_in n (i + 1) xs in cond (same x n) (accepted i) r

search-names : (n : Name) (i : ℕ) (ws : List (Object Wire)) → search n i ws ≡ search_in n i (map (λ o. o.name) ws)
unfolding search search_in
search-names n i [] = refl
search-names n i (w ∷ ws) = rw (search-names n (i + 1) ws)

search-up :
    (names wires rows : List ℕ) (m : Module) (n : Name) (many k : ℕ) →
    search_in n k (up (λ j. table.name_now names wires rows m.from m.renames m.number.0 j (m.first + j)) many k) ≡ search_now names wires rows m n many k
unfolding search_in search_now
search-up names wires rows m n zero k = refl
search-up names wires rows m n (suc l) k = rw (search-up names wires rows m n l (k + 1))

body-now : {C : Type 0} (z : C) (g : Wire → C) (rs : List Rename) (m w : ℕ) (o : Option (Object Wire)) → Option-elim (Option.map (wire_now rs m w) o) z (λ o. g o.body) ≡ Option-elim o z (λ o. g o.body)
unfolding Option-elim wire_now
body-now z g rs m w none = refl
body-now z g rs m w (some o) = refl

-- IN MEMORY THAT HOLDS A DESIGN
module _ {names strings bits wires rows : List ℕ} {renames room : ℕ} {p : Place} (h : Holding (lent names strings bits wires rows renames room) p) (m : ℕ) where
  pub looked-up :
      (n : Name) (x : Module) (a : ℕ × ℕ) → x ≡ module_by wires p renames m → a ≡ answer 0 (search_now names wires rows x n x.wires 0) →
      Called (lent names strings bits wires rows renames room) (λ e. (e, 0)) (λ ss rs. answer 0 (look_up (now (design ss) rs) m n)) a
  unfolding look_up
  looked-up n x a ex ea =
      let y = module_by wires p renames m in
      holding h.statements h.renames h.lengths h.holds
      (ea
      ∙ ap (λ (x : Module). answer 0 (search_now names wires rows x n x.wires 0)) ex
      ∙ ap (answer 0)
      (sym (search-names n 0 (wires_at (now (design h.statements) h.renames) m) ∙ ap (search_in n 0) (names-are (lies h) m) ∙ search-up names wires rows y n y.wires 0)))

  module _ (w bit : ℕ) (own : Range) (eo : own ≡ wire_range wires p.wires m) where
    abbrev Indexes : ℕ × ℤ → Type 0
    Indexes a = Called (lent names strings bits wires rows renames room) (λ e. (e, pos 0)) (λ ss rs. answer (pos 0) (index (now (design ss) rs) m w bit)) a

    -- by the wire of the design as it was read
    index-says : (v : Verdict ℤ) → Option-elim (wire_at (design h.statements) m w) (refused 8) (λ o. index_in o.body bit) ≡ v → (a : ℕ × ℤ) → a ≡ answer (pos 0) v → Indexes a
    unfolding index
    index-says v e a ea =
        holding h.statements h.renames h.lengths h.holds
        (ea
        ∙ sym (ap (λ (o : Option (Object Wire)). answer (pos 0) (Option-elim o (refused 8) (λ o. index_in o.body bit))) (wire-now (design h.statements) h.renames m w)
        ∙ ap (answer (pos 0)) (body-now (refused 8) (λ (x : Wire). index_in x bit) h.renames m w (wire_at (design h.statements) m w) ∙ e)))

    pub index-there : (a : ℕ × ℤ) → w < own.count → a ≡ answer (pos 0) (index_in (wire_of wires (own.first + w)) bit) → Indexes a
    index-there a b ea = index-says _ (there (lies h) m w (refused 8) (λ (x : Wire). index_in x bit) (rw (← eo) b)) a (rw (← eo) ea)

    pub index-missing : own.count ≤ w → Indexes (8, pos 0)
    unfolding answer
    index-missing b = index-says (refused 8) (missing (lies h) m w (refused 8) (λ (x : Wire). index_in x bit) (rw (← eo) b)) (8, pos 0) refl
