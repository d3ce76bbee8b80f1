-- Names now: the last rename row of a wire holds its name; the names of a module's wires, by the rows of the tables.
-- Assumes nothing.
use Prim.Native.Nat.{ℕ, zero, suc, ◌+◌}
use Rattle.std.specs.Prelude.{◌≡◌}
use Rattle.std.proofs.Math.Path.{refl, sym, ap}
use Rattle.std.proofs.Common.{ap₂, ◌∙◌, add-zero}
use mathlib.Core.List.{List, [], ◌∷◌, ◌++◌, map, map-append, reverse, reverse-cons, reverse-reverse}
use native.Mathlib.Omega.{arith}
use Rattle.std.proofs.Math.ListN.{length}
use Rattle.std.proofs.lemmas.List.{length-reverse}
use Rattle.rules.specs.Tokens.{Name}
use Rattle.rules.specs.Statements.{Wire}
use Rattle.rules.specs.Signals.{Wires}
use Rattle.rules.specs.Judgement.{Past}
use Rattle.rules.specs.Design.{design}
use Rattle.rules.specs.Session.{Rename, wires_at, now}
use Rattle.rules.specs.Layout.{Rooms, padded, row, rename_row, put_rename, put_renames}
use Rattle.tables.specs.Flat.{Eights}
use Rattle.wires.specs.Rows.{name_of, wire_of, wires_from, span_at}
use Rattle.wires.specs.RowLaws.{RowIs}
use Rattle.netlist.specs.Rows.{name_from}
use Rattle.netlist.specs.Laid.{rooms_of, Laid, Wired}
use Rattle.netlist.specs.Spans.{Has, starts-has, starts-row}
use Rattle.netlist.specs.LaidLaws.{laid-rename, eights-rows, length-rows}
use Rattle.context.specs.Place.{wires_in, place_of}
use Rattle.context.specs.Offsets.{Offsets}
use Rattle.modules.specs.Modules.{statements_of, wires_of, Headed}
use Rattle.modules.specs.DesignLaws.{wire-names-at}
use Rattle.modules.specs.Ranges.{wire_range}
use Rattle.modules.specs.WireLaws.{pairs-range}
use Rattle.modules.specs.Now as designs
use Rattle.modules.specs.NowLaws.{numbered-same, names-now, name-last}
use Rattle.wire_names.specs.Now as rows
use Rattle.wire_names.specs.declared.Module.{Module}
use Rattle.rename_rules.specs.Judged.{module_by}
use Rattle.netlist.specs.RoomLaws.{put-renames-last, length-rename-row, rename-rows, eights-renames}
use Rattle.lists.specs.Lists.{up, up_same, up-last}
use Rattle.lists.specs.Parts.{slice-span}

-- what a rename's row holds
module _ (t : List ℕ) (k at : ℕ) (r : Rename) (h : RowIs t k (rename_row at r)) where
  rename-row : (m w : ℕ) → rows.renames t k m w ≡ designs.renames r m w
  unfolding rows.renames designs.renames rename_row row padded
  rename-row m w = rw (h 3 (omega arith), h 4 (omega arith))

  rename-name : (names : List ℕ) → Has names at r.new_name → name_from names t k 1 ≡ r.new_name
  unfolding name_from span_at Has rename_row row padded
  rename-name names e = rw (h 1 (omega arith), h 2 (omega arith)) (slice-span at (length r.new_name) names ∙ e)

-- the row and the name of the last rename
module _ {names t : List ℕ} (R : Rooms) (r : Rename) (h : Eights R.rows) (l : Laid (put_rename R r) names t) where
  pub last-rename-row : RowIs t (length R.rows) (rename_row (length R.names) r)
  unfolding put_rename
  last-rename-row = starts-row t R.rows (rename_row (length R.names) r) h (length-rename-row (length R.names) r) l.rows_start

  pub last-rename-name : Has names (length R.names) r.new_name
  unfolding put_rename
  last-rename-name = starts-has names R.names r.new_name (length R.names) refl l.names-start

-- NAMES NOW, from the newest rename on
module _ {names t : List ℕ} (wires : List ℕ) (R : Rooms) (h : Eights R.rows) (m w k : ℕ) where
  now-back :
      (qs : List Rename) → Laid (put_renames R (reverse qs)) names t →
      rows.name_now names wires t (length R.rows) (length qs) m w k ≡ designs.name_now (reverse qs) m w (name_of names wires k)
  unfolding rows.name_now designs.name_now
  now-back [] l = refl
  now-back (r ∷ qs) l =
      let S : Rooms = put_renames R (reverse qs) in
      let p : put_renames R (reverse (r ∷ qs)) ≡ put_rename S r = ap (put_renames R) (reverse-cons r qs) ∙ put-renames-last R (reverse qs) r in
      let d : Laid (put_rename S r) names t = rw p at l in
      let g : Eights S.rows = eights-renames R (reverse qs) h in
      let e : length S.rows ≡ length R.rows + length qs = rename-rows R (reverse qs) ∙ ap (λ (n : ℕ). length R.rows + n) (length-reverse qs) in
      let q : RowIs t (length R.rows + length qs) (rename_row (length S.names) r) = rw (← e) (last-rename-row S r g d) in
      let j : ℕ = length R.rows + length qs in
      rw (rename-row t j (length S.names) r q m w, rename-name t j (length S.names) r q names (last-rename-name S r g d), now-back qs (laid-rename S r d))
      (sym (ap (λ (rs : List Rename). designs.name_now rs m w (name_of names wires k)) (reverse-cons r qs) ∙ name-last (reverse qs) r m w (name_of names wires k)))

  pub name-now-laid :
      (rs : List Rename) → Laid (put_renames R rs) names t →
      rows.name_now names wires t (length R.rows) (length rs) m w k ≡ designs.name_now rs m w (name_of names wires k)
  name-now-laid rs l =
      let e : reverse (reverse rs) ≡ rs = reverse-reverse rs in
      let d : Laid (put_renames R (reverse (reverse rs))) names t = rw e l in
      ap (λ (n : ℕ). rows.name_now names wires t (length R.rows) n m w k) (sym (length-reverse rs))
      ∙ now-back (reverse rs) d
      ∙ ap (λ (qs : List Rename). designs.name_now qs m w (name_of names wires k)) e

numbered-up : {A : Type 0} (f : ℕ → A) (g : ℕ → A → A) (many k : ℕ) → designs.numbered (λ i. g (k + i)) (up f many k) ≡ up (λ j. g j (f j)) many k
unfolding designs.numbered
numbered-up f g zero k = refl
numbered-up f g (suc l) k =
    ap₂ ◌∷◌ (ap (λ (i : ℕ). g i (f k)) (add-zero k))
    (numbered-same (λ i. g (k + suc i)) (λ i. g (k + 1 + i)) (λ i x. let e : k + suc i ≡ k + 1 + i = omega arith in rw e) (up f l (k + 1))
    ∙ numbered-up f g l (k + 1))

names-up : (names wires : List ℕ) (first many : ℕ) → map (λ x. x.0) (reverse (wires_from names wires first many)) ≡ up (λ j. name_of names wires (first + j)) many 0
unfolding wires_from
names-up names wires first zero = refl
names-up names wires first (suc j) =
    let xs : Wires = wires_from names wires first j in
    let x : Name × Wire = (name_of names wires (first + j), wire_of wires (first + j)) in
    let z : 0 + j ≡ j = omega arith in
    ap (map (λ x. x.0)) (reverse-cons x xs)
    ∙ map-append (λ x. x.0) (reverse xs) (x ∷ [])
    ∙ ap (λ (l : List Name). l ++ name_of names wires (first + j) ∷ []) (names-up names wires first j)
    ∙ ap (λ (i : ℕ). up (λ j. name_of names wires (first + j)) j 0 ++ name_of names wires (first + i) ∷ []) (sym z)
    ∙ sym (up-last (λ j. name_of names wires (first + j)) j 0)

-- THE NAMES OF A MODULE'S WIRES NOW, in the order of the file
abbrev pub names_up : (names wires t : List ℕ) → Module → List Name
names_up names wires t x = up (λ j. rows.name_now names wires t x.from x.renames x.number.0 j (x.first + j)) x.wires 0

module _ {names wires t : List ℕ} (m : ℕ) (ss : Past) (headed : Headed ss) (o : Offsets ss) (rs : List Rename)
    (l : Laid (put_renames (rooms_of ss) rs) names t) (k : Wired (rooms_of ss) names wires) where
  pub numbered-laid : designs.numbered (designs.name_now rs m) (map (λ x. x.0) (wires_of (statements_of m (reverse ss)))) ≡ names_up names wires t (module_by wires (place_of ss) (length rs) m)
  unfolding place_of
  numbered-laid =
      let r = wire_range wires (wires_in ss) m in
      let own : ℕ → Name = λ j. name_of names wires (r.first + j) in
      let f : ℕ → Name → Name = designs.name_now rs m in
      let e : length (rooms_of ss).rows ≡ length ss = length-rows ss in
      ap (λ (xs : Wires). designs.numbered f (map (λ x. x.0) xs)) (sym (pairs-range m ss headed k o))
      ∙ ap (designs.numbered f) (names-up names wires r.first r.count)
      ∙ numbered-same f (λ i. f (0 + i)) (λ i x. let z : 0 + i ≡ i = omega arith in rw z) (up own r.count 0)
      ∙ numbered-up own f r.count 0
      ∙ up_same _ _ (λ j. sym (ap (λ (x : ℕ). rows.name_now names wires t x (length rs) m j (r.first + j)) (sym e) ∙ name-now-laid wires (rooms_of ss) (eights-rows ss) m j (r.first + j) rs l)) r.count 0

  pub names-laid : map (λ o. o.name) (wires_at (now (design (reverse ss)) rs) m) ≡ names_up names wires t (module_by wires (place_of ss) (length rs) m)
  names-laid = names-now (design (reverse ss)) rs m ∙ ap (designs.numbered (designs.name_now rs m)) (wire-names-at (reverse ss) m) ∙ numbered-laid
