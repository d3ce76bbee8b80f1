-- One more rename behind the statements and renames that lie in the tables: what its row and its name are, and that there is one only.
-- Assumes nothing.
use Prim.Native.Nat.{ℕ, ◌+◌, ◌*◌, ◌≤◌}
use Rattle.std.specs.Prelude.{◌≡◌, true, take, drop}
use Rattle.std.proofs.Math.Path.{refl}
use Rattle.std.proofs.Common.{sym, ap, ap₂, ◌∙◌, subst, arith}
use mathlib.Core.List.{List, [], ◌∷◌, ◌++◌, reverse, append_assoc}
use Rattle.std.proofs.Math.Bool.{and_assoc}
use Rattle.std.proofs.Math.Dec.{eqb}
use Rattle.std.proofs.Math.ListN.{length}
use borrow.Author.Tests.{eqb-true, eq-eqb}
use Rattle.rules.specs.Tokens.{Name}
use Rattle.rules.specs.Statements.{Statement}
use Rattle.rules.specs.Session.{Rename}
use Rattle.rules.specs.Layout.{Rooms, padded, row, rename_row, put_rename, put_renames, rooms}
use Rattle.tables.specs.Row.{words, row_at}
use Rattle.tables.specs.Flat.{flat, Eights, length-flat}
use Rattle.tables.specs.declared.Row.{Row}
use Rattle.lists.specs.Elements.{test_at}
use Rattle.lists.specs.Lists.{none_more, flat_map-snoc}
use Rattle.netlist.specs.Laid.{rooms_of, Laid}
use Rattle.netlist.specs.Spans.{Starts, Has, starts-has, starts-long, starts_more, row_has, has-row}
use Rattle.netlist.specs.LaidLaws.{laid-renames, eights-rows, length-rows}
use Rattle.netlist.specs.RoomLaws.{renames-append, put-renames-last, length-rename-row, rename-rows, eights-renames, rooms-file}
use Rattle.rename_rules.specs.NowLaws.{last-rename-row, last-rename-name}
use Rattle.memory_check.specs.Renamed.{is_rename}

-- A RENAME'S ROW
pub rename-eq :
    (m m' w w' : ℕ) (n n' : Name) → m ≡ m' → w ≡ w' → n ≡ n' →
    ◌≡◌ {A = Rename} (record { module_number = m; wire_number = w; new_name = n }) (record { module_number = m'; wire_number = w'; new_name = n' })
rename-eq m m' w w' n n' em ew en = λ i. record { module_number = em i; wire_number = ew i; new_name = en i }

module _ (x : Row) (at : ℕ) where
  pub rename-words : (n : Name) → is_rename x at ≡ true → length n ≡ x.b → words x ≡ rename_row at (record { module_number = x.c; wire_number = x.d; new_name = n })
  unfolding is_rename words rename_row row padded
  rename-words n e l =
      let h = test_at (eqb x.kind 14) (eqb x.a at ∷ eqb x.e 0 ∷ eqb x.f 0 ∷ eqb x.g 0 ∷ []) (simp (← and_assoc) at e) in
      rw (eqb-true x.kind 14 (h 0), eqb-true x.a at (h 1), eqb-true x.e 0 (h 2), eqb-true x.f 0 (h 3), eqb-true x.g 0 (h 4), l)

  pub record RowOf (q : Rename) : Type 0 where
    pub is : is_rename x at ≡ true
    pub long : x.b ≡ length q.new_name
    pub module-number : x.c ≡ q.module_number
    pub wire-number : x.d ≡ q.wire_number

  pub words-rename : (q : Rename) → words x ≡ rename_row at q → RowOf q
  unfolding is_rename words rename_row row padded
  words-rename q e =
      let k : x.kind ≡ 14 = cc in
      let a : x.a ≡ at = cc in
      let b : x.e ≡ 0 = cc in
      let c : x.f ≡ 0 = cc in
      let d : x.g ≡ 0 = cc in
      record {
        is = rw (eq-eqb x.kind 14 k, eq-eqb x.a at a, eq-eqb x.e 0 b, eq-eqb x.f 0 c, eq-eqb x.g 0 d);
        long = cc;
        module-number = cc;
        wire-number = cc;
      }

-- WHAT IS LAID behind rooms S by one more rename
pub record Next (names rows : List ℕ) (S : Rooms) (q : Rename) : Type 0 where
  pub room : 8 * length S.rows + 8 ≤ length rows
  pub row : words (row_at rows (8 * length S.rows)) ≡ rename_row (length S.names) q
  pub inside : length S.names + length q.new_name ≤ length names
  pub name : Has names (length S.names) q.new_name

module _ {names rows : List ℕ} (S : Rooms) (h : Eights S.rows) (q : Rename) where
  pub laid_next : Laid (put_rename S q) names rows → Next names rows S q
  unfolding put_rename
  laid_next l =
      let z : List ℕ = rename_row (length S.names) q in
      let n : length z ≡ 8 = length-rename-row (length S.names) q in
      let f : length (flat S.rows) ≡ 8 * length S.rows = length-flat S.rows h in
      let r : Starts rows (flat S.rows ++ z) = rw flat_map-snoc at l.rows_start in
      let long : 8 * length S.rows + 8 ≤ length rows = omega (arith, starts-long rows (flat S.rows) z r) in
      record {
        room = long;
        row = row_has rows (length S.rows) z n long (starts-has rows (flat S.rows) z (8 * length S.rows) (sym f) r);
        inside = starts-long names S.names q.new_name l.names-start;
        name = starts-has names S.names q.new_name (length S.names) refl l.names-start;
      }

  pub next-laid :
      Laid S names rows → 8 * length S.rows + 8 ≤ length rows →
      words (row_at rows (8 * length S.rows)) ≡ rename_row (length S.names) q →
      Has names (length S.names) q.new_name →
      Laid (put_rename S q) names rows
  unfolding put_rename
  next-laid l long e en =
      let z : List ℕ = rename_row (length S.names) q in
      let at : Has rows (8 * length S.rows) z = has-row rows (length S.rows) z (length-rename-row (length S.names) q) long e in
      record {
        names-start = starts_more names S.names q.new_name (length S.names) refl l.names-start en;
        rows_start =
            rw flat_map-snoc
            (starts_more rows (flat S.rows) z (8 * length S.rows) (sym (length-flat S.rows h)) l.rows_start at);
      }

-- THERE IS ONE ONLY
one_only : {names rows : List ℕ} (S : Rooms) (h : Eights S.rows) (q r : Rename) → Laid (put_rename S q) names rows → Laid (put_rename S r) names rows → q ≡ r
unfolding Has rename_row row padded
one_only {names} S h q r l k =
    let x = last-rename-row S q h l in
    let y = last-rename-row S r h k in
    let e : length q.new_name ≡ length r.new_name = sym (x 2 (omega arith)) ∙ y 2 (omega arith) in
    rename-eq q.module_number r.module_number q.wire_number r.wire_number q.new_name r.new_name
    (sym (x 3 (omega arith)) ∙ y 3 (omega arith))
    (sym (x 4 (omega arith)) ∙ y 4 (omega arith))
    (sym (last-rename-name S q h l) ∙ ap (λ (n : ℕ). take n (drop (length S.names) names)) e ∙ last-rename-name S r h k)

begins-only :
    {names rows : List ℕ} (S : Rooms) → Eights S.rows → (qs rs : List Rename) → length rs ≤ length qs →
    Laid (put_renames S qs) names rows → Laid (put_renames S rs) names rows → (more : List Rename) × (qs ≡ rs ++ more)
unfolding put_renames
begins-only S h qs [] b l k = (qs, refl)
begins-only S h [] (r ∷ rs) b l k = absurd (omega arith)
begins-only {names} {rows} S h (q ∷ qs) (r ∷ rs) b l k =
    let e : q ≡ r = one_only S h q r (laid-renames (put_rename S q) qs l) (laid-renames (put_rename S r) rs k) in
    let d : Laid (put_renames (put_rename S r) qs) names rows = rw e at l in
    let z = begins-only (put_rename S r) (eights-renames S (r ∷ []) h) qs rs (omega arith) d k in
    (z.0, ap₂ ◌∷◌ e z.1)

-- the same of the rooms of a file
pub file-last : (ss : List Statement) (rs : List Rename) (r : Rename) → rooms ss (rs ++ r ∷ []) ≡ put_rename (rooms ss rs) r
unfolding rooms
file-last ss rs r = put-renames-last _ rs r

pub eights-file : (ss : List Statement) (rs : List Rename) → Eights (rooms ss rs).rows
eights-file ss rs = rw (rooms-file ss rs) (eights-renames (rooms_of (reverse ss)) rs (eights-rows (reverse ss)))

pub length-file : (ss : List Statement) (rs : List Rename) → length (rooms ss rs).rows ≡ length (reverse ss) + length rs
length-file ss rs = rw (rooms-file ss rs) (rename-rows (rooms_of (reverse ss)) rs ∙ ap (λ (n : ℕ). n + length rs) (length-rows (reverse ss)))

module _ {names rows : List ℕ} (ss : List Statement) where
  pub file-only :
      (qs rs : List Rename) → length rs ≤ length qs → Laid (rooms ss qs) names rows → Laid (rooms ss rs) names rows → (more : List Rename) × (qs ≡ rs ++ more)
  file-only qs rs b l k =
      begins-only (rooms_of (reverse ss)) (eights-rows (reverse ss)) qs rs b
      (subst (λ (R : Rooms). Laid R names rows) (rooms-file ss qs) l)
      (subst (λ (R : Rooms). Laid R names rows) (rooms-file ss rs) k)

  pub file-one : (qs rs : List Rename) → length qs ≡ length rs → Laid (rooms ss qs) names rows → Laid (rooms ss rs) names rows → qs ≡ rs
  file-one qs rs e l k =
      let y = file-only qs rs (omega arith) l k in
      none_more qs rs y.0 y.1 e

  pub file-front : (rs more : List Rename) → Laid (rooms ss (rs ++ more)) names rows → Laid (rooms ss rs) names rows
  unfolding rooms
  file-front rs more l =
      laid-renames (rooms ss rs) more (subst (λ (R : Rooms). Laid R names rows) (renames-append _ rs more) l)

  pub file-next : (rs more : List Rename) (r : Rename) → Laid (rooms ss (rs ++ r ∷ more)) names rows → Laid (rooms ss (rs ++ r ∷ [])) names rows
  file-next rs more r l =
      file-front (rs ++ r ∷ []) more (subst (λ (l : List Rename). Laid (rooms ss l) names rows) (sym (append_assoc rs (r ∷ []) more)) l)
