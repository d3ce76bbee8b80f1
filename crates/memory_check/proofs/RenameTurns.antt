-- Each return of the functions that look for renames.
-- Assumes nothing.
use Prim.Native.Nat.{ℕ, ◌+◌, ◌*◌, ◌≤◌, ◌<◌}
use mathlib.Core.Path.{◌≡◌, refl, sym, ap, ap₂, ◌∙◌, subst}
use mathlib.Core.List.{List, [], ◌∷◌, ◌++◌, reverse}
use mathlib.Core.Bool.{true, false}
use native.Mathlib.Omega.{arith}
use Rattle.std.specs.Prelude.{Some, None, Result}
use Rattle.std.specs.Result.{is_ok}
use Rattle.std.specs.Prelude.{Option as Optional}
use lib.ListN.{length, take, drop, length-append, length-take, length-drop}
use lib.Seq.{slice}
use Rattle.rules.specs.Tokens.{Name}
use Rattle.rules.specs.Statements.{Statement}
use Rattle.rules.specs.Judgement.{accepted}
use Rattle.rules.specs.Design.{design}
use Rattle.rules.specs.Session.{Rename, rename_call, number_of}
use Rattle.rules.specs.Layout.{Rooms, rename_row, put_rename, rooms}
use Rattle.tables.specs.Row.{words, row_at}
use Rattle.tables.specs.declared.Row.{Row}
use Rattle.context.specs.declared.place.Place.{Place}
use Rattle.context.proofs.PlaceLaws.{place-rows}
use Rattle.admitted.specs.Holds.{Allowed, no-renames}
use Rattle.netlist.specs.Spans.{Has}
use Rattle.netlist.specs.Laid.{Laid, Wired}
use Rattle.lists.specs.Tests.{never}
use Rattle.lists.specs.Parts.{slice-span}
use Rattle.rename_rules.specs.Judged.{Lies, refusal, judged}
use Rattle.rename_rules.specs.JudgedLaws.{judged-is, refusal-ok}
use Rattle.memory_check.specs.Renamed.{is_rename, RenameIs, RenamesAre}
use Rattle.memory_check.specs.AllowedLaws.{allowed-next, allowed-more, number-accepted, accepted-number}
use Rattle.memory_check.specs.RenameLaws.{RowOf, rename-eq, rename-words, words-rename, Next, laid_next, next-laid, file-last, eights-file, length-file, file-only, file-next}

-- the wires are the same behind a rename
wired-more : {names wires rows : List ℕ} (S : Rooms) (r : Rename) → Laid (put_rename S r) names rows → Wired S names wires → Wired (put_rename S r) names wires
unfolding put_rename
wired-more S r l w = record { names-start = l.names-start; wires-start = w.wires-start }

pub room-behind : (S : Rooms) (r : Rename) (R : Rooms) → R ≡ put_rename S r → length R.names ≡ length S.names + length r.new_name
unfolding put_rename
room-behind S r R e = ap (λ (T : Rooms). length T.names) e ∙ length-append S.names r.new_name

-- ONE MORE RENAME, whose row is x
module _ (names wires rows : List ℕ) (p : Place) (i used : ℕ) where
  module _ {ss : List Statement} {rs : List Rename} (l : Lies names wires rows p i used ss rs) where
    rows_are : length (rooms ss rs).rows ≡ p.rows + i
    rows_are = length-file ss rs ∙ ap₂ ◌+◌ (place-rows (reverse ss) l.place) l.standing

    module _ (q : Rename) (k : Laid (rooms ss (rs ++ q ∷ [])) names rows) where
      next : Next names rows (rooms ss rs) q
      next = laid_next (rooms ss rs) (eights-file ss rs) q (subst (λ (R : Rooms). Laid R names rows) (file-last ss rs q) k)

      next-long : 8 * (p.rows + i) + 8 ≤ length rows
      next-long = rw (← rows_are) next.room

      next_row : (x : Row) → x ≡ row_at rows (8 * (p.rows + i)) → RowOf x used q
      next_row x e =
          words-rename x used q
          (ap words e ∙ ap (λ (n : ℕ). words (row_at rows (8 * n))) (sym rows_are) ∙ next.row ∙ ap (λ (n : ℕ). rename_row n q) l.room)

      next-inside : used + length q.new_name ≤ length names
      next-inside = rw (← l.room) next.inside

      next-name : Has names used q.new_name
      next-name = rw (← l.room) next.name

  pub no_row : length rows < 8 * (p.rows + i) + 8 → RenameIs names wires rows p i used None
  unfolding RenameIs
  no_row h ss rs l q k e = omega (arith, next-long l q k)

  module _ (x : Row) (ex : x ≡ row_at rows (8 * (p.rows + i))) where
    pub no-rename : is_rename x used ≡ false → RenameIs names wires rows p i used None
    unfolding RenameIs
    no-rename h ss rs l q k e = never (is_rename x used) (next_row l q k x ex).is h

    pub no_name : length names < used + x.b → RenameIs names wires rows p i used None
    unfolding RenameIs
    no_name h ss rs l q k e = omega (arith, (next_row l q k x ex).long, next-inside l q k)

    module _ (n : Name) (en : n ≡ slice used (used + x.b) names) (o : Result (Unit {0}) ℕ) (j : o ≡ refusal (judged names wires rows p i used x.c x.d n)) where
      span-is : n ≡ take x.b (drop used names)
      span-is = en ∙ slice-span used x.b names

      abbrev new : Rename
      new = record { module_number = x.c; wire_number = x.d; new_name = n }

      number_is : is_ok o ≡ true → {ss : List Statement} {rs : List Rename} → Lies names wires rows p i used ss rs → number_of (rename_call (design ss) rs new) ≡ 0
      number_is z l = judged-is l new ∙ refusal-ok _ (rw j at z)

      is_refused : {ss : List Statement} {rs : List Rename} → Lies names wires rows p i used ss rs → number_of (rename_call (design ss) rs new) ≡ 0 → is_ok o ≡ true
      unfolding refusal
      is_refused l e = rw (j, ← judged-is l new, e) refl

      pub rename-refused : is_ok o ≡ false → RenameIs names wires rows p i used None
      unfolding RenameIs Has
      rename-refused h ss rs l q k e =
          let f = next_row l q k x ex in
          let d : new ≡ q =
          rename-eq x.c q.module_number x.d q.wire_number n q.new_name f.module-number f.wire-number
          (span-is ∙ ap (λ (y : ℕ). take y (drop used names)) f.long ∙ next-name l q k) in
          never (is_ok o) (is_refused l (ap (λ (r : Rename). number_of (rename_call (design ss) rs r)) d ∙ accepted-number (design ss) rs q e)) h

      pub rename-next :
          8 * (p.rows + i) + 8 ≤ length rows → is_rename x used ≡ true → used + x.b ≤ length names → is_ok o ≡ true →
          RenameIs names wires rows p i used (Some (used + x.b))
      unfolding RenameIs Has
      rename-next long is inside z ss rs l =
          let S : Rooms = rooms ss rs in
          let e : rename_call (design ss) rs new ≡ accepted (rs ++ new ∷ []) = number-accepted (design ss) rs new (number_is z l) in
          let m : length n ≡ x.b = ap length span-is ∙ length-take x.b (drop used names) ∙ (omega (arith, length-drop used names)) in
          let c : length S.rows ≡ p.rows + i = rows_are l in
          let w : words (row_at rows (8 * length S.rows)) ≡ rename_row (length S.names) new =
          rw (c, l.room, ← ex) (rename-words x used n is m) in
          let t : Has names (length S.names) n = rw (l.room, m) (sym span-is) in
          let k : Laid (put_rename S new) names rows = next-laid S (eights-file ss rs) new l.laid (rw c long) w t in
          let f : rooms ss (rs ++ new ∷ []) ≡ put_rename S new = file-last ss rs new in (
            new,
            record {
              admitted = l.admitted;
              closes = l.closes;
              laid = rw f k;
              wired = rw f (wired-more S new k l.wired);
              place = l.place;
              standing = length-append rs (new ∷ []) ∙ ap (λ (y : ℕ). y + 1) l.standing;
              room = room-behind S new _ f ∙ ap₂ ◌+◌ l.room m;
            },
            e,
          )

-- ALL RENAMES
module _ (names wires rows : List ℕ) (p : Place) (used : ℕ) where
  pub renames-start : RenamesAre names wires rows p 0 used (Some used)
  unfolding RenamesAre
  renames-start ss l = ([], l, no-renames)

  module _ (i room : ℕ) (inv : RenamesAre names wires rows p i used (Some room)) (o : Optional ℕ) (h : RenameIs names wires rows p i room o) where
    pub renames-more : (n : ℕ) → o ≡ Some n → RenamesAre names wires rows p (i + 1) used (Some n)
    unfolding RenamesAre RenameIs
    renames-more n e ss l =
        let f = rw e at h in
        let z = inv ss l in
        let y = f ss z.0 z.1 in
        (z.0 ++ y.0 ∷ [], y.1, allowed-more z.0 y.0 z.2 y.2)

    pub renames-stuck : (many : ℕ) → i < many → o ≡ None → RenamesAre names wires rows p many used None
    unfolding RenamesAre RenameIs
    renames-stuck many b e ss l qs a k c =
        let f = rw e at h in
        let z = inv ss l in
        let y = file-only ss qs z.0 (omega (arith, z.1.standing)) k z.1.laid in
        stuck ss z.0 y.0 qs y.1 (omega (arith, z.1.standing)) a k (f ss z.0 z.1)
      where
        stuck :
            (ss : List Statement) (rs more qs : List Rename) → qs ≡ rs ++ more → length rs < length qs → Allowed (design ss) qs → Laid (rooms ss qs) names rows →
            ((q : Rename) → Laid (rooms ss (rs ++ q ∷ [])) names rows → rename_call (design ss) rs q ≡ accepted (rs ++ q ∷ []) → ⊥) → ⊥
        stuck ss rs [] qs e b a k f = omega (arith, ap length e, length-append rs [])
        stuck ss rs (q ∷ more) qs e b a k f =
            f q (file-next ss rs more q (subst (λ (l : List Rename). Laid (rooms ss l) names rows) e k)) (allowed-next rs more q (subst (Allowed (design ss)) e a))
