-- What rename and undo leave.
-- Assumes nothing.
use Prim.Native.Nat.{ℕ, ◌+◌, ◌-◌, ◌*◌, ◌≤◌, ◌<◌}
use mathlib.Core.Path.{◌≡◌, refl, sym, ap, ◌∙◌}
use mathlib.Core.List.{List, [], ◌∷◌, ◌++◌}
use native.Mathlib.Omega.{arith}
use Rattle.std.specs.Prelude.{true, Result, Err}
use Rattle.std.specs.Result.{is_ok}
use lib.ListN.{length, replicate, length-append}
use Rattle.rules.specs.Statements.{Statement}
use Rattle.rules.specs.Judgement.{accepted, refused}
use Rattle.rules.specs.Design.{Design, design}
use Rattle.rules.specs.Session.{Rename, Call, call, room_used, rename_call, undo_call, number_of}
use Rattle.rules.specs.Layout.{Rooms, Memory, padded, row, rename_row, put_rename, rooms, memory, layout}
use Rattle.tables.specs.Store.{store}
use Rattle.wires.specs.Rows.{column}
use Rattle.context.specs.declared.place.Place.{Place}
use Rattle.admitted.specs.Holds.{Allowed, no-renames, one-rename}
use Rattle.netlist.specs.Laid.{Laid}
use Rattle.netlist.specs.Results.{result, lent}
use Rattle.rename_rules.specs.Judged.{refusal, judged}
use Rattle.rename_rules.specs.JudgedLaws.{judged-is, refusal-err, refusal-ok}
use Rattle.rename_rules.specs.RoomLaws.{room-used}
use Rattle.rename_rules.specs.NowLaws.{last-rename-row}
use Rattle.memory_check.specs.HeldLaws.{holds-laid}
use Rattle.memory_check.specs.RenameLaws.{file-last, eights-file}
use Rattle.memory_check.proofs.RenameTurns.{room-behind}
use Rattle.session.specs.Called.{Called, holding, wrong-lengths, damaged, after, CalledAs}
use Rattle.session.specs.Steps.{Holding, NotOpen, wrong-sizes, none-held}
use Rattle.canonical.specs.RenamedFine.{undo-last}
use Rattle.session.proofs.RenameLaws.{Passes, passes, refused-by, layout-rename, layout-undo}
use Rattle.session.proofs.HoldLaws.{rooms-rows, long, standing, used, rows_before, few-rows, lies}

-- 1 and 3
pub not-open :
    {A : Type 0} {m : Memory} (refuse : ℕ → A) (says : List Statement → List Rename → A) (n : ℕ) → NotOpen m n →
    Called m refuse says (refuse n)
not-open refuse says n (wrong-sizes e q) = wrong-lengths e (ap refuse q)
not-open refuse says n (none-held e d q) = damaged e d (ap refuse q)

-- THE MEMORY AT EXIT, by stores in the tables
module _ (m : Memory) (ss : List Statement) (rs : List Rename) (r : Rename) (row : ℕ) (at_row : row ≡ length (rooms ss rs).rows)
    (room : length (rooms ss rs).names + length r.new_name ≤ 16384) (few : 8 * length (rooms ss rs).rows + 8 ≤ 8 * 6945) (names' rows' : List ℕ) where
  renamed-memory :
      layout ss rs ≡ m → names' ≡ store m.names m.room r.new_name → rows' ≡ store m.rows (8 * row) (rename_row m.room r) →
      lent names' m.strings m.bits m.wires rows' (m.renames + 1) (m.room + length r.new_name) ≡ layout ss (rs ++ r ∷ [])
  unfolding layout memory
  renamed-memory e en er = rw (en, er, at_row, ← e) (layout-rename ss rs r (eights-file ss rs) room few)

  undone-memory :
      layout ss (rs ++ r ∷ []) ≡ m → names' ≡ store m.names (length (rooms ss rs).names) (replicate (length r.new_name) 0) → rows' ≡ store m.rows (8 * row) (replicate 8 0) →
      lent names' m.strings m.bits m.wires rows' (length rs) (length (rooms ss rs).names) ≡ layout ss rs
  unfolding layout memory
  undone-memory e en er = rw (en, er, at_row, ← e) (layout-undo ss rs r (eights-file ss rs) room few)

-- RENAME
module _ {names strings bits wires rows : List ℕ} {renames room : ℕ} {p : Place} (h : Holding (lent names strings bits wires rows renames room) p) (r : Rename)
    (o : Result (Unit {0}) ℕ) (j : o ≡ refusal (judged names wires rows p renames room r.module_number r.wire_number r.new_name)) where
  pub rename-refused : (n : ℕ) → o ≡ Err n → let m = lent names strings bits wires rows renames room in CalledAs m (Call.rename r) (result n 0 m)
  unfolding after call
  rename-refused n e =
      let f = refusal-err _ n (sym j ∙ e) in
      holding h.statements h.renames h.lengths h.holds (rw (refused-by _ n (judged-is (lies h) r ∙ f.0) f.1))

  module _ (z : is_ok o ≡ true) where
    passed : Passes (design h.statements) h.renames r
    passed = passes (design h.statements) h.renames r (judged-is (lies h) r ∙ refusal-ok _ (rw j at z))

    pub rename-fits : (renames < 64) × (p.rows ≤ 6881) × (room + length r.new_name ≤ 16384) × (length r.new_name ≤ 255) × (length names ≡ 16384) × (length rows ≡ 8 * 6945)
    rename-fits =
        let u : room_used (design h.statements) h.renames ≡ length (rooms h.statements h.renames).names =
        room-used h.statements h.renames h.holds.admitted h.holds.closes in
        (omega (arith, passed.few, standing h), few-rows h, omega (arith, passed.room, used h), passed.short, (long h).0, (long h).1)

    pub rename-done :
        (names' rows' : List ℕ) → names' ≡ store names room r.new_name → rows' ≡ store rows (8 * (p.rows + renames)) (rename_row room r) →
        CalledAs (lent names strings bits wires rows renames room) (Call.rename r) (result 0 0 (lent names' strings bits wires rows' (renames + 1) (room + length r.new_name)))
    unfolding after call
    rename-done names' rows' en er =
        let f = rename-fits in
        let k : length (rooms h.statements h.renames).rows ≡ p.rows + renames = omega (arith, rooms-rows h.statements h.renames, rows_before h, standing h) in
        holding h.statements h.renames h.lengths h.holds
        (rw passed.is
        (ap (result 0 0)
        (renamed-memory (lent names strings bits wires rows renames room) h.statements h.renames r (p.rows + renames) (sym k) (omega (arith, used h)) (omega arith) names' rows' h.holds.is en er)))

-- UNDO
record Last (d : Design) (rs : List Rename) : Type 0 where
  before : List Rename
  rename : Rename
  is : rs ≡ before ++ rename ∷ []
  passed : Passes d before rename

last-allowed : (d : Design) (rs : List Rename) → Allowed d rs → 0 < length rs → Last d rs
unfolding number_of
last-allowed d _ no-renames h = absurd (omega arith)
last-allowed d _ (one-rename qs r a e q) h = record { before = qs; rename = r; is = q; passed = passes d qs r (ap number_of e) }

module _ {names strings bits wires rows : List ℕ} {renames room : ℕ} {p : Place} (h : Holding (lent names strings bits wires rows renames room) p) where
  none-listed : (rs : List Rename) → length rs ≡ 0 → undo_call rs ≡ refused 13
  unfolding undo_call
  none-listed [] e = refl
  none-listed (r ∷ rs) e = absurd (omega arith)

  pub undo-refused : renames ≡ 0 → let m = lent names strings bits wires rows renames room in CalledAs m Call.undo (result 13 0 m)
  unfolding after call
  undo-refused e = holding h.statements h.renames h.lengths h.holds (rw (none-listed h.renames (standing h ∙ e)))

  module _ (z : renames ≡ 0 → ⊥) where
    last : Last (design h.statements) h.renames
    last = last-allowed (design h.statements) h.renames h.holds.allowed (omega (arith, standing h))

    abbrev R : Rooms
    R = rooms h.statements last.before

    length_last : length last.before + 1 ≡ renames
    length_last = sym (length-append last.before (last.rename ∷ [])) ∙ ap length (sym last.is) ∙ standing h

    rooms-is : rooms h.statements h.renames ≡ put_rename R last.rename
    rooms-is = ap (rooms h.statements) last.is ∙ file-last h.statements last.before last.rename

    row_is : length R.rows ≡ p.rows + (renames - 1)
    row_is = omega (arith, rooms-rows h.statements last.before, rows_before h, length_last)

    start_is : column rows (p.rows + (renames - 1)) 1 ≡ length R.names
    unfolding rename_row row padded
    start_is =
        let l : Laid (put_rename R last.rename) names rows = rw rooms-is at (holds-laid h.holds) in
        rw (← row_is) (last-rename-row R last.rename (eights-file h.statements last.before) l 1 (omega arith))

    room-is : room ≡ length R.names + length last.rename.new_name
    room-is = sym (used h) ∙ room-behind R last.rename (rooms h.statements h.renames) rooms-is

    within : (length R.names + length last.rename.new_name ≤ 16384) × (8 * length R.rows + 8 ≤ 8 * 6945)
    within =
        let u : room_used (design h.statements) last.before ≡ length R.names =
        room-used h.statements last.before h.holds.admitted h.holds.closes in
        (omega (arith, last.passed.room), omega (arith, last.passed.few, few-rows h, row_is, length_last))

    pub undo-fits : (p.rows ≤ 6881) × (renames ≤ 64) × (column rows (p.rows + (renames - 1)) 1 ≤ room) × (room ≤ length names) × (8 * (p.rows + (renames - 1)) + 8 ≤ length rows)
    undo-fits =
        (few-rows h, omega (arith, length_last, last.passed.few), omega (arith, start_is, room-is), omega (arith, within.0, room-is, (long h).0), omega (arith, within.1, row_is, (long h).1))

    pub undo-done :
        (names' rows' : List ℕ) (start : ℕ) → start ≡ column rows (p.rows + (renames - 1)) 1 →
        names' ≡ store names (column rows (p.rows + (renames - 1)) 1) (replicate (room - column rows (p.rows + (renames - 1)) 1) 0) →
        rows' ≡ store rows (8 * (p.rows + (renames - 1))) (replicate 8 0) →
        CalledAs (lent names strings bits wires rows renames room) Call.undo (result 0 0 (lent names' strings bits wires rows' (renames - 1) start))
    unfolding after call
    undo-done names' rows' start es en er =
        let m : Memory = lent names strings bits wires rows renames room in
        let k : room - length R.names ≡ length last.rename.new_name = omega (arith, room-is) in
        let i : renames - 1 ≡ length last.before = omega (arith, length_last) in
        let eu : undo_call h.renames ≡ accepted last.before = ap undo_call last.is ∙ undo-last last.before last.rename in
        let el : layout h.statements (last.before ++ last.rename ∷ []) ≡ m = ap (layout h.statements) (sym last.is) ∙ h.holds.is in
        holding h.statements h.renames h.lengths h.holds
        (rw (eu, es, start_is, i)
        (ap (result 0 0)
        (undone-memory m h.statements last.before last.rename (p.rows + (renames - 1)) (sym row_is) within.0 within.1 names' rows' el
        (rw (start_is, k) at en) er)))
