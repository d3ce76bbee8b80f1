-- Design memory with one rename more, and with the last one taken off.
-- Assumes nothing.
use Prim.Native.Nat.{ℕ, ◌+◌, ◌*◌, ◌≤◌, ◌<◌}
use mathlib.Core.Path.{◌≡◌, refl, sym, ap}
use mathlib.Core.List.{List, [], ◌∷◌, ◌++◌}
use native.Mathlib.Omega.{arith}
use lib.ListN.{length, replicate, length-append}
use Rattle.rules.specs.Bytes.{legal}
use Rattle.rules.specs.Statements.{Statement}
use Rattle.rules.specs.Judgement.{Verdict, accepted, refused}
use Rattle.rules.specs.Design.{Design}
use Rattle.rules.specs.Session.{Rename, room_used, rename_call, number_of}
use Rattle.rules.specs.Layout.{Rooms, padded, rename_row, put_rename, rooms, memory, layout}
use Rattle.tables.specs.Store.{store}
use Rattle.tables.specs.Padded.{store-padded, padded-unput}
use Rattle.tables.specs.Flat.{flat, Eights, length-flat, store-row}
use Rattle.netlist.specs.Results.{lent}
use Rattle.netlist.specs.RoomLaws.{length-rename-row}
use Rattle.canonical.specs.RenamedFine.{accepted-keeps}
use Rattle.lists.specs.Bytes.{legal-short}
use Rattle.lists.specs.Lists.{flat_map-snoc}
use Rattle.memory_check.specs.AllowedLaws.{number-accepted}
use Rattle.memory_check.specs.RenameLaws.{file-last}

-- WHAT AN ACCEPTED RENAME KEEPS
pub record Passes (d : Design) (rs : List Rename) (r : Rename) : Type 0 where
  pub is : rename_call d rs r ≡ accepted (rs ++ r ∷ [])
  pub short : length r.new_name ≤ 255
  pub few : length rs < 64
  pub room : room_used d rs + length r.new_name ≤ 16384

pub passes : (d : Design) (rs : List Rename) (r : Rename) → number_of (rename_call d rs r) ≡ 0 → Passes d rs r
passes d rs r h =
    let e = number-accepted d rs r h in
    let k = accepted-keeps d rs (rs ++ r ∷ []) r e in
    record { is = e; short = legal-short r.new_name k.legal; few = k.few; room = k.room }

pub refused-by : (v : Verdict (List Rename)) (n : ℕ) → number_of v ≡ n → (n ≡ 0 → ⊥) → v ≡ refused n
unfolding number_of
refused-by (accepted rs) n e h = absurd (h (sym e))
refused-by (refused k) n e h = ap refused e

-- THE LAYOUT
lent-eq :
    {n n' s b w t t' : List ℕ} {k k' m m' : ℕ} → n ≡ n' → t ≡ t' → k ≡ k' → m ≡ m' →
    lent n s b w t k m ≡ lent n' s b w t' k' m'
lent-eq en et ek em = rw (en, et, ek, em)

-- zeros over the last part of what is used
unput : (n : ℕ) (xs ys l : List ℕ) (at k : ℕ) → l ≡ padded n (xs ++ ys) → at ≡ length xs → k ≡ length ys → length xs + length ys ≤ n → store l at (replicate k 0) ≡ padded n xs
unput n xs ys l at k el ea ek h = rw (el, ea, ek) (padded-unput n xs ys h)

module _ (ss : List Statement) (rs : List Rename) (r : Rename) (h : Eights (rooms ss rs).rows) (room : length (rooms ss rs).names + length r.new_name ≤ 16384) (few : 8 * length (rooms ss rs).rows + 8 ≤ 8 * 6945) where
  pub layout-rename :
      let m = layout ss rs in
      let R = rooms ss rs in
      lent (store m.names (length R.names) r.new_name) m.strings m.bits m.wires (store m.rows (8 * length R.rows) (rename_row (length R.names) r)) (length rs + 1) (length R.names + length r.new_name)
      ≡ layout ss (rs ++ r ∷ [])
  unfolding layout memory put_rename
  layout-rename =
      let R : Rooms = rooms ss rs in
      rw file-last
      (lent-eq (store-padded 16384 R.names r.new_name _ _ refl refl room)
      (store-row (8 * 6945) R.rows (rename_row (length R.names) r) _ _ refl refl h (length-rename-row (length R.names) r) few)
      (sym (length-append rs (r ∷ [])))
      (sym (length-append R.names r.new_name)))

  pub layout-undo :
      let m = layout ss (rs ++ r ∷ []) in
      let R = rooms ss rs in
      lent (store m.names (length R.names) (replicate (length r.new_name) 0)) m.strings m.bits m.wires (store m.rows (8 * length R.rows) (replicate 8 0)) (length rs) (length R.names)
      ≡ layout ss rs
  unfolding layout memory put_rename
  layout-undo =
      let R : Rooms = rooms ss rs in
      let x : List ℕ = rename_row (length R.names) r in
      let e : length (flat R.rows) ≡ 8 * length R.rows = length-flat R.rows h in
      let k : length x ≡ 8 = length-rename-row (length R.names) r in
      rw file-last
      (lent-eq (padded-unput 16384 R.names r.new_name room)
      (unput (8 * 6945) (flat R.rows) x (padded (8 * 6945) (flat (R.rows ++ x ∷ []))) (8 * length R.rows) 8 (ap (padded (8 * 6945)) (flat_map-snoc (λ r. r) R.rows x)) (sym e) (sym k) (omega arith))
      refl refl)
