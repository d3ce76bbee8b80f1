-- What renames add to the rooms.
-- Assumes nothing.
use Rattle.std.specs.Prelude.{ℕ, ◌+◌, ◌≡◌, refl, length}
use Rattle.std.proofs.Common.{sym, ap, ◌∙◌, arith, length-append}
use mathlib.Core.List.{List, [], ◌∷◌, ◌++◌, reverse, reverse-reverse, foldl-append}
use Rattle.rules.specs.Statements.{Statement}
use Rattle.rules.specs.Judgement.{sum}
use Rattle.rules.specs.Session.{Rename}
use Rattle.rules.specs.Layout.{Rooms, empty, padded, row, put_all, rename_row, put_rename, put_renames, rooms}
use Rattle.lists.specs.Elements.{each_append}
use Rattle.tables.specs.Flat.{Eights}
use Rattle.netlist.specs.Laid.{rooms_of}
use Rattle.netlist.specs.LaidLaws.{rooms-past}

-- more behind them, one more, their rows, and their names
pub renames-append : (R : Rooms) (rs more : List Rename) → put_renames R (rs ++ more) ≡ put_renames (put_renames R rs) more
unfolding put_renames
renames-append R rs more = foldl-append put_rename R rs more

pub put-renames-last : (R : Rooms) (rs : List Rename) (r : Rename) → put_renames R (rs ++ r ∷ []) ≡ put_rename (put_renames R rs) r
unfolding put_renames
put-renames-last R rs r = renames-append R rs (r ∷ [])

pub length-rename-row : (at : ℕ) (r : Rename) → length (rename_row at r) ≡ 8
unfolding rename_row row padded
length-rename-row at r = refl

pub rename-rows : (R : Rooms) (rs : List Rename) → length (put_renames R rs).rows ≡ length R.rows + length rs
unfolding put_renames put_rename
rename-rows R [] = omega arith
rename-rows R (r ∷ rs) =
    rename-rows (put_rename R r) rs ∙ (omega (arith, length-append R.rows (rename_row (length R.names) r ∷ [])))

pub eights-renames : (R : Rooms) (rs : List Rename) → Eights R.rows → Eights (put_renames R rs).rows
unfolding put_renames put_rename
eights-renames R [] h = h
eights-renames R (r ∷ rs) h =
    eights-renames (put_rename R r) rs (each_append _ R.rows _ h (length-rename-row (length R.names) r, tt))

pub rename-names : (R : Rooms) (rs : List Rename) → length (put_renames R rs).names ≡ length R.names + sum (λ r. length r.new_name) rs
unfolding put_renames put_rename sum
rename-names R [] = omega arith
rename-names R (r ∷ rs) = rename-names (put_rename R r) rs ∙ (omega (arith, length-append R.names r.new_name))

-- the rooms of a file, from the last statement on
pub rooms-file : (ss : List Statement) (rs : List Rename) → rooms ss rs ≡ put_renames (rooms_of (reverse ss)) rs
unfolding rooms
rooms-file ss rs =
    ap (λ (R : Rooms). put_renames R rs) (ap (put_all empty) (sym (reverse-reverse ss)) ∙ rooms-past (reverse ss))

-- nothing to strings, bits and wires
pub record Kept (R S : Rooms) : Type 0 where
  pub strings : S.strings ≡ R.strings
  pub bits : S.bits ≡ R.bits
  pub wires : S.wires ≡ R.wires

pub renames-keep : (R : Rooms) (rs : List Rename) → Kept R (put_renames R rs)
unfolding put_renames put_rename
renames-keep R [] = record { strings = refl; bits = refl; wires = refl }
renames-keep R (r ∷ rs) = let k = renames-keep (put_rename R r) rs in record { strings = k.strings; bits = k.bits; wires = k.wires }
