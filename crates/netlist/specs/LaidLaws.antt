-- What lies in the tables: in padded tables, before one statement more and before renames, and what the last statement left.
-- Assumes nothing.
use Rattle.std.specs.Prelude.{ℕ, ◌≡◌, length}
use Rattle.std.proofs.Math.Path.{refl}
use Rattle.std.proofs.Common.{sym, ap, ◌∙◌, arith, length-append}
use mathlib.Core.List.{List, [], ◌∷◌, ◌++◌, reverse, reverse-cons, foldl-append}
use Rattle.rules.specs.Statements.{Statement}
use Rattle.rules.specs.Judgement.{Past}
use Rattle.rules.specs.Session.{Rename}
use Rattle.rules.specs.Layout.{Rooms, empty, padded, used, name_bytes, statement_row, put, put_all, rename_row, put_rename, put_renames}
use Rattle.lists.specs.Lists.{flat_map-snoc}
use Rattle.lists.specs.Elements.{each_append}
use Rattle.tables.specs.Flat.{flat, Eights}
use Rattle.wires.specs.RowLaws.{RowIs}
use Rattle.netlist.specs.RowLaws.{length-statement-row}
use Rattle.netlist.specs.Spans.{Starts, Has, starts_first, starts-has, starts-padded, starts-row}
use Rattle.netlist.specs.Laid.{rooms_of, Laid}

-- one statement more, in the order of the file and from the last one on
pub put_last : (R : Rooms) (ss : List Statement) (s : Statement) → put_all R (ss ++ s ∷ []) ≡ put (put_all R ss) s
unfolding put_all
put_last R ss s = foldl-append put R ss (s ∷ [])

pub rooms-past : (ss : Past) → put_all empty (reverse ss) ≡ rooms_of ss
unfolding put_all rooms_of
rooms-past [] = refl
rooms-past (s ∷ ss) = ap (put_all empty) (reverse-cons s ss) ∙ put_last empty (reverse ss) s ∙ ap (λ (R : Rooms). put R s) (rooms-past ss)

-- a row for each statement, of eight columns
pub length-rows : (ss : Past) → length (rooms_of ss).rows ≡ length ss
unfolding rooms_of put
length-rows [] = refl
length-rows (s ∷ ss) = length-append (rooms_of ss).rows _ ∙ (let e : length (rooms_of ss).rows ≡ length ss = length-rows ss in omega arith)

pub eights-rows : (ss : Past) → Eights (rooms_of ss).rows
unfolding rooms_of put
eights-rows [] = tt
eights-rows (s ∷ ss) =
    each_append _ (rooms_of ss).rows _ (eights-rows ss) (length-statement-row (used (rooms_of ss)) s, tt)

-- rooms lie in their padded tables
pub laid-padded : (m n : ℕ) (R : Rooms) → Laid R (padded m R.names) (padded n (flat R.rows))
laid-padded m n R = record { names-start = starts-padded m R.names; rows_start = starts-padded n (flat R.rows) }

-- what is appended to the rooms stands behind them
module _ {names rows : List ℕ} (R : Rooms) where
  laid-front : (ns r : List ℕ) → Starts names (R.names ++ ns) → Starts rows (flat (R.rows ++ r ∷ [])) → Laid R names rows
  laid-front ns r a b = record { names-start = starts_first names R.names ns a; rows_start = starts_first rows (flat R.rows) r (rw flat_map-snoc at b) }

  pub laid-put : (s : Statement) → Laid (put R s) names rows → Laid R names rows
  unfolding put
  laid-put s l = laid-front (name_bytes s) (statement_row (used R) s) l.names-start l.rows_start

  pub laid-rename : (r : Rename) → Laid (put_rename R r) names rows → Laid R names rows
  unfolding put_rename
  laid-rename r l = laid-front r.new_name (rename_row (length R.names) r) l.names-start l.rows_start

  -- the last statement's names and row
  pub laid-names : (s : Statement) → Laid (put R s) names rows → Has names (length R.names) (name_bytes s)
  unfolding put
  laid-names s l = starts-has names R.names (name_bytes s) (length R.names) refl l.names-start

  pub laid-row : (s : Statement) → Eights R.rows → Laid (put R s) names rows → RowIs rows (length R.rows) (statement_row (used R) s)
  unfolding put
  laid-row s h l = starts-row rows R.rows (statement_row (used R) s) h (length-statement-row (used R) s) l.rows_start

pub laid-before : {names rows : List ℕ} (s : Statement) (ss : Past) → Laid (rooms_of (s ∷ ss)) names rows → Laid (rooms_of ss) names rows
unfolding rooms_of
laid-before s ss l = laid-put (rooms_of ss) s l

-- the row of the last of the statements so far
pub laid-last : {names rows : List ℕ} (s : Statement) (ss : Past) (k : ℕ) → k ≡ length ss → Laid (rooms_of (s ∷ ss)) names rows → RowIs rows k (statement_row (used (rooms_of ss)) s)
unfolding rooms_of
laid-last s ss k e l = let q : k ≡ length (rooms_of ss).rows = e ∙ sym (length-rows ss) in rw q (laid-row (rooms_of ss) s (eights-rows ss) l)

-- what holds of rooms with renames, and so without the last one, holds without them
pub without-renames : (P : Rooms → Type 0) → ((R : Rooms) (r : Rename) → P (put_rename R r) → P R) → (R : Rooms) (rs : List Rename) → P (put_renames R rs) → P R
unfolding put_renames
without-renames P h R [] p = p
without-renames P h R (r ∷ rs) p = h R r (without-renames P h (put_rename R r) rs p)

pub laid-renames : {names rows : List ℕ} (R : Rooms) (rs : List Rename) → Laid (put_renames R rs) names rows → Laid R names rows
laid-renames = without-renames (λ R. Laid R _ _) laid-rename
