-- Tables that begin with rooms: before a statement and before renames, with one statement more, and what the last statement left there.
-- Assumes nothing.
use Rattle.std.specs.Prelude.{ℕ, ◌*◌, ◌≡◌}
use Rattle.std.proofs.Math.Path.{refl}
use Rattle.std.proofs.Common.{sym, arith}
use mathlib.Core.List.{List, ◌∷◌, ◌++◌, zip, zip_with, flat_map, append-nil}
use Rattle.std.proofs.Math.ListN.{length}
use Rattle.rules.specs.Limits.{names_length, strings_length, bits_length, wires_length, rows_length}
use Rattle.rules.specs.Tokens.{Name}
use Rattle.rules.specs.Statements.{Statement, Wire, wire-stmt, contents, code, statements_open}
use Rattle.rules.specs.Judgement.{Past}
use Rattle.rules.specs.Session.{Rename}
use Rattle.rules.specs.Layout.{Rooms, Used, used, padded, row, columns, name_bytes, bytes_of_string, bit_codes, wire_row, wire_rows, statement_row, put, rename_row, put_rename, put_renames, rooms, memory, layout}
use Rattle.lists.specs.Lists.{keeps-behind, flat_map-append, flat_map-snoc}
use Rattle.tables.specs.Flat.{flat, length-flat}
use Rattle.wires.specs.Rows.{column}
use Rattle.wires.specs.RowLaws.{length-wire-row, RowIs}
use Rattle.netlist.specs.Rows.{kind_at}
use Rattle.netlist.specs.RowLaws.{length-statement-row, row-kind}
use Rattle.netlist.specs.Laid.{rooms_of, Laid, Wired}
use Rattle.netlist.specs.LaidLaws.{length-rows, eights-rows, without-renames}
use Rattle.netlist.specs.WireLaws.{eights-wires}
use Rattle.netlist.specs.Spans.{starts_first, starts-has, starts_more, starts-padded, has-columns}
use Rattle.netlist.specs.Tables.{Tables, tables_in}
use Rattle.netlist.specs.Fronts.{Fronts, Parts, Stands}

-- rows of eight columns
module _ (ss : Past) where
  wires-long : 8 * length (rooms_of ss).wires ≡ length (flat (rooms_of ss).wires)
  wires-long = sym (length-flat (rooms_of ss).wires (eights-wires ss))

  rows_long : 8 * length (rooms_of ss).rows ≡ length (flat (rooms_of ss).rows)
  rows_long = sym (length-flat (rooms_of ss).rows (eights-rows ss))

module _ {t : Tables} where
  module _ {R : Rooms} (f : Fronts R t) where
    pub fronts-laid : Laid R t.names t.rows
    fronts-laid = record { names-start = f.names-start; rows_start = f.rows_start }

    pub fronts-wired : Wired R t.names t.wires
    fronts-wired = record { names-start = f.names-start; wires-start = f.wires-start }

  fronts-rename : (R : Rooms) (r : Rename) → Fronts (put_rename R r) t → Fronts R t
  unfolding put_rename
  fronts-rename R r f =
      record {
        names-start = starts_first t.names R.names r.new_name f.names-start;
        strings-start = f.strings-start;
        bits-start = f.bits-start;
        wires-start = f.wires-start;
        rows_start = starts_first t.rows (flat R.rows) (rename_row (length R.names) r) (rw flat_map-snoc at f.rows_start);
      }

  pub fronts-renames : (R : Rooms) (rs : List Rename) → Fronts (put_renames R rs) t → Fronts R t
  fronts-renames = without-renames (λ R. Fronts R t) fronts-rename

  -- the last of the statements so far
  module _ (s : Statement) (ss : Past) where
    pub fronts-before : Fronts (rooms_of (s ∷ ss)) t → Fronts (rooms_of ss) t
    unfolding rooms_of put
    fronts-before f =
        let R = rooms_of ss in
        record {
          names-start = starts_first t.names R.names (name_bytes s) f.names-start;
          strings-start = starts_first t.strings R.strings (bytes_of_string s) f.strings-start;
          bits-start = starts_first t.bits R.bits (bit_codes s) f.bits-start;
          wires-start = starts_first t.wires (flat R.wires) (flat (wire_rows (used R) s)) (rw flat_map-append at f.wires-start);
          rows_start = starts_first t.rows (flat R.rows) (statement_row (used R) s) (rw flat_map-snoc at f.rows_start);
        }

    pub fronts-stand : Fronts (rooms_of (s ∷ ss)) t → Stands t (used (rooms_of ss)) s
    unfolding rooms_of put used
    fronts-stand f =
        let R = rooms_of ss in
        record {
          parts = record {
            names-has = starts-has t.names R.names (name_bytes s) (length R.names) refl f.names-start;
            strings-has = starts-has t.strings R.strings (bytes_of_string s) (length R.strings) refl f.strings-start;
            bits-has = starts-has t.bits R.bits (bit_codes s) (length R.bits) refl f.bits-start;
            wires-has = starts-has t.wires (flat R.wires) (flat (wire_rows (used R) s)) (8 * length R.wires) (wires-long ss) (rw flat_map-append at f.wires-start);
          };
          row = starts-has t.rows (flat R.rows) (statement_row (used R) s) (8 * length R.rows) (rows_long ss) (rw flat_map-snoc at f.rows_start);
        }

    pub stand-fronts : Fronts (rooms_of ss) t → Stands t (used (rooms_of ss)) s → Fronts (rooms_of (s ∷ ss)) t
    unfolding rooms_of put used
    stand-fronts f h =
        let R = rooms_of ss in
        let p = h.parts in
        record {
          names-start = starts_more t.names R.names (name_bytes s) (length R.names) refl f.names-start p.names-has;
          strings-start = starts_more t.strings R.strings (bytes_of_string s) (length R.strings) refl f.strings-start p.strings-has;
          bits-start = starts_more t.bits R.bits (bit_codes s) (length R.bits) refl f.bits-start p.bits-has;
          wires-start = rw flat_map-append (starts_more t.wires (flat R.wires) (flat (wire_rows (used R) s)) (8 * length R.wires) (wires-long ss) f.wires-start p.wires-has);
          rows_start = rw flat_map-snoc (starts_more t.rows (flat R.rows) (statement_row (used R) s) (8 * length R.rows) (rows_long ss) f.rows_start h.row);
        }

    pub stand-row : Stands t (used (rooms_of ss)) s → RowIs t.rows (length ss) (statement_row (used (rooms_of ss)) s)
    unfolding used
    stand-row h = rw (← length-rows ss) (has-columns t.rows (length (rooms_of ss).rows) (statement_row (used (rooms_of ss)) s) (length-statement-row (used (rooms_of ss)) s) h.row)

    pub fronts-row : Fronts (rooms_of (s ∷ ss)) t → RowIs t.rows (length ss) (statement_row (used (rooms_of ss)) s)
    fronts-row f = stand-row (fronts-stand f)

    pub fronts-kind : Fronts (rooms_of (s ∷ ss)) t → kind_at t.rows (length ss) ≡ code (contents s).kind
    fronts-kind f = row-kind t.rows (length ss) (used (rooms_of ss)) s (fronts-row f)

  pub fronts-behind : (xs ss : Past) → Fronts (rooms_of (xs ++ ss)) t → Fronts (rooms_of ss) t
  fronts-behind = keeps-behind (λ qs. Fronts (rooms_of qs) t) fronts-before

  -- a wire's row of the table of statements holds the number of its row of the table of wires
  pub fronts-wire : (w : Wire) (n : Name) (ss : Past) → Fronts (rooms_of (wire-stmt w n ∷ ss)) t → column t.rows (length ss) 3 ≡ length (rooms_of ss).wires
  unfolding statement_row row padded used columns statements_open
  fronts-wire w n ss f = fronts-row (wire-stmt w n) ss f 3 (omega arith)

-- the design memory begins with what is stored in it
pub fronts-layout : (ss : List Statement) (rs : List Rename) → Fronts (rooms ss rs) (tables_in (layout ss rs))
unfolding layout memory
fronts-layout ss rs =
    let R = rooms ss rs in
    record {
      names-start = starts-padded names_length R.names;
      strings-start = starts-padded strings_length R.strings;
      bits-start = starts-padded bits_length R.bits;
      wires-start = starts-padded wires_length (flat R.wires);
      rows_start = starts-padded rows_length (flat R.rows);
    }

-- the row of a wire in the table of wires
pub parts-wire : {names strings bits wires : List ℕ} (u : Used) (w : Wire) (n : Name) → Parts names strings bits wires u (wire-stmt w n) → RowIs wires u.wires (wire_row u (n, w))
unfolding wire_rows zip zip_with flat_map statements_open
parts-wire {names} {strings} {bits} {wires} u w n p = has-columns wires u.wires (wire_row u (n, w)) (length-wire-row u (n, w)) (rw append-nil at p.wires-has)
