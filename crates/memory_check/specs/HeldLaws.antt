-- Memory that holds a design: what its tables begin with, how much they use, and that the rest is zero.
-- Assumes nothing.
use Prim.Native.Nat.{ℕ, ◌+◌, ◌*◌, ◌≤◌}
use Rattle.std.specs.Prelude.{◌≡◌, refl, true, false, eqb, get_or}
use Rattle.std.proofs.Math.Path.{sym, ap, ap₂}
use Rattle.std.proofs.Common.{◌∙◌, subst, arith, eqb-true}
use mathlib.Core.List.{List, [], ◌∷◌, reverse}
use Rattle.std.proofs.Math.ListN.{length, take}
use Rattle.std.proofs.Math.Seq.{take-append_seam}
use Rattle.rules.specs.Limits.{most_wires, names_length, strings_length, bits_length, wires_length, rows_length}
use Rattle.rules.specs.Bytes.{within}
use Rattle.rules.specs.Statements.{Statement}
use Rattle.rules.specs.Judgement.{Past}
use Rattle.rules.specs.Design.{design}
use Rattle.rules.specs.Session.{Rename, room_used}
use Rattle.rules.specs.Layout as layouts
use Rattle.rules.specs.Layout.{Rooms, padded, used, put_rename, put_renames, rooms, memory, layout}
use Rattle.tables.specs.Row.{row_at}
use Rattle.tables.specs.Flat.{flat, length-flat}
use Rattle.tables.specs.Padded.{length-padded, padded-behind, padded-rest, is-padded}
use Rattle.lists.specs.Tests.{and-true-left, and-true-right}
use Rattle.wires.specs.Rows.{word_at}
use Rattle.context.specs.Place.{wires_in, place_of}
use Rattle.context.specs.Sizes.{sizes_by, sums_of, Within}
use Rattle.context.specs.declared.place.Place.{Place}
use Rattle.context.specs.declared.sizes.Sizes.{Sizes}
use Rattle.context.proofs.PlaceLaws.{place-rows}
use Rattle.admitted.specs.Admitted.{admitted, closes}
use Rattle.admitted.specs.AdmitLaws.{admitted-few, admitted-within}
use Rattle.admitted.specs.Holds.{Allowed, Holds}
use Rattle.netlist.specs.Spans.{Starts}
use Rattle.netlist.specs.Laid.{rooms_of, Laid, Wired}
use Rattle.netlist.specs.LaidLaws.{laid-renames, eights-rows}
use Rattle.netlist.specs.WireLaws.{eights-wires}
use Rattle.netlist.specs.Used.{used_by}
use Rattle.row_statements.specs.Reads as tables
use Rattle.netlist.specs.Tables.{tables_in}
use Rattle.netlist.specs.Fronts.{Fronts}
use Rattle.netlist.specs.FrontLaws.{fronts-laid, fronts-wired, fronts-renames, fronts-layout}
use Rattle.replay.specs.Begins.{is_statement, Stored}
use Rattle.netlist.specs.UsedLaws.{used-past}
use Rattle.rename_rules.specs.Judged.{Lies}
use Rattle.netlist.specs.RoomLaws.{rooms-file, Kept, renames-keep}
use Rattle.rename_rules.specs.RoomLaws.{room-used}
use Rattle.memory_check.specs.Renamed.{is_rename}
use Rattle.netlist.specs.Lengths.{right_sizes, right_lengths, lengths-exact}
use Rattle.memory_check.specs.Held.{zero_from, rest_zero}
use Rattle.memory_check.specs.AllowedLaws.{allowed-few, allowed-room}
use Rattle.memory_check.specs.RenameLaws.{RowOf, words-rename, laid_next, eights-file, length-file}

-- the tables of a memory as the replay takes them
abbrev pub parts_of : layouts.Memory → tables.PartTables
parts_of m = tables.part_tables m.names m.strings m.bits m.wires

-- WHAT RENAMES LEAVE as it is
file-keeps : (ss : List Statement) (rs : List Rename) → Kept (rooms_of (reverse ss)) (rooms ss rs)
file-keeps ss rs = subst (Kept (rooms_of (reverse ss))) (sym (rooms-file ss rs)) (renames-keep (rooms_of (reverse ss)) rs)

-- HOW MUCH IS USED
pub record Sized (S : Rooms) (p : Place) (u : Sizes) (many : ℕ) : Type 0 where
  pub strings : length S.strings ≡ u.string_bytes
  pub bits : length S.bits ≡ u.value_bits + u.signal_bits
  pub wires : length (flat S.wires) ≡ 8 * p.wires
  pub rows : length (flat S.rows) ≡ 8 * (p.rows + many)

module _ (ss : List Statement) (rs : List Rename) (p : Place) (u : Sizes) (many : ℕ) (ep : place_of (reverse ss) ≡ p) (eu : sums_of (reverse ss) ≡ u) where
  used-is : used (rooms_of (reverse ss)) ≡ used_by p u
  used-is = used-past (reverse ss) ∙ ap₂ used_by ep eu

  pub names-used : length (rooms ss []).names ≡ u.name_bytes
  unfolding used put_renames
  names-used = ap (λ (R : Rooms). length R.names) (rooms-file ss []) ∙ ap (λ (x : layouts.Used). x.names) used-is

  pub sized : length rs ≡ many → Sized (rooms ss rs) p u many
  unfolding used
  sized e =
      let k = file-keeps ss rs in
      let w : length (rooms_of (reverse ss)).wires ≡ p.wires = ap (λ (x : layouts.Used). x.wires) used-is in
      record {
        strings = ap length k.strings ∙ ap (λ (x : layouts.Used). x.strings) used-is;
        bits = ap length k.bits ∙ ap (λ (x : layouts.Used). x.bits) used-is;
        wires = ap (λ (l : List (List ℕ)). length (flat l)) k.wires ∙ length-flat (rooms_of (reverse ss)).wires (eights-wires (reverse ss)) ∙ ap (λ (n : ℕ). 8 * n) w;
        rows = length-flat (rooms ss rs).rows (eights-file ss rs) ∙ ap (λ (n : ℕ). 8 * n) (length-file ss rs ∙ ap₂ ◌+◌ (place-rows (reverse ss) ep) e);
      }

-- A MEMORY THAT HOLDS A DESIGN
module _ {m : layouts.Memory} {ss : List Statement} {rs : List Rename} (h : Holds m ss rs) where
  abbrev S : Rooms
  S = rooms ss rs

  pub holds_as : {A : Type 0} (f : layouts.Memory → A) → f (layout ss rs) ≡ f m
  holds_as f = ap f h.is

  pub holds-many : length rs ≡ m.renames
  unfolding layout memory
  holds-many = holds_as (λ x. x.renames)

  pub holds-room : length S.names ≡ m.room
  unfolding layout memory
  holds-room = holds_as (λ x. x.room)

  holds-fronts : Fronts (rooms ss rs) (tables_in m)
  holds-fronts = rw h.is at (fronts-layout ss rs)

  pub holds-laid : Laid (rooms ss rs) m.names m.rows
  holds-laid = fronts-laid holds-fronts

  pub holds-wired : Wired (rooms ss rs) m.names m.wires
  holds-wired = fronts-wired holds-fronts

  -- it fits
  sums-fit : Within (sums_of (reverse ss))
  sums-fit = admitted-within (reverse ss) h.admitted

  in_place : Sized S (place_of (reverse ss)) (sums_of (reverse ss)) (length rs)
  in_place = sized ss rs (place_of (reverse ss)) (sums_of (reverse ss)) (length rs) refl refl refl

  names-fit : length S.names ≤ names_length
  names-fit =
      let e : room_used (design ss) [] ≡ (sums_of (reverse ss)).name_bytes =
      room-used ss [] h.admitted h.closes ∙ names-used ss [] (place_of (reverse ss)) (sums_of (reverse ss)) 0 refl refl in
      let b : room_used (design ss) rs ≤ bits_length = allowed-room (omega (arith, sums-fit.name-bytes)) h.allowed in
      omega (arith, room-used ss rs h.admitted h.closes)

  wires-fit : (place_of (reverse ss)).wires ≤ most_wires
  unfolding place_of wires_in sums_of sizes_by
  wires-fit = sums-fit.wires

  pub holds-sizes : right_lengths m ≡ true
  unfolding layout memory right_lengths right_sizes place_of
  holds-sizes =
      let a : length m.names ≡ names_length = sym (holds_as (λ x. length x.names)) ∙ length-padded names_length S.names names-fit in
      let b : length m.strings ≡ strings_length = sym (holds_as (λ x. length x.strings)) ∙ length-padded strings_length S.strings (omega (arith, in_place.strings, sums-fit.string-bytes)) in
      let c : length m.bits ≡ bits_length = sym (holds_as (λ x. length x.bits)) ∙ length-padded bits_length S.bits (omega (arith, in_place.bits, sums-fit.value-bits, sums-fit.signal-bits)) in
      let d : length m.wires ≡ 4096 = sym (holds_as (λ x. length x.wires)) ∙ length-padded wires_length (flat S.wires) (omega (arith, in_place.wires, wires-fit)) in
      let e : length m.rows ≡ 55560 =
      sym (holds_as (λ x. length x.rows)) ∙ length-padded rows_length (flat S.rows) (omega (arith, in_place.rows, admitted-few (reverse ss) h.admitted, allowed-few h.allowed)) in
      rw (a, b, c, d, e)

  -- what is not used is zero
  rest : (t xs : List ℕ) (n k : ℕ) → padded n xs ≡ t → length xs ≡ k → zero_from t k ≡ true
  unfolding zero_from
  rest t xs n k e l = rw (← e, ← l) (padded-rest n xs)

  pub holds-rest : (p : Place) (u : Sizes) → place_of (reverse ss) ≡ p → sums_of (reverse ss) ≡ u → rest_zero m p u ≡ true
  unfolding rest_zero layout memory
  holds-rest p u ep eu =
      let z = sized ss rs p u m.renames ep eu holds-many in
      rw (
        rest m.names S.names names_length m.room (holds_as (λ x. x.names)) holds-room,
        rest m.strings S.strings strings_length u.string_bytes (holds_as (λ x. x.strings)) z.strings,
        rest m.bits S.bits bits_length (u.value_bits + u.signal_bits) (holds_as (λ x. x.bits)) z.bits,
        rest m.wires (flat S.wires) wires_length (8 * p.wires) (holds_as (λ x. x.wires)) z.wires,
        rest m.rows (flat S.rows) rows_length (8 * (p.rows + m.renames)) (holds_as (λ x. x.rows)) z.rows,
      )

  -- its statements are stored, and behind them stands no other
  fronts : Fronts (rooms_of (reverse ss)) (tables_in m)
  fronts = fronts-renames (rooms_of (reverse ss)) rs (subst (λ (R : Rooms). Fronts R (tables_in m)) (rooms-file ss rs) holds-fronts)

rename-kind : (x : _) (at : ℕ) (q : Rename) → RowOf x at q → x.kind ≡ 14
unfolding is_rename
rename-kind x at q f = eqb-true x.kind 14 (and-true-left (eqb x.kind 14) _ f.is)

kind-ends : (rows : List ℕ) (at : ℕ) → (row_at rows at).kind ≡ 14 → is_statement (word_at rows at) ≡ false
unfolding row_at word_at is_statement within
kind-ends rows at k = rw k

-- behind the statements stands a rename's row or nothing
rows_end :
    (q : Past) (rs : List Rename) (names rows : List ℕ) → Laid (put_renames (rooms_of q) rs) names rows →
    padded rows_length (flat (put_renames (rooms_of q) rs).rows) ≡ rows →
    is_statement (word_at rows (8 * length (rooms_of q).rows)) ≡ false
unfolding put_renames word_at is_statement within
rows_end q [] names rows l e =
    let z : get_or rows (8 * length (rooms_of q).rows) 0 ≡ 0 =
    rw (← e) (padded-behind rows_length (flat (rooms_of q).rows) (8 * length (rooms_of q).rows) (omega (arith, length-flat (rooms_of q).rows (eights-rows q)))) in
    rw z
rows_end q (r ∷ rs) names rows l e =
    let R : Rooms = rooms_of q in
    let n = laid_next R (eights-rows q) r (laid-renames (put_rename R r) rs l) in
    let x = row_at rows (8 * length R.rows) in
    let k : x.kind ≡ 14 = rename-kind x (length R.names) r (words-rename x (length R.names) r n.row) in
    kind-ends rows (8 * length R.rows) k

pub holds-stored : {m : layouts.Memory} {ss : List Statement} {rs : List Rename} → Holds m ss rs → Stored (parts_of m) m.rows (reverse ss)
unfolding layout memory
holds-stored {m} {ss} {rs} h =
    let e : rooms ss rs ≡ put_renames (rooms_of (reverse ss)) rs = rooms-file ss rs in
    record {
      admits = h.admitted;
      closed = h.closes;
      begins = record {
        fronts = fronts h;
        ends = rows_end (reverse ss) rs m.names m.rows (subst (λ (R : Rooms). Laid R m.names m.rows) e (holds-laid h)) (rw e at (holds_as h (λ x. x.rows)));
      };
    }

-- STATEMENTS THAT ARE STORED lie in the tables, without renames and with them
module _ (m : layouts.Memory) (ss : List Statement) (p : Place) (u : Sizes)
    (h : Stored (parts_of m) m.rows (reverse ss)) (ep : place_of (reverse ss) ≡ p) (eu : sums_of (reverse ss) ≡ u) where
  pub stored-lies : Lies m.names m.wires m.rows p 0 u.name_bytes ss []
  unfolding put_renames
  stored-lies =
      let f = h.begins.fronts in
      let e : rooms ss [] ≡ rooms_of (reverse ss) = rooms-file ss [] in
      record {
        admitted = h.admits;
        closes = h.closed;
        laid = rw e (fronts-laid f);
        wired = rw e (fronts-wired f);
        place = ep;
        standing = refl;
        room = names-used ss [] p u 0 ep eu;
      }

  table_is : (t xs : List ℕ) (n k : ℕ) → length xs ≡ k → length t ≡ n → Starts t xs → zero_from t k ≡ true → padded n xs ≡ t
  unfolding zero_from
  table_is t xs n k e l s z = sym (is-padded n k xs t e l (ap₂ take (sym e) s.1 ∙ take-append_seam xs s.0) z)

  pub lies-holds :
      (rs : List Rename) → Lies m.names m.wires m.rows p m.renames m.room ss rs → Allowed (design ss) rs →
      right_lengths m ≡ true →
      rest_zero m p u ≡ true → Holds m ss rs
  unfolding rest_zero layout memory
  lies-holds rs l a s r =
      let z = sized ss rs p u m.renames ep eu l.standing in
      let k = file-keeps ss rs in
      let f = h.begins.fronts in
      let R : Rooms = rooms ss rs in
      let e = lengths-exact m s in
      let r₁ = and-true-right (zero_from m.names m.room) _ r in
      let r₂ = and-true-right (zero_from m.strings u.string_bytes) _ r₁ in
      let r₃ = and-true-right (zero_from m.bits (u.value_bits + u.signal_bits)) _ r₂ in
      let en : padded names_length R.names ≡ m.names =
      table_is m.names R.names names_length m.room l.room e.0 l.laid.names-start (and-true-left _ _ r) in
      let es : padded strings_length R.strings ≡ m.strings =
      table_is m.strings R.strings strings_length u.string_bytes z.strings e.1 (rw k.strings f.strings-start) (and-true-left _ _ r₁) in
      let eb : padded bits_length R.bits ≡ m.bits =
      table_is m.bits R.bits bits_length (u.value_bits + u.signal_bits) z.bits e.2 (rw k.bits f.bits-start) (and-true-left _ _ r₂) in
      let ew : padded wires_length (flat R.wires) ≡ m.wires =
      table_is m.wires (flat R.wires) wires_length (8 * p.wires) z.wires e.3 l.wired.wires-start (and-true-left _ _ r₃) in
      let er : padded rows_length (flat R.rows) ≡ m.rows =
      table_is m.rows (flat R.rows) rows_length (8 * (p.rows + m.renames)) z.rows e.4 l.laid.rows_start (and-true-right (zero_from m.wires (8 * p.wires)) _ r₃) in
      record {
        admitted = h.admits;
        closes = h.closed;
        allowed = a;
        is = λ i. record { names = en i; strings = es i; bits = eb i; wires = ew i; rows = er i; renames = l.standing i; room = l.room i };
      }
