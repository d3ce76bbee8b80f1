-- The wires that a line sees are those in the rows of the table of wires from the module's first one on.
-- Assumes nothing.
use Prim.Native.Nat.{ℕ, zero, suc, ◌+◌, ◌-◌}
use Rattle.std.specs.Prelude.{◌≡◌, take, drop}
use Rattle.std.proofs.Math.Path.{refl, sym, ap₂}
use Rattle.std.proofs.Common.{ap, ◌∙◌}
use mathlib.Core.List.{List, [], ◌∷◌, flat_map, zip, zip_with, append-nil}
use Rattle.std.proofs.Math.Bool.{true}
use native.Mathlib.Omega.{arith}
use Rattle.std.proofs.Math.ListN.{length}
use Rattle.rules.specs.Limits.{names_length, wires_length}
use Rattle.rules.specs.Bytes.{all}
use Rattle.rules.specs.Tokens.{Name}
use Rattle.rules.specs.Statements.{Statement, Wire, wire-stmt, contents, statements_open}
use Rattle.rules.specs.Numbers.{int32}
use Rattle.rules.specs.Signals.{Wires}
use Rattle.rules.specs.Judgement.{Past, wires}
use Rattle.rules.specs.Session.{Rename}
use Rattle.rules.specs.Layout.{Rooms, padded, used, name_bytes, wire_row, wire_rows, put, put_rename, put_renames, memory}
use Rattle.tables.specs.Flat.{flat, Eights}
use Rattle.lists.specs.Tests.{and-true-left}
use Rattle.lists.specs.Lists.{zip-none, flat_map-append}
use Rattle.lists.specs.Elements.{each_append, each-mapped}
use Rattle.wires.specs.Rows.{name_of, wire_of, wires_from}
use Rattle.wires.specs.RowLaws.{length-wire-row, RowIs, row-wire, row-name}
use Rattle.context.specs.Forms.{by-wire}
use Rattle.netlist.specs.LaidLaws.{without-renames}
use Rattle.context.specs.Place.{place_of}
use Rattle.context.specs.Offsets.{fits_offset, Offsets, more-offsets}
use Rattle.context.proofs.PlaceLaws.{bounds, length-all-wires, wires-last}
use Rattle.netlist.specs.Laid.{rooms_of, Wired}
use Rattle.netlist.specs.UsedLaws.{used-wires}
use Rattle.netlist.specs.Spans.{Has, starts_first, starts-has, starts-padded, starts-row}

-- the wires that statements declare, in their order
abbrev pub wires_of : List Statement → Wires
wires_of ss = flat_map (λ s. zip (contents s).names (contents s).wires) ss

no-wires : (s : Statement) (ss : List Statement) → (contents s).wires ≡ [] → wires_of (s ∷ ss) ≡ wires_of ss
unfolding flat_map
no-wires s ss e = rw (e, zip-none (contents s).names)

-- a row for each wire, of eight columns
length-wire-rows : (ss : Past) → length (rooms_of ss).wires ≡ length (wires_of ss)
unfolding place_of
length-wire-rows ss = used-wires ss ∙ sym (length-all-wires ss)

pub eights-wires : (ss : Past) → Eights (rooms_of ss).wires
unfolding rooms_of put wire_rows
eights-wires [] = tt
eights-wires (s ∷ ss) =
    let u = used (rooms_of ss) in
    each_append _ (rooms_of ss).wires _ (eights-wires ss) (each-mapped (wire_row u) _ (length-wire-row u) (zip (contents s).names (contents s).wires))

-- rooms lie in their padded tables; what is appended to the rooms stands behind them
pub wired-padded : (m n : ℕ) (R : Rooms) → Wired R (padded m R.names) (padded n (flat R.wires))
wired-padded m n R = record { names-start = starts-padded m R.names; wires-start = starts-padded n (flat R.wires) }

module _ {names t : List ℕ} (R : Rooms) where
  pub wired-put : (s : Statement) → Wired (put R s) names t → Wired R names t
  unfolding put
  wired-put s l =
      record {
        names-start = starts_first names R.names (name_bytes s) l.names-start;
        wires-start = starts_first t (flat R.wires) (flat (wire_rows (used R) s)) (rw flat_map-append at l.wires-start);
      }

  pub wired-rename : (r : Rename) → Wired (put_rename R r) names t → Wired R names t
  unfolding put_rename
  wired-rename r l = record { names-start = starts_first names R.names r.new_name l.names-start; wires-start = l.wires-start }

  -- the wire of the last statement
  module _ (w : Wire) (n : Name) (l : Wired (put R (wire-stmt w n)) names t) where
    pub wired-row : Eights R.wires → RowIs t (length R.wires) (wire_row (used R) (n, w))
    unfolding put wire_rows zip zip_with statements_open
    wired-row h = starts-row t R.wires (wire_row (used R) (n, w)) h (length-wire-row (used R) (n, w)) l.wires-start

    last_name : take (length n) (drop (length R.names) names) ≡ n
    unfolding put name_bytes flat_map statements_open Has
    last_name = starts-has names R.names n (length R.names) refl (rw append-nil at l.names-start)

    last-wire : (k : ℕ) → Eights R.wires → k ≡ length R.wires → int32 w.offset ≡ true → ◌≡◌ {A = Name × Wire} (name_of names t k, wire_of t k) (n, w)
    unfolding used
    last-wire k h e o =
        rw e
        (ap₂ (λ (a : Name) (b : Wire). (a, b))
        (row-name t (length R.wires) (used R) n w (wired-row h) names last_name)
        (row-wire t (length R.wires) (used R) n w (wired-row h) o))

pub wired-renames : {names t : List ℕ} (R : Rooms) (rs : List Rename) → Wired (put_renames R rs) names t → Wired R names t
wired-renames = without-renames (λ R. Wired R _ _) wired-rename

module _ (names t : List ℕ) where
  -- all wires
  wires-all : (ss : Past) → Offsets ss → Wired (rooms_of ss) names t → wires_from names t 0 (length (wires_of ss)) ≡ wires_of ss
  unfolding rooms_of wires_from flat_map zip zip_with all statements_open
  wires-all [] o l = refl
  wires-all (s ∷ ss) (more-offsets h o) l =
      let k : ℕ = length (wires_of ss) in
      let z : 0 + k ≡ k = omega arith in
      by-wire
      (λ x. fits_offset x ≡ true → Wired (rooms_of (x ∷ ss)) names t → wires_from names t 0 (length (wires_of (x ∷ ss))) ≡ wires_of (x ∷ ss))
      (λ w n g q.
      ap₂ ◌∷◌ (last-wire (rooms_of ss) w n q (0 + k) (eights-wires ss) (z ∙ sym (length-wire-rows ss)) (and-true-left _ true g))
      (wires-all ss o (wired-put (rooms_of ss) (wire-stmt w n) q)))
      (λ x _ e g q. rw (no-wires x ss e) (wires-all ss o (wired-put (rooms_of ss) x q))) s h l

  -- the last ones of all
  wires-from : (first count : ℕ) → wires_from names t first count ≡ take count (wires_from names t 0 (first + count))
  unfolding wires_from
  wires-from first zero = refl
  wires-from first (suc k) =
      let e : first + suc k ≡ suc (first + k) = omega arith in
      let z : 0 + (first + k) ≡ first + k = omega arith in
      rw (e, z) (ap (λ (ws : Wires). (name_of names t (first + k), wire_of t (first + k)) ∷ ws) (wires-from first k))

  pub wires-laid : (ss : Past) → Offsets ss → Wired (rooms_of ss) names t → let p = place_of ss in wires_from names t p.wires_from (p.wires - p.wires_from) ≡ wires ss
  wires-laid ss o l =
      let p = place_of ss in
      let b = bounds ss in
      let e : p.wires_from + (p.wires - p.wires_from) ≡ length (wires_of ss) = omega (arith, length-all-wires ss, b.wires-from) in
      wires-from p.wires_from (p.wires - p.wires_from)
      ∙ ap (λ (c : ℕ). take (p.wires - p.wires_from) (wires_from names t 0 c)) e
      ∙ ap (take (p.wires - p.wires_from)) (wires-all ss o l)
      ∙ sym (wires-last ss)

-- so in design memory, with renames or without
pub wires-past : (ss : Past) (k : ℕ) → Offsets ss → let m = memory (rooms_of ss) k in let p = place_of ss in wires_from m.names m.wires p.wires_from (p.wires - p.wires_from) ≡ wires ss
unfolding memory
wires-past ss k o = wires-laid _ _ ss o (wired-padded names_length wires_length (rooms_of ss))
