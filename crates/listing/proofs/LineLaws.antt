-- A line and the lines of a module, put and measured.
-- Assumes nothing.
use mathlib.Core.Path.{◌≡◌, refl, sym, ap, ap₂, subst, ◌∙◌}
use mathlib.Core.List.{List, [], ◌∷◌, ◌++◌, flat_map}
use Prim.Native.Nat.{ℕ, zero, suc, ◌+◌, ◌-◌, ◌*◌, ◌≤◌, ◌<◌}
use native.Mathlib.Numerals.{add-one}
use native.Mathlib.Omega.{arith}
use lib.ListN.{length, take, drop, set, length-append, length-take, length-drop, length-set}
use borrow.Author.Tests.{lt-ltb, le-ltb}
use Rattle.rules.specs.Judgement.{verdict, lowest}
use Rattle.rules.specs.Plain.{plain_form, low}
use Rattle.lists.specs.Tests.{by_order}
use Rattle.lists.specs.Parts.{slice-le}
use Rattle.tables.specs.Store.{store}
use Rattle.wires.specs.Rows.{column, span_at}
use Rattle.wire_names.specs.Now.{last_rename}
use Rattle.wire_names.specs.NowLaws.{name_by, name_by_lem}
use Rattle.wire_names.specs.declared.Module.{Module}
use Rattle.plain.specs.Put.{PutAt, wrote, flat_map-most, put-kept, put_then}
use Rattle.plain.specs.FormLaws.{form-most, low-most}
use Rattle.scanner.specs.declared.parts.Span.{Span}
use Rattle.show.specs.Parts.{bytes_at, Lies}
use Rattle.show.specs.declared.Shown.{Shown}
use Rattle.show.proofs.PartLaws.{shown-part}
use Rattle.listing.specs.Lines.{name_at, shown_at, place_at, line_at, lines_at, fitted}

-- the bytes of a part are no more than its table's
part-most : (s e : ℕ) (l : List ℕ) → length (take (e - s) (drop s l)) ≤ length l
part-most s e l = omega (arith, length-take (e - s) (drop s l), length-drop s l)

bytes_most : (names strings : List ℕ) (x : Shown) → length (bytes_at names strings x) ≤ length names + length strings
unfolding bytes_at
bytes_most names strings (Shown.Name p) = omega (arith, part-most p.start p.end names)
bytes_most names strings (Shown.Text p) = omega (arith, part-most p.start p.end strings)

name-short : (names wires rows : List ℕ) (from k last : ℕ) → length (name_by names wires rows from k last) ≤ length names
unfolding name_by span_at
name-short names wires rows from k zero = slice-le (column wires k 1) (column wires k 1 + column wires k 2) names
name-short names wires rows from k (suc j) = slice-le (column rows (from + j) 1) (column rows (from + j) 1 + column rows (from + j) 2) names

module _ (names strings wires rows : List ℕ) (m : Module) where
  pub name-most : (w : ℕ) → length (name_at names strings wires rows m w) ≤ length names
  unfolding name_at
  name-most w =
      let k : ℕ = m.first + w in
      rw (name_by_lem names wires rows m.from m.number.0 w k m.renames)
      (name-short names wires rows m.from k (last_rename rows m.from m.renames m.number.0 w))

  -- THE NAME TO SHOW as the part of its table, and as it stands in a line
  module _ (w : ℕ) where
    abbrev place : Shown
    place = place_at names strings wires rows m w

    abbrev bytes : List ℕ
    bytes = shown_at names strings wires rows m w

    bytes-are : Lies names strings place × (bytes_at names strings place ≡ bytes)
    unfolding place_at shown_at
    bytes-are = shown-part names strings wires rows m.from m.renames m.number.0 w (m.first + w)

    pub shown-most : length bytes ≤ length names + length strings
    shown-most = rw (← bytes-are.1) (bytes_most names strings place)

    module _ (x : Shown) (is : x ≡ place) where
      told : (y : Shown) → x ≡ y → Lies names strings y × (bytes_at names strings y ≡ bytes)
      told y e = subst (λ (z : Shown). Lies names strings z × (bytes_at names strings z ≡ bytes)) (sym is ∙ e) bytes-are

      pub name-told :
          (p : Span) → x ≡ Shown.Name p →
          (p.start ≤ p.end) × (p.end ≤ length names) × (take (p.end - p.start) (drop p.start names) ≡ bytes) × (length (take (p.end - p.start) (drop p.start names)) ≤ length names)
      unfolding bytes_at
      name-told p q = let t = told (Shown.Name p) q in (t.0.0, t.0.1, t.1, part-most p.start p.end names)

      pub text-told :
          (p : Span) → x ≡ Shown.Text p →
          (p.start ≤ p.end) × (p.end ≤ length strings) × (take (p.end - p.start) (drop p.start strings) ≡ bytes) × (length (take (p.end - p.start) (drop p.start strings)) ≤ length strings)
      unfolding bytes_at
      text-told p q = let t = told (Shown.Text p) q in (t.0.0, t.0.1, t.1, part-most p.start p.end strings)

  -- A LINE
  pub line-long : (w : ℕ) → length (line_at names strings wires rows m w) ≡ length (plain_form (name_at names strings wires rows m w)) + length (flat_map low (shown_at names strings wires rows m w)) + 2
  unfolding line_at
  line-long w =
      let front : List ℕ = plain_form (name_at names strings wires rows m w) in
      let back : List ℕ = flat_map low (shown_at names strings wires rows m w) in
      let e : length (line_at names strings wires rows m w) ≡ length (front ++ 32 ∷ back) + 1 = length-append (front ++ 32 ∷ back) (10 ∷ []) in
      omega (arith, e, length-append front (32 ∷ back))

  pub line-sum :
      (w a b : ℕ) → a ≡ length (plain_form (name_at names strings wires rows m w)) → b ≡ length (flat_map low (shown_at names strings wires rows m w)) →
      a + 1 + b + 1 ≡ length (line_at names strings wires rows m w)
  line-sum w a b ea eb = omega (arith, line-long w)

  pub line-most : length names ≡ 16384 → length strings ≡ 8192 → (w : ℕ) → length (line_at names strings wires rows m w) ≤ 147459
  line-most hn hs w =
      omega (
        arith,
        line-long w,
        form-most (name_at names strings wires rows m w),
        name-most w,
        flat_map-most low 4 low-most (shown_at names strings wires rows m w),
        shown-most w,
      )

  -- its four pieces, each behind the last
  pub line-put :
      (w at space end : ℕ) {o p q r : List ℕ} → PutAt at (plain_form (name_at names strings wires rows m w)) o p space →
      q ≡ set p space 32 → PutAt (space + 1) (flat_map low (shown_at names strings wires rows m w)) q r end →
      PutAt at (line_at names strings wires rows m w) o (set r end 10) (end + 1)
  unfolding line_at store
  line-put w at space end {o} {p} {q} {r} f e s =
      let blank : PutAt space (32 ∷ []) p q (space + 1) = record { place = refl; stored = e } in
      let line-end : PutAt end (10 ∷ []) r (set r end 10) (end + 1) = record { place = refl; stored = refl } in
      put_then (put_then f (put_then blank s)) line-end

  -- room for each piece
  pub line-room :
      (w at space : ℕ) {o p : List ℕ} → PutAt at (plain_form (name_at names strings wires rows m w)) o p space → at + length (line_at names strings wires rows m w) ≤ length o →
      space + 1 + length (flat_map low (shown_at names strings wires rows m w)) + 1 ≤ length o
  line-room w at space f h = omega (arith, f.place, line-long w)

  pub line-behind :
      (w at space : ℕ) {o p : List ℕ} → PutAt at (plain_form (name_at names strings wires rows m w)) o p space → at + length (line_at names strings wires rows m w) ≤ length o →
      space + 1 + length (flat_map low (shown_at names strings wires rows m w)) ≤ length (set p space 32)
  line-behind w at space {o} {p} f h = omega (arith, line-room w at space f h, put-kept f, length-set p space 32)

  pub line-last :
      (w at space end : ℕ) {o p r : List ℕ} → PutAt at (plain_form (name_at names strings wires rows m w)) o p space → at + length (line_at names strings wires rows m w) ≤ length o →
      PutAt (space + 1) (flat_map low (shown_at names strings wires rows m w)) (set p space 32) r end → (end < length r) × (end + 1 ≤ length o)
  line-last w at space end {o} {p} {r} f h s =
      let room = line-room w at space f h in
      (omega (arith, room, s.place, put-kept s, put-kept f, length-set p space 32), omega (arith, room, s.place))

  -- ALL LINES
  pub lines_more : (w : ℕ) → lines_at names strings wires rows m w ++ line_at names strings wires rows m w ≡ lines_at names strings wires rows m (w + 1)
  unfolding lines_at
  lines_more w = rw add-one

  pub size-more :
      (w size x : ℕ) → size ≡ length (lines_at names strings wires rows m w) → x ≡ length (line_at names strings wires rows m w) →
      size + x ≡ length (lines_at names strings wires rows m (w + 1))
  size-more w size x e q =
      omega (arith, ap length (lines_more w), length-append (lines_at names strings wires rows m w) (line_at names strings wires rows m w))

  pub lines-most : length names ≡ 16384 → length strings ≡ 8192 → (w : ℕ) → length (lines_at names strings wires rows m w) ≤ 147459 * w
  unfolding lines_at
  lines-most hn hs zero = omega arith
  lines-most hn hs (suc w) =
      omega (arith, lines-most hn hs w, line-most hn hs w, length-append (lines_at names strings wires rows m w) (line_at names strings wires rows m w))

  -- the next line has room where all have
  pub lines_fit : (w many : ℕ) → w < many → length (lines_at names strings wires rows m w) + length (line_at names strings wires rows m w) ≤ length (lines_at names strings wires rows m many)
  unfolding lines_at
  lines_fit w zero h = absurd (omega arith)
  lines_fit w (suc many) h =
      let e = length-append (lines_at names strings wires rows m many) (line_at names strings wires rows m many) in
      by_order many w
      (λ k. let q : w ≡ many = omega arith in rw q (omega (arith, e)))
      (λ k. omega (arith, lines_fit w many k, e))

-- THE ROOM for a text
module _ (t old : List ℕ) (size : ℕ) (e : size ≡ length t) where
  pub room-short : length old < size → (12, 0, old) ≡ wrote old (fitted (length old) t)
  unfolding wrote fitted verdict lowest
  room-short h = rw (lt-ltb (length old) (length t) (omega arith))

  pub room-there : {new : List ℕ} {r : ℕ} → size ≤ length old → PutAt 0 t old new r → (0, size, new) ≡ wrote old (fitted (length old) t)
  unfolding wrote fitted verdict lowest
  room-there h w = rw (le-ltb (length old) (length t) (omega arith)) (ap₂ (λ (a : ℕ) (x : List ℕ). (0, a, x)) e w.stored)
