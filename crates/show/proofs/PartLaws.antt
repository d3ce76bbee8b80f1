-- The bytes in the parts are those that the rows give, and each part lies in its table.
-- Assumes nothing.
use Prim.Native.Nat.{ℕ, zero, suc, ◌+◌, ◌-◌, ◌≤◌, ◌<◌}
use mathlib.Core.Path.{◌≡◌, refl, sym, ap, ◌∙◌}
use mathlib.Core.List.{List, [], ◌∷◌}
use mathlib.Core.Bool.{cond, true, false}
use mathlib.Core.Logic.{◌⊎◌, inl, inr}
use native.Mathlib.Numerals.{add-one}
use native.Mathlib.Omega.{arith}
use lib.Dec.{eqb, leb, ltb}
use lib.ListN.{length, get_or, take, drop, length-drop}
use lib.Seq.{slice, drop-cons, length-take-le}
use borrow.Author.Tests.{ltb-true, ltb-false, leb-true, leb-false}
use Rattle.rules.specs.Bytes.{byte}
use Rattle.rules.specs.Session.{plain_name, or_else}
use Rattle.lists.specs.Tests.{by_cond, by-test}
use Rattle.scanner.specs.declared.parts.Span.{Span}
use Rattle.scanner.proofs.RunLaws.{cut-none, cut-part}
use Rattle.wires.specs.Rows.{column, span_at}
use Rattle.wire_names.specs.Now.{last_rename, name_now}
use Rattle.wire_names.specs.NowLaws.{name_by, name_by_lem}
use Rattle.show.specs.Rows.{wire_line, hdlname_row, text_at, shown_name}
use Rattle.show.specs.Parts.{part, cut_of, span_part, text_part, part_by, name_part, plain_part, shown_of, shown_part, bytes_at, Lies}
use Rattle.show.specs.declared.Shown.{Shown}

-- these bytes are that part of a table
abbrev pub PartIs : (table bytes : List ℕ) → Span → Type 0
PartIs t xs p = (p.start ≤ p.end) × (p.end ≤ length t) × (take (p.end - p.start) (drop p.start t) ≡ xs)

module _ (t : List ℕ) where
  no-part : PartIs t [] (part 0 0)
  no-part = (omega arith, omega arith, refl)

  cut-is : (s e : ℕ) → PartIs t (slice s e t) (cut_of t s e)
  unfolding cut_of
  cut-is s e =
      let stop : ℕ = cond (ltb e (length t)) e (length t) in
      let came : (stop ≡ e) ⊎ ((length t ≤ e) × (stop ≡ length t)) =
      by-test (ltb e (length t)) (λ q. inl (rw q)) (λ q. inr (ltb-false _ _ q, rw q)) in
      let le : stop ≤ length t = by_cond (λ (n : ℕ). n ≤ length t) (ltb e (length t)) (λ q. omega (arith, ltb-true e (length t) q)) (λ q. omega arith) in
      by_cond (PartIs t (slice s e t)) (leb stop s)
      (λ q. (omega arith, omega arith, cut-none s e stop t came (leb-true _ _ q)))
      (λ q. (omega (arith, leb-false stop s q), le, cut-part s e stop t came))

  span-is : (rows : List ℕ) (k c : ℕ) → PartIs t (span_at t rows k c) (span_part t rows k c)
  unfolding span_at span_part
  span-is rows k c = cut-is (column rows k c) (column rows k c + column rows k (c + 1))

  text-is : (rows : List ℕ) (behind : ℕ) → PartIs t (text_at t rows behind) (text_part t rows behind)
  unfolding text_at text_part
  text-is rows zero = no-part
  text-is rows (suc k) = by-test (eqb (column rows k 3) 3) (λ q. rw q (span-is rows k 4)) (λ q. rw q no-part)

module _ (names wires rows : List ℕ) (from count m n k : ℕ) where
  by_last : (last : ℕ) → PartIs names (name_by names wires rows from k last) (part_by names wires rows from k last)
  unfolding name_by part_by
  by_last zero = span-is names wires k 1
  by_last (suc j) = span-is names rows (from + j) 1

  pub name-is : PartIs names (name_now names wires rows from count m n k) (name_part names wires rows from count m n k)
  unfolding name_part
  name-is = rw (name_by_lem names wires rows from m n k count) (by_last (last_rename rows from count m n))

-- WITHOUT THE `\\` OF A PUBLIC NAME
module _ (names : List ℕ) (p : Span) (h : p.end ≤ length names) where
  part-cons : p.start < p.end → take (p.end - p.start) (drop p.start names) ≡ get_or names p.start 0 ∷ take (p.end - (p.start + 1)) (drop (p.start + 1) names)
  part-cons b =
      let e : p.end - p.start ≡ suc (p.end - (p.start + 1)) = omega arith in
      rw (e, drop-cons names p.start 0 (omega arith), add-one)

  abbrev bytes : List ℕ
  bytes = take (p.end - p.start) (drop p.start names)

  plain-public : p.start < p.end → eqb (get_or names p.start 0) (byte "\\") ≡ true → take (p.end - (p.start + 1)) (drop (p.start + 1) names) ≡ plain_name bytes
  unfolding plain_name
  plain-public b e = rw (part-cons b, e)

  plain_other : p.start < p.end → eqb (get_or names p.start 0) (byte "\\") ≡ false → bytes ≡ plain_name bytes
  unfolding plain_name
  plain_other b e = rw (part-cons b, e)

  plain-none : p.end ≤ p.start → bytes ≡ plain_name bytes
  unfolding plain_name
  plain-none b = let e : p.end - p.start ≡ 0 = omega arith in rw e

  plain-is : p.start ≤ p.end → PartIs names (plain_name bytes) (plain_part names p)
  unfolding plain_part
  plain-is b =
      by-test (ltb p.start p.end)
      (λ q.
      let l : p.start < p.end = ltb-true p.start p.end q in
      by-test (eqb (get_or names p.start 0) (byte "\\"))
      (λ e. rw (q, e) (omega arith, h, plain-public l e))
      (λ e. rw (q, e) (b, h, plain_other l e)))
      (λ q. rw q (b, h, plain-none (ltb-false p.start p.end q)))

-- THE STRING, OR THE NAME
else-first : (xs ys : List ℕ) → 0 < length xs → xs ≡ or_else xs ys
unfolding or_else
else-first [] ys h = absurd (omega arith)
else-first (x ∷ xs) ys h = refl

else-second : (xs ys : List ℕ) → length xs ≡ 0 → ys ≡ or_else xs ys
unfolding or_else
else-second [] ys h = refl
else-second (x ∷ xs) ys h = absurd (omega arith)

module _ (names strings xs ys : List ℕ) (t p : Span) (ht : PartIs strings xs t) (hp : PartIs names ys p) where
  text-length : length xs ≡ t.end - t.start
  text-length = ap length (sym ht.2) ∙ length-take-le (t.end - t.start) (drop t.start strings) (omega (arith, length-drop t.start strings, ht.1))

  abbrev Is : Shown → Type 0
  Is r = Lies names strings r × (bytes_at names strings r ≡ or_else xs ys)

  shown_of_lem : Is (shown_of t p)
  unfolding shown_of bytes_at
  shown_of_lem =
      by_cond Is (ltb t.start t.end)
      (λ q. ((ht.0, ht.1), ht.2 ∙ else-first xs ys (omega (arith, text-length, ltb-true t.start t.end q))))
      (λ q. ((hp.0, hp.1), hp.2 ∙ else-second xs ys (omega (arith, text-length, ltb-false t.start t.end q))))

module _ (names strings wires rows : List ℕ) (from count m n k : ℕ) where
  abbrev Shows : Shown → Type 0
  Shows r = Lies names strings r × (bytes_at names strings r ≡ shown_name names strings wires rows from count m n k)

  pub shown-part : Shows (shown_part names strings wires rows from count m n k)
  unfolding shown_part shown_name
  shown-part =
      let q : PartIs names (name_now names wires rows from count m n k) (name_part names wires rows from count m n k) = name-is names wires rows from count m n k in
      let p : Span = name_part names wires rows from count m n k in
      let e = plain-is names p q.1 q.0 in
      shown_of_lem names strings _ _ _ _ (text-is strings rows (hdlname_row names rows (wire_line rows from k) 0)) (e.0, e.1, e.2 ∙ ap plain_name q.2)
