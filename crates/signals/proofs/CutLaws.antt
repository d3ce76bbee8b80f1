-- A slice of a part of a signal by the bounds of two words, of which one from 2 ^ 31 on is negative; a part moved down.
-- Assumes nothing.
use mathlib.Core.Path.{◌≡◌, refl, sym, ap, ap₂, ◌∙◌}
use mathlib.Core.Bool.{true, false, and-false}
use mathlib.Core.List.{List, [], ◌∷◌, Option-to_list}
use mathlib.Core.Option.{Option}
use Prim.Native.Nat.{ℕ, ◌+◌, ◌-◌, ◌<◌, ◌≤◌}
use native.Mathlib.Omega.{arith}
use lib.Dec.{leb}
use lib.IntN.{ℤ, pos, negsuc, nat_abs}
use lib.ListN.{length, take, drop}
use lib.Seq.{slice, length-slice}
use borrow.Author.Tests.{lt-ltb, le-ltb, le-leb, lt-leb}
use Rattle.rules.specs.Bytes.{all}
use Rattle.rules.specs.Statements.{Sig, Signal}
use Rattle.rules.specs.Signals.{Wires, width, bits, inside, lower, span, declared_wire, good_slice, parts}
use Rattle.rules.specs.Numbers.{int32, good_numbers}
use Rattle.numbers.specs.Signed.{signed_of}
use Rattle.numbers.specs.SignedLaws.{by-half, signed-int32}
use Rattle.lists.specs.Tests.{by-test}
use Rattle.lists.specs.Parts.{slice-within}
use Rattle.slices.specs.Slices.{taking, slice-slice}
use Rattle.tables.specs.Store.{store, store-slice}
use Rattle.faults.specs.Faults.{faults, fault, merge, too_wide}
use Rattle.signals.specs.Held.{PartOf, Inside, CutIs, MovedIs}
use Rattle.signals.specs.declared.Part.{Part}
use Rattle.faults.proofs.FaultLaws.{merge-zero, late-merge, too-wide-late, wide-zero, faults-front, own-slice, own-width}
use Rattle.signals.proofs.HeldLaws.{parted, part-not, kept_same, kept_store}

-- ---- bounds

pub inside-negative : (w high : ℕ) (z : ℤ) → 2147483648 ≤ high → inside w (signed_of high) z ≡ false
unfolding inside signed_of
inside-negative w high (pos n) h = rw (le-ltb high 2147483648 h)
inside-negative w high (negsuc n) h = rw (le-ltb high 2147483648 h)

module _ (w high low : ℕ) (h : high < 2147483648) where
  pub high_is : signed_of high ≡ pos high
  unfolding signed_of
  high_is = rw (lt-ltb high 2147483648 h)

  pub inside_past : w ≤ high → inside w (signed_of high) (signed_of low) ≡ false
  unfolding inside
  inside_past l = rw high_is (by-half (λ z. inside w (pos high) z ≡ false) low (λ b. rw (le-ltb high w l) (and-false (leb low high))) (λ b. refl))

  pub inside-crossed : high < low → inside w (signed_of high) (signed_of low) ≡ false
  unfolding inside
  inside-crossed l = rw high_is (by-half (λ z. inside w (pos high) z ≡ false) low (λ b. rw (lt-leb low high l)) (λ b. refl))

module _ (w high low : ℕ) (h : high < 2147483648) (l : low ≤ high) where
  pub low-is : signed_of low ≡ pos low
  low-is = high_is w low high (omega arith)

  pub inside-so : high < w → inside w (signed_of high) (signed_of low) ≡ true
  unfolding inside
  inside-so k = rw (high_is w high low h, low-is, le-leb low high l, lt-ltb high w k)

  pub span-is : span (signed_of high) (signed_of low) ≡ high + 1 - low
  unfolding span
  span-is = rw (high_is w high low h, low-is)

-- a part that breaks rule k stays where it was
pub stays : (p : Part) (k n : ℕ) → 0 < k → n ≡ merge k p.bits.fault → Inside p (parted p.bits.width n p.low)
stays p k n h q =
    record { within = omega arith; none = λ g. absurd (let w : k ≡ 0 = (merge-zero k p.bits.fault (sym q ∙ g)).0 in omega arith) }

-- ---- the slice

module _ (ws : Wires) (whole s : Sig) (z : Option ℤ) (p : Part) (high low : ℕ) (el : lower (signed_of high) z ≡ signed_of low) (ez : all int32 (Option-to_list z) ≡ true) (H : PartOf ws whole s p) where
  abbrev cutting : Sig
  cutting = Sig.slice s (signed_of high) z

  good : good_numbers cutting ≡ true
  unfolding good_numbers
  good = rw (signed-int32 high, ez)

  there : declared_wire ws cutting ≡ true
  unfolding declared_wire
  there = refl

  slice_is : good_slice ws cutting ≡ inside (width ws s) (signed_of high) (signed_of low)
  unfolding good_slice
  slice_is = ap (inside (width ws s) (signed_of high)) el

  -- the part's own number
  abbrev own : ℕ
  own = faults ws (cutting ∷ [])

  own-late : 0 < own → 10 ≤ own
  own-late =
      by-test (good_slice ws cutting)
      (λ e. let q : own ≡ too_wide (width ws cutting) = own-width ws cutting good there e in λ h. let k : 10 ≤ too_wide (width ws cutting) = too-wide-late (width ws cutting) (omega arith) in omega arith)
      (λ e h. let q : own ≡ 10 = own-slice ws cutting good there e in omega arith)

  front-fault : fault ws cutting ≡ merge own p.bits.fault
  unfolding fault parts
  front-fault = faults-front ws cutting (parts s) ∙ ap (merge own) H.refused

  pub outside-fault : inside p.bits.width (signed_of high) (signed_of low) ≡ false → fault ws cutting ≡ merge 10 p.bits.fault
  outside-fault e =
      front-fault
      ∙ late-merge own 10 p.bits.fault own-late (λ h. omega arith)
      (λ m. own-slice ws cutting good there (slice_is ∙ ap (λ (w : ℕ). inside w (signed_of high) (signed_of low)) (H.wide m) ∙ e))

  pub inside-fault : inside p.bits.width (signed_of high) (signed_of low) ≡ true → fault ws cutting ≡ merge (too_wide (width ws cutting)) p.bits.fault
  inside-fault e =
      front-fault
      ∙ late-merge own (too_wide (width ws cutting)) p.bits.fault own-late (too-wide-late (width ws cutting))
      (λ m. own-width ws cutting good there (slice_is ∙ ap (λ (w : ℕ). inside w (signed_of high) (signed_of low)) (H.wide m) ∙ e))

  pub cutting-width : width ws cutting ≡ span (signed_of high) (signed_of low)
  unfolding width
  cutting-width = ap (span (signed_of high)) el

  pub outside-part : (n : ℕ) → n ≡ merge 10 p.bits.fault → inside p.bits.width (signed_of high) (signed_of low) ≡ false → PartOf ws whole cutting (parted p.bits.width n p.low)
  outside-part n q e =
      part-not ws whole cutting p.bits.width p.low 10 p.bits.fault n (omega arith) (omega arith) q (outside-fault e)

  module _ (h : high < 2147483648) (k : high < p.bits.width) (l : low ≤ high) where
    wide_is : width ws cutting ≡ high + 1 - low
    wide_is = cutting-width ∙ span-is p.bits.width high low h l

    cutting-taking : bits ws cutting ≡ bits ws (taking s high low)
    unfolding bits lower
    cutting-taking =
        ap (λ (y : ℤ). take (span (signed_of high) y) (drop (nat_abs y) (bits ws s))) el
        ∙ ap₂ (λ (x y : ℤ). take (span x y) (drop (nat_abs y) (bits ws s))) (high_is p.bits.width high low h) (low-is p.bits.width high low h l)

    -- the part is one slice of the whole, and a slice of that slice is one as well
    part-taking : p.bits.fault ≡ 0 → bits ws s ≡ bits ws (taking whole (p.low + p.bits.width - 1) p.low)
    unfolding bits span lower
    part-taking e =
        H.taken e
        ∙ ap (λ (n : ℕ). take n (drop p.low (bits ws whole))) (let q : p.bits.width ≡ p.low + p.bits.width - 1 + 1 - p.low = omega arith in q)

    cutting-taken : p.bits.fault ≡ 0 → bits ws cutting ≡ take (high + 1 - low) (drop (p.low + low) (bits ws whole))
    unfolding bits span lower
    cutting-taken e =
        cutting-taking
        ∙ ap (λ (y : Signal). take (high + 1 - low) (drop low y)) (part-taking e)
        ∙ slice-slice ws whole (p.low + p.bits.width - 1) p.low high low l (omega arith)
        ∙ ap (λ (n : ℕ). take n (drop (p.low + low) (bits ws whole))) (let q : p.low + high + 1 - (p.low + low) ≡ high + 1 - low = omega arith in q)

    pub inside-part : (n : ℕ) → n ≡ merge (too_wide (high + 1 - low)) p.bits.fault → PartOf ws whole cutting (parted (high + 1 - low) n (p.low + low))
    inside-part n en =
        record {
          refused = inside-fault (inside-so p.bits.width high low h l k) ∙ ap (λ (w : ℕ). merge (too_wide w) p.bits.fault) wide_is ∙ sym en;
          wide = λ e. wide_is;
          taken = λ e. cutting-taken (wide-zero (high + 1 - low) p.bits.fault n en e).1;
        }

-- ---- what `cut` promises

module _ (p : Part) (high low n : ℕ) where
  pub cut-outside : n ≡ merge 10 p.bits.fault → inside p.bits.width (signed_of high) (signed_of low) ≡ false → CutIs p high low (parted p.bits.width n p.low)
  cut-outside q e =
      record {
        part = λ ws whole s z el ez H. outside-part ws whole s z p high low el ez H n q e;
        inside = stays p 10 n (omega arith) q;
      }

  pub cut_inside : n ≡ merge (too_wide (high + 1 - low)) p.bits.fault → high < 2147483648 → high < p.bits.width → low ≤ high → CutIs p high low (parted (high + 1 - low) n (p.low + low))
  cut_inside en h k l =
      record {
        part = λ ws whole s z el ez H. inside-part ws whole s z p high low el ez H h k l n en;
        inside = record { within = omega arith; none = λ e. (wide-zero (high + 1 - low) p.bits.fault n en e).1 };
      }

-- ---- what `move_part` promises

module _ (o w : ℕ) (p : Part) (out : List ℕ) where
  pub moved-not : (p.bits.fault ≡ 0 → ⊥) → MovedIs o w p out out
  moved-not z = record { kept = kept_same o out; moved = λ e. absurd (z e) }

  module _ (x : ℕ) (ex : x ≡ w - (p.low + p.bits.width)) (l : p.low + p.bits.width ≤ w) where
    part-words : slice (o + x) (o + x + p.bits.width) out ≡ take p.bits.width (drop (w - (p.low + p.bits.width)) (slice o (o + w) out))
    part-words = slice-within out o w x p.bits.width (omega arith) ∙ ap (λ (k : ℕ). take p.bits.width (drop k (slice o (o + w) out))) ex

    pub moved-still : x ≡ 0 → MovedIs o w p out out
    moved-still z =
        record {
          kept = kept_same o out;
          moved = λ e. ap (λ (k : ℕ). slice k (k + p.bits.width) out) (let q : o ≡ o + x = omega arith in q) ∙ part-words;
        }

    pub moved_down : (out' : List ℕ) → o + w ≤ length out → out' ≡ store out o (slice (o + x) (o + x + p.bits.width) out) → MovedIs o w p out out'
    moved_down out' room q =
        let vs : List ℕ = slice (o + x) (o + x + p.bits.width) out in
        let lv : length vs ≡ p.bits.width = length-slice (o + x) (o + x + p.bits.width) out (omega arith) ∙ omega arith in
        let fits : o + length vs ≤ length out = omega arith in
        record {
          kept = kept_store o out out' vs q fits;
          moved = λ e. ap (λ (k : ℕ). slice o (o + k) out') (sym lv) ∙ ap (slice o (o + length vs)) q ∙ store-slice out o vs fits ∙ part-words;
        }
