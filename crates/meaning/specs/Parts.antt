-- A written value, and a written wire or part of one, means the bits that it was written from, and its parts keep the rules.
-- Assumes nothing.
use Prim.Native.Nat.{ℕ, ◌+◌, ◌-◌, ◌<◌, ◌≤◌}
use Rattle.std.specs.Prelude.{◌≡◌, Bool, true, cond, ◌&&◌, pos, eqb, leb, drop}
use Rattle.std.proofs.Math.Path.{refl, sym, ap, ap₂}
use Rattle.std.proofs.Common.{◌∙◌}
use mathlib.Core.List.{List, map, Option-to_list}
use Rattle.std.proofs.Math.Option.{none, some, Option-elim}
use native.Mathlib.Omega.{arith}
use Rattle.std.proofs.Math.ListN.{length, take, length-reverse, length-map}
use borrow.Author.Tests.{eqb-true, lt-ltb, le-leb}
use Rattle.rules.specs.Bytes.{all}
use Rattle.rules.specs.Tokens.{Digit}
use Rattle.rules.specs.Statements.{Sig, wire, slice, digit, Signal}
use Rattle.rules.specs.Numbers.{int32, good_literal, good_numbers}
use Rattle.rules.specs.Signals.{Wires, literal_width, wire_bits, inside, span, width, bits, declared_wire, good_slice, parts}
use Rattle.rules.specs.Text.{Run, digits, cut, run_sig}
use Rattle.lists.specs.Tests.{by_cond}
use Rattle.lists.specs.Lists.{length-wire}
use Rattle.meaning.specs.Wires.{Located}
use Rattle.meaning.specs.Bits.{fill-all, part-wire, lower-is}

-- a part of a signal that no rule refuses
unfoldable pub good_part : Wires → Sig → Bool
good_part ws s = good_numbers s && declared_wire ws s && good_slice ws s && leb (width ws s) 2048

-- a signal that means these bits
pub record Means (ws : Wires) (s : Sig) (bs : Signal) : Type 0 where
  pub same_bits : bits ws s ≡ bs
  pub same_width : width ws s ≡ length bs
  pub good-parts : all (good_part ws) (parts s) ≡ true

-- ---- a value

pub digits-mean : (ws : Wires) (ds : List Digit) → length ds ≤ 2048 → Means ws (run_sig ws (digits ds)) (map digit ds)
unfolding run_sig bits width literal_width parts all good_part good_numbers good_literal declared_wire good_slice
digits-mean ws ds h =
    record {
      same_bits = ap (map digit) (fill-all ds);
      same_width = sym (length-map ds digit);
      good-parts = rw (length-reverse, le-leb (length ds) 2048 h, le-leb (length ds) (length ds) (omega arith));
    }

-- ---- a wire, or a part of one

module _ (ws : Wires) (w l n : ℕ) (v : Located ws w) (h : 0 < n) (k : l + n ≤ v.wire.1.width) where
  abbrev whole : Sig
  whole = wire v.wire.0

  abbrev part : Sig
  part = slice whole (pos (l + n - 1)) (cond (eqb n 1) none (some (pos l)))

  whole-bits : bits ws whole ≡ wire_bits w 0 v.wire.1.width
  unfolding bits Option-elim
  whole-bits = rw v.named

  whole-width : width ws whole ≡ v.wire.1.width
  unfolding width Option-elim
  whole-width = rw v.named

  whole-good : good_part ws whole ≡ true
  unfolding good_part good_numbers declared_wire good_slice Option-elim
  whole-good = rw (whole-width, v.named) (le-leb v.wire.1.width 2048 v.narrow)

  wire-means : n ≡ v.wire.1.width → Means ws whole (wire_bits w l n)
  unfolding parts all
  wire-means e =
      record {
        same_bits = whole-bits ∙ ap₂ (wire_bits w) (let z : 0 ≡ l = omega arith in z) (sym e);
        same_width = whole-width ∙ sym e ∙ sym (length-wire w l n);
        good-parts = rw whole-good;
      }

  low-32 : all int32 (Option-to_list (cond (eqb n 1) none (some (pos l)))) ≡ true
  unfolding all int32 Option-to_list
  low-32 = by_cond (λ o. all int32 (Option-to_list o) ≡ true) (eqb n 1) (λ t. refl) (λ t. rw (lt-ltb l 2147483648 (omega (arith, v.narrow))))

  part-width : width ws part ≡ n
  unfolding width span
  part-width = rw (lower-is l n h) (omega arith)

  part-good : good_part ws part ≡ true
  unfolding good_part good_numbers declared_wire good_slice inside int32
  part-good =
      rw (low-32, part-width, lower-is l n h, whole-width, lt-ltb (l + n - 1) 2147483648 (omega (arith, v.narrow)), le-leb l (l + n - 1) (omega arith), lt-ltb (l + n - 1) v.wire.1.width (omega arith))
      (le-leb n 2048 (omega (arith, v.narrow)))

  part-bits : bits ws part ≡ wire_bits w l n
  unfolding bits span
  part-bits =
      rw (lower-is l n h) (rw whole-bits
      (ap (λ j. take j (drop l (wire_bits w 0 v.wire.1.width))) (let z : l + n - 1 + 1 - l ≡ n = omega arith in z) ∙ part-wire w l n v.wire.1.width k))

  part-means : Means ws part (wire_bits w l n)
  unfolding parts all
  part-means = record { same_bits = part-bits; same_width = part-width ∙ sym (length-wire w l n); good-parts = rw (part-good, whole-good) }

  pub span-means : Means ws (run_sig ws (Run.span w l n)) (wire_bits w l n)
  unfolding run_sig cut
  span-means =
      rw v.dropped
      (by_cond (λ s. Means ws s (wire_bits w l n)) (eqb n v.wire.1.width) (λ t. wire-means (eqb-true n v.wire.1.width t)) (λ t. part-means))
