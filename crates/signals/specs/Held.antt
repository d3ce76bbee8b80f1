-- What is promised of a signal whose bits stand in a table of words.
use Rattle.std.specs.Prelude.{ℕ, ◌+◌, ◌-◌, ◌≤◌, ◌<◌, ◌≡◌, true, length, take, drop, ℤ}
use mathlib.Core.List.{List, map, reverse, Option-to_list}
use Rattle.std.proofs.Math.Option.{Option}
use Rattle.std.proofs.Math.Seq.{slice}
use Rattle.rules.specs.Limits.{most_width}
use Rattle.rules.specs.Bytes.{all}
use Rattle.rules.specs.Numbers.{int32}
use Rattle.rules.specs.Statements.{Sig, Signal}
use Rattle.rules.specs.Signals.{Wires, width, bits, lower}
use Rattle.numbers.specs.Signed.{signed_of}
use Rattle.rules.specs.Layout.{bit_code}
use Rattle.faults.specs.Faults.{fault, mild}
use Rattle.signals.specs.declared.Bits.{Bits}
use Rattle.signals.specs.declared.Part.{Part}

-- the codes of bits, highest first
unfoldable pub codes : Signal → List ℕ
codes xs = reverse (map bit_code xs)

-- its number; its width, where it has one; and if its number is 0, its bits' codes from o on, highest first
pub record Held (ws : Wires) (s : Sig) (o : ℕ) (out : List ℕ) (b : Bits) : Type 0 where
  pub refused : fault ws s ≡ b.fault
  pub wide : mild b.fault ≡ true → width ws s ≡ b.width
  pub small : b.fault ≡ 0 → b.width ≤ most_width
  pub coded : b.fault ≡ 0 → slice o (o + b.width) out ≡ codes (bits ws s)

-- what stands below o stays, and so does the table's length
pub record Kept (o : ℕ) (out out' : List ℕ) : Type 0 where
  pub long : length out' ≡ length out
  pub below : take o out' ≡ take o out

-- of a wire or a constant: its width is that of a word
pub record Put (ws : Wires) (s : Sig) (o : ℕ) (out out' : List ℕ) (b : Bits) : Type 0 where
  pub held : Held ws s o out' b
  pub kept : Kept o out out'
  pub few : b.width < 4294967296

-- of a constant, whatever the wires are
abbrev pub PutAny : Sig → ℕ → List ℕ → List ℕ → Bits → Type 0
PutAny s o out out' b = (ws : Wires) → Put ws s o out out' b

-- slices of slices s of a signal: the number of s; its width, where it has one; and if its number is 0, its bits are as many of the
-- signal's, from bit low on
pub record PartOf (ws : Wires) (whole s : Sig) (p : Part) : Type 0 where
  pub refused : fault ws s ≡ p.bits.fault
  pub wide : mild p.bits.fault ≡ true → width ws s ≡ p.bits.width
  pub taken : p.bits.fault ≡ 0 → bits ws s ≡ take p.bits.width (drop p.low (bits ws whole))

-- code can hold the bit behind its last one
abbrev pub InWord : Part → Type 0
InWord p = p.low + p.bits.width < 18446744073709551616

-- a part stays inside what it is a part of, and has no number only if that had none
pub record Inside (p r : Part) : Type 0 where
  pub within : r.low + r.bits.width ≤ p.low + p.bits.width
  pub none : r.bits.fault ≡ 0 → p.bits.fault ≡ 0

-- such a part, whatever it is, sliced by the bounds of two words
pub record CutIs (p : Part) (high low : ℕ) (r : Part) : Type 0 where
  pub part :
      (ws : Wires) (whole s : Sig) (z : Option ℤ) →
      lower (signed_of high) z ≡ signed_of low → all int32 (Option-to_list z) ≡ true →
      PartOf ws whole s p → PartOf ws whole (Sig.slice s (signed_of high) z) r
  pub inside : Inside p r

-- a part without a number stands from o on, where the signal of this width stood
pub record MovedIs (o w : ℕ) (p : Part) (out out' : List ℕ) : Type 0 where
  pub kept : Kept o out out'
  pub moved : p.bits.fault ≡ 0 → slice o (o + p.bits.width) out' ≡ take p.bits.width (drop (w - (p.low + p.bits.width)) (slice o (o + w) out))
