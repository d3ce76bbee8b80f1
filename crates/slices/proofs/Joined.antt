-- Document 02, request 12, of a bit of a slice, and of all slices that a text may have.
-- Assumes nothing.
use Prim.Native.Nat.{ℕ, ◌+◌, ◌-◌, ◌≤◌}
use native.Mathlib.Omega.{arith}
use Rattle.std.specs.Prelude.{◌≡◌, true, ℤ, pos, negsuc}
use Rattle.std.proofs.Math.Path.{ap}
use Rattle.std.proofs.Common.{◌∙◌}
use Rattle.std.proofs.Math.Option.{Option, none}
use Rattle.std.proofs.lemmas.Bool.{false≢true}
use Rattle.std.proofs.Math.IntN.{nat_abs}
use Rattle.rules.specs.Statements.{Sig, slice}
use Rattle.rules.specs.Signals.{Wires, bits, width, span, lower, inside, good_slice}
use Rattle.slices.specs.Slices.{taking, inside-has, slice-slice, joined-inside, one-slice}

module _ (ws : Wires) (s : Sig) where
  pub slice-bit : (h l i : ℕ) → l + i ≤ h → bits ws (slice (taking s h l) (pos i) none) ≡ bits ws (slice s (pos (l + i)) none)
  unfolding bits span lower
  slice-bit h l i b = slice-slice ws s h l i i (omega arith) b

  pub bit-bit : (i : ℕ) → bits ws (slice (slice s (pos i) none) (pos 0) none) ≡ bits ws (slice s (pos i) none)
  unfolding bits span lower
  bit-bit i = slice-slice ws s i i 0 0 (omega arith) (omega arith) ∙ ap (λ (n : ℕ). bits ws (taking s n n)) (let z : i + 0 ≡ i = omega arith in z)

-- bounds that are inside are not negative
bounds-natural : (w : ℕ) (h l : ℤ) → inside w h l ≡ true → inside w (pos (nat_abs h)) (pos (nat_abs l)) ≡ true
unfolding inside
bounds-natural w (pos h) (pos l) e = e
bounds-natural w (pos h) (negsuc l) e = absurd (false≢true e)
bounds-natural w (negsuc h) (pos l) e = absurd (false≢true e)
bounds-natural w (negsuc h) (negsuc l) e = absurd (false≢true e)

module _ (ws : Wires) (s : Sig) (h : ℤ) (l : Option ℤ) (k : ℤ) (j : Option ℤ) where
  -- where both slices are inside, the one is inside and has their bits
  pub slices-joined : good_slice ws (slice s h l) ≡ true → good_slice ws (slice (slice s h l) k j) ≡ true → (good_slice ws (one-slice ws s h l k j) ≡ true) × (bits ws (slice (slice s h l) k j) ≡ bits ws (one-slice ws s h l k j))
  unfolding good_slice width bits span lower
  slices-joined p q =
      let a : ℕ = nat_abs h in
      let b : ℕ = nat_abs (lower h l) in
      let c : ℕ = nat_abs k in
      let d : ℕ = nat_abs (lower k j) in
      let o = inside-has (width ws s) a b (bounds-natural (width ws s) h (lower h l) p) in
      let i = inside-has (a + 1 - b) c d (bounds-natural (a + 1 - b) k (lower k j) q) in
      let f : b + c ≤ a = omega (arith, o.0, i.1) in
      (joined-inside ws s a b c d i.0 f o.1, slice-slice ws s a b c d i.0 f)
