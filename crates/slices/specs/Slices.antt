-- Document 02, request 12: "Taking [h:l] and then [k:j] equals taking [l+k:l+j] whenever 0 <= l, 0 <= j <= k <= h-l and
-- h is inside the signal." The bounds here are naturals, so 0 <= l and 0 <= j; k <= h-l is written l + k ≤ h, since
-- subtraction of naturals stops at 0.
-- Assumes nothing.
use Prim.Native.Nat.{ℕ, zero, suc, ◌+◌, ◌-◌, ◌≤◌, ◌<◌}
use native.Mathlib.Omega.{arith}
use Rattle.std.specs.Prelude.{◌≡◌, Bool, true, ltb, ℤ, pos, drop}
use Rattle.std.proofs.Math.Path.{refl, ap, ap₂}
use Rattle.std.proofs.Common.{sym, ◌∙◌, drop-drop}
use mathlib.Core.List.{List, [], ◌∷◌, Option-to_list}
use Rattle.std.proofs.Math.Option.{Option, none, some}
use Rattle.std.proofs.Math.Bool.{◌&&◌, and-false}
use Rattle.std.proofs.Math.Dec.{leb}
use Rattle.std.proofs.Math.IntN.{nat_abs}
use Rattle.std.proofs.Math.ListN.{take}
use Rattle.std.proofs.Math.Seq.{take-take, take-nil}
use borrow.Author.Tests.{leb-true, ltb-true, le-leb, lt-ltb}
use Rattle.rules.specs.Limits.{most_width}
use Rattle.rules.specs.Bytes.{all}
use Rattle.rules.specs.Statements.{Sig, constant, wire, slice, bundle}
use Rattle.rules.specs.Numbers.{int32, good_numbers}
use Rattle.rules.specs.Signals.{Wires, bits, width, span, lower, inside, declared_wire, good_slice, parts, parts_of}
use Rattle.lists.specs.Tests.{by-test, and-true-left, and-true-right}
use Rattle.lists.specs.Elements.{all_first}

drop-take : {A : Type 0} (j n : ℕ) (l : List A) → drop j (take n l) ≡ take (n - j) (drop j l)
drop-take zero n l = ap (λ (k : ℕ). take k l) (let z : n ≡ n - 0 = omega arith in z)
drop-take (suc j) zero l = ap (λ (k : ℕ). take k (drop (suc j) l)) (let z : 0 ≡ 0 - suc j = omega arith in z)
drop-take (suc j) (suc n) [] = sym (take-nil (suc n - suc j))
drop-take (suc j) (suc n) (x ∷ l) = drop-take j n l ∙ ap (λ (k : ℕ). take k (drop j l)) (let z : n - j ≡ suc n - suc j = omega arith in z)

-- a signal is a part of itself
pub part-self : (f : Sig → Bool) (s : Sig) → all f (parts s) ≡ true → f s ≡ true
unfolding parts
part-self f (constant c) h = all_first f (constant c) [] h
part-self f (wire n) h = all_first f (wire n) [] h
part-self f (slice s x l) h = all_first f (slice s x l) (parts s) h
part-self f (bundle ss) h = all_first f (bundle ss) (parts_of ss) h

-- [h:l] of a signal, and [h:l] and then [k:j]
abbrev pub taking : Sig → (h l : ℕ) → Sig
taking s h l = slice s (pos h) (some (pos l))

abbrev pub taking-taking : Sig → (h l k j : ℕ) → Sig
taking-taking s h l k j = taking (taking s h l) k j

-- the rules' test that a slice is inside, in words of naturals
pub inside_is : (w h l : ℕ) → l ≤ h → h < w → inside w (pos h) (pos l) ≡ true
unfolding inside
inside_is w h l a b = rw (le-leb l h a, lt-ltb h w b)

pub inside-has : (w h l : ℕ) → inside w (pos h) (pos l) ≡ true → (l ≤ h) × (h < w)
unfolding inside
inside-has w h l e = (leb-true l h (and-true-left (leb l h) (ltb h w) e), ltb-true h w (and-true-right (leb l h) (ltb h w) e))

module _ (ws : Wires) (s : Sig) where
  -- "taking [h:l] and then [k:j] equals taking [l+k:l+j]": in its bits, wherever h is, and in its width
  pub slice-slice : (h l k j : ℕ) → j ≤ k → l + k ≤ h → bits ws (taking-taking s h l k j) ≡ bits ws (taking s (l + k) (l + j))
  unfolding bits span lower
  slice-slice h l k j a b =
      let b' : List _ = bits ws s in
      ap (take (k + 1 - j)) (drop-take j (h + 1 - l) (drop l b') ∙ ap (take (h + 1 - l - j)) (drop-drop j l b'))
      ∙ take-take (k + 1 - j) (h + 1 - l - j) (drop (l + j) b') (omega arith)
      ∙ ap (λ (n : ℕ). take n (drop (l + j) b')) (let z : k + 1 - j ≡ l + k + 1 - (l + j) = omega arith in z)

  pub slice-slice-width : (h l k j : ℕ) → width ws (taking-taking s h l k j) ≡ width ws (taking s (l + k) (l + j))
  unfolding width span lower
  slice-slice-width h l k j = omega arith

  -- a bound left out: [i] is [i:i], and its verdict; so [h:l] and then [i] equals [l+i], and [i] and then [0] equals [i]
  pub one_bit : (i : ℕ) → (bits ws (slice s (pos i) none) ≡ bits ws (taking s i i)) × (width ws (slice s (pos i) none) ≡ width ws (taking s i i)) × (good_slice ws (slice s (pos i) none) ≡ good_slice ws (taking s i i))
  unfolding bits width good_slice lower
  one_bit i = (refl, refl, refl)

  -- "whenever 0 <= l, 0 <= j <= k <= h-l and h is inside the signal": that is, where the rules' own test finds both slices inside
  pub slice_inside : (h l : ℕ) → good_slice ws (taking s h l) ≡ true → (l ≤ h) × (h < width ws s)
  unfolding good_slice lower
  slice_inside h l e = inside-has (width ws s) h l e

  module _ (h l k j : ℕ) where
    pub both-inside : j ≤ k → l + k ≤ h → h < width ws s → (good_slice ws (taking s h l) ≡ true) × (good_slice ws (taking-taking s h l k j) ≡ true)
    unfolding good_slice width span lower
    both-inside a b c = (inside_is (width ws s) h l (omega arith) c, inside_is (h + 1 - l) k j a (omega arith))

    pub inside_both : good_slice ws (taking s h l) ≡ true → good_slice ws (taking-taking s h l k j) ≡ true → (j ≤ k) × (l + k ≤ h) × (h < width ws s)
    unfolding good_slice width span lower
    inside_both p q =
        let o = inside-has (width ws s) h l p in
        let i = inside-has (h + 1 - l) k j q in
        (i.0, omega (arith, o.0, i.1), o.1)

    -- then the joined slice is inside as well
    pub joined-inside : j ≤ k → l + k ≤ h → h < width ws s → good_slice ws (taking s (l + k) (l + j)) ≡ true
    unfolding good_slice lower
    joined-inside a b c = inside_is (width ws s) (l + k) (l + j) (omega arith) (omega arith)

    -- and the verdict is the same: what the rules test of a signal's parts, numbers (7), wires (8), slices (10) and
    -- widths (11); a bound over 32 bits is refused with 7 wherever it stands, and the joined slice no longer has h
    module _ (a : j ≤ k) (b : l + k ≤ h) (c : h < width ws s) where
      numbers-same : h < 2147483648 → all good_numbers (parts (taking-taking s h l k j)) ≡ all good_numbers (parts (taking s (l + k) (l + j)))
      unfolding good_numbers parts all int32 Option-to_list
      numbers-same e =
          rw (lt-ltb h 2147483648 e, lt-ltb l 2147483648 (omega arith), lt-ltb k 2147483648 (omega arith), lt-ltb j 2147483648 (omega arith), lt-ltb (l + k) 2147483648 (omega arith), lt-ltb (l + j) 2147483648 (omega arith))

      wires-same : all (declared_wire ws) (parts (taking-taking s h l k j)) ≡ all (declared_wire ws) (parts (taking s (l + k) (l + j)))
      unfolding declared_wire parts all
      wires-same = refl

      slices-same : all (good_slice ws) (parts (taking-taking s h l k j)) ≡ all (good_slice ws) (parts (taking s (l + k) (l + j)))
      unfolding parts all
      slices-same = rw ((both-inside a b c).0, (both-inside a b c).1, joined-inside a b c)

      -- the part that goes is no wider than what it is taken from
      abbrev narrow : Sig → Bool
      narrow p = leb (width ws p) most_width

      less : narrow (taking s h l) && all narrow (parts s) ≡ all narrow (parts s)
      unfolding width span lower
      less =
          by-test (all narrow (parts s))
          (λ e. let z : width ws s ≤ most_width = leb-true (width ws s) most_width (part-self narrow s e) in rw (e, le-leb (h + 1 - l) most_width (omega arith)))
          (λ e. rw e (and-false (narrow (taking s h l))))

      widths-same : all narrow (parts (taking-taking s h l k j)) ≡ all narrow (parts (taking s (l + k) (l + j)))
      unfolding parts all
      widths-same = ap₂ ◌&&◌ (ap (λ (n : ℕ). leb n most_width) (slice-slice-width h l k j)) less

      pub same-verdict : h < 2147483648 →
          (all good_numbers (parts (taking-taking s h l k j)) ≡ all good_numbers (parts (taking s (l + k) (l + j))))
          × (all (declared_wire ws) (parts (taking-taking s h l k j)) ≡ all (declared_wire ws) (parts (taking s (l + k) (l + j))))
          × (all (good_slice ws) (parts (taking-taking s h l k j)) ≡ all (good_slice ws) (parts (taking s (l + k) (l + j))))
          × (all (λ p. leb (width ws p) most_width) (parts (taking-taking s h l k j)) ≡ all (λ p. leb (width ws p) most_width) (parts (taking s (l + k) (l + j))))
      same-verdict e = (numbers-same e, wires-same, slices-same, widths-same)

-- ---- over all slices that a text may have, with any integers as bounds and the low ones given or not

module _ (ws : Wires) (s : Sig) (h : ℤ) (l : Option ℤ) (k : ℤ) (j : Option ℤ) where
  -- [l+k:l+j]
  abbrev pub one-slice : Sig
  one-slice = taking s (nat_abs (lower h l) + nat_abs k) (nat_abs (lower h l) + nat_abs (lower k j))
