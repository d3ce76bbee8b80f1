-- The bits of a signal: each stands inside a declared wire; where numbers and slices are good, a slice inside one member of a bundle is a slice
-- of that member (request 12).
-- Assumes nothing.
use Prim.Native.Nat.{ℕ, zero, suc, ◌+◌, ◌≤◌}
use Rattle.std.proofs.Common.{arith, sym, ap, ap₂, ◌∙◌, length-append, leb-true, ltb-true, lt-ltb}
use Rattle.std.specs.Prelude.{◌≡◌, Bool, true, leb, ltb, ℤ, pos, negsuc, nat_abs, length}
use Rattle.std.proofs.Math.Path.{refl}
use mathlib.Core.List.{[], ◌∷◌, map, reverse, reverse_aux}
use Rattle.std.proofs.Math.Option.{Option, none, some, Option-elim}
use Rattle.std.proofs.lemmas.Bool.{false≢true}
use Rattle.std.proofs.Math.ListN.{get_elem?}
use Rattle.std.proofs.lemmas.List.{length-map}
use Rattle.rules.specs.Bytes.{same, all}
use Rattle.rules.specs.Tokens.{Name, Literal}
use Rattle.rules.specs.Statements.{Sig, Sigs, constant, wire, slice, bundle, nothing, ◌below◌, digit, bit, Wire}
use Rattle.rules.specs.Numbers.{good_numbers}
use Rattle.rules.specs.Signals.{Wires, find, literal_bits, wire_bits, inside, lower, span, width, widths, bits, bits_of, good_slice, parts, parts_of}
use Rattle.slices.specs.Slices.{taking, slice_inside}
use Rattle.slices.specs.Bundles.{joined, parts-joined, slice-member, member-inside}
use Rattle.lists.specs.Parts.{length_part}
use Rattle.lists.specs.Tests.{by_cond, and-true-left, and-true-right}
pub use Rattle.literal_rules.proofs.SignalLaws.{bits-long, bits-of-long}
use Rattle.admitted.specs.Admitted.{fine_bit}
use Rattle.lists.specs.Elements.{all_cons, all_first, all-later, all_drop, all_append, all_left, all_right, all_map, all-each, all_take}
use Rattle.lists.specs.Lists.{length-wire, element-behind}

-- ---- a wire that is found stands at its number

data Found (vs : Wires) : Option (ℕ × Wire) → Type 0 where
  not_found : Found vs none
  found : {k : ℕ} {w : Wire} (n : Name) → get_elem? vs k ≡ some (n, w) → Found vs (some (k, w))

find-found : (n : Name) (ws r : Wires) → Found (reverse_aux ws r) (find n ws)
unfolding find
find-found n [] r = not_found
find-found n (w ∷ ws) r =
    by_cond (Found (reverse_aux ws (w ∷ r))) (same w.0 n)
    (λ e. found w.0 (element-behind ws (w ∷ r) 0 (length ws) (omega arith)))
    (λ e. find-found n ws (w ∷ r))

module _ (ws : Wires) where
  bit-fine : (k i : ℕ) (v : Name × Wire) → get_elem? (reverse ws) k ≡ some v → suc i ≤ v.1.width → fine_bit ws (bit k i) ≡ true
  unfolding fine_bit Option-elim
  bit-fine k i v e h = rw e (lt-ltb i v.1.width h)

  wire-fine : (k i n : ℕ) (v : Name × Wire) → get_elem? (reverse ws) k ≡ some v → i + n ≤ v.1.width → all (fine_bit ws) (wire_bits k i n) ≡ true
  unfolding wire_bits all
  wire-fine k i zero v e h = refl
  wire-fine k i (suc n) v e h = all_cons (fine_bit ws) (bit k i) (wire_bits k (i + 1) n) (bit-fine k i v e (omega arith)) (wire-fine k (i + 1) n v e (omega arith))

  found-fine : {o : Option (ℕ × Wire)} → Found (reverse ws) o → all (fine_bit ws) (Option-elim o [] (λ w. wire_bits w.0 0 w.1.width)) ≡ true
  unfolding Option-elim all
  found-fine not_found = refl
  found-fine (found {k} {w} n e) = wire-fine k 0 w.width (n, w) e (omega arith)

  digit-fine : (c : Literal) → all (fine_bit ws) (map digit (literal_bits c)) ≡ true
  unfolding fine_bit
  digit-fine c = all_map (fine_bit ws) digit (literal_bits c) ∙ all-each (λ d. fine_bit ws (digit d)) (λ d. refl) (literal_bits c)

  -- whatever a signal is, its bits are fine
  mutual
    unfolding bits all

    pub bits-fine : (s : Sig) → all (fine_bit ws) (bits ws s) ≡ true
    bits-fine (constant c) = digit-fine c
    bits-fine (wire n) = found-fine (find-found n ws [])
    bits-fine (slice s h l) = all_take (fine_bit ws) (span h (lower h l)) _ (all_drop (fine_bit ws) (nat_abs (lower h l)) (bits ws s) (bits-fine s))
    bits-fine (bundle ss) = bits-of-fine ss

    bits-of-fine : (ss : Sigs) → all (fine_bit ws) (bits_of ws ss) ≡ true
    bits-of-fine nothing = refl
    bits-of-fine (s below ss) = all_append (fine_bit ws) (bits ws s) (bits_of ws ss) (bits-fine s) (bits-of-fine ss)

module _ (ws : Wires) where
  -- ---- a slice inside one member of a bundle, moved by the widths below it

  module _ (ss us : Sigs) (m : Sig) (k j : ℕ) where
    abbrev bundled : Sig
    bundled = bundle (joined ss (m below us))

    -- the members below, and the member
    below_all : (f : Sig → Bool) → all f (parts bundled) ≡ true → all f (parts_of ss) ≡ true
    unfolding parts
    below_all f h = all_left f (parts_of ss) (parts_of (m below us)) (sym (ap (all f) (parts-joined ss (m below us))) ∙ all-later f bundled (parts_of (joined ss (m below us))) h)

    member-all : (f : Sig → Bool) → all f (parts bundled) ≡ true → all f (parts m) ≡ true
    unfolding parts
    member-all f h =
        all_left f (parts m) (parts_of us)
        (all_right f (parts_of ss) (parts_of (m below us)) (sym (ap (all f) (parts-joined ss (m below us))) ∙ all-later f bundled (parts_of (joined ss (m below us))) h))

    pub member-sliced :
        all good_numbers (parts bundled) ≡ true → all (good_slice ws) (parts bundled) ≡ true → good_slice ws (taking m k j) ≡ true →
        (good_slice ws (taking bundled (widths ws ss + k) (widths ws ss + j)) ≡ true)
        × (bits ws (taking bundled (widths ws ss + k) (widths ws ss + j)) ≡ bits ws (taking m k j))
    member-sliced n g e =
        let i = slice_inside ws m k j e in
        let w = bits-long ws m (member-all good_numbers n) (member-all (good_slice ws) g) in (
          member-inside ws ss us m (widths ws ss) k j refl e,
          slice-member ws ss us m (widths ws ss) k j (bits-of-long ws ss (below_all good_numbers n) (below_all (good_slice ws) g)) i.0 (omega (arith, i.1, w)),
        )
