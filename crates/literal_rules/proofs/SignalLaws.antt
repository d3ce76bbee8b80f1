-- Where numbers and slices are good, the bits of a signal are as many as its width says.
-- Assumes nothing.
use Prim.Native.Nat.{ℕ, suc, ◌+◌, ◌≤◌}
use native.Mathlib.Omega.{arith}
use mathlib.Core.Path.{◌≡◌, refl, ap₂, ◌∙◌}
use mathlib.Core.List.{[]}
use mathlib.Core.Option.{Option, none, some, Option-elim}
use mathlib.Core.Bool.{true, false≢true}
use lib.Dec.{leb, ltb}
use lib.IntN.{ℤ, pos, negsuc, nat_abs}
use lib.ListN.{length, length-append, length-map}
use borrow.Author.Tests.{leb-true, ltb-true}
use Rattle.rules.specs.Bytes.{all}
use Rattle.rules.specs.Statements.{Sig, Sigs, constant, wire, slice, bundle, nothing, ◌below◌, digit, Wire}
use Rattle.rules.specs.Numbers.{good_numbers}
use Rattle.rules.specs.Signals.{Wires, find, literal_bits, wire_bits, inside, lower, span, width, widths, bits, bits_of, good_slice, parts, parts_of}
use Rattle.lists.specs.Parts.{length_part}
use Rattle.lists.specs.Tests.{and-true-left, and-true-right}
use Rattle.lists.specs.Elements.{all_first, all-later, all_left, all_right}
use Rattle.lists.specs.Lists.{length-wire}
use Rattle.literal_rules.proofs.ReadLaws.{literal-long}

length_found : (o : Option (ℕ × Wire)) → length (Option-elim o [] (λ w. wire_bits w.0 0 w.1.width)) ≡ Option-elim o 0 (λ w. w.1.width)
unfolding Option-elim
length_found none = refl
length_found (some w) = length-wire w.0 0 w.1.width

inside-room : (w : ℕ) (h l : ℤ) → inside w h l ≡ true → nat_abs l + span h l ≤ w
unfolding inside span
inside-room w (pos h) (pos l) e =
    let a : l ≤ h = leb-true l h (and-true-left (leb l h) (ltb h w) e) in
    let b : suc h ≤ w = ltb-true h w (and-true-right (leb l h) (ltb h w) e) in
    omega arith
inside-room w (pos h) (negsuc l) e = absurd (false≢true e)
inside-room w (negsuc h) (pos l) e = absurd (false≢true e)
inside-room w (negsuc h) (negsuc l) e = absurd (false≢true e)

module _ (ws : Wires) where
  slice-long : (s : Sig) (h : ℤ) (l : Option ℤ) → good_slice ws (slice s h l) ≡ true → length (bits ws s) ≡ width ws s → length (bits ws (slice s h l)) ≡ width ws (slice s h l)
  unfolding good_slice bits width
  slice-long s h l g e =
      length_part (bits ws s) (nat_abs (lower h l)) (span h (lower h l)) (omega (arith, inside-room (width ws s) h (lower h l) g))

  -- where numbers and slices are good
  mutual
    unfolding bits width parts good_numbers

    pub bits-long : (s : Sig) → all good_numbers (parts s) ≡ true → all (good_slice ws) (parts s) ≡ true → length (bits ws s) ≡ width ws s
    bits-long (constant c) n g = length-map (literal_bits c) digit ∙ literal-long c (all_first good_numbers (constant c) [] n)
    bits-long (wire x) n g = length_found (find x ws)
    bits-long (slice s h l) n g =
        slice-long s h l (all_first (good_slice ws) (slice s h l) (parts s) g)
        (bits-long s (all-later good_numbers (slice s h l) (parts s) n) (all-later (good_slice ws) (slice s h l) (parts s) g))
    bits-long (bundle ss) n g =
        bits-of-long ss (all-later good_numbers (bundle ss) (parts_of ss) n) (all-later (good_slice ws) (bundle ss) (parts_of ss) g)

    pub bits-of-long : (ss : Sigs) → all good_numbers (parts_of ss) ≡ true → all (good_slice ws) (parts_of ss) ≡ true → length (bits_of ws ss) ≡ widths ws ss
    bits-of-long nothing n g = refl
    bits-of-long (s below ss) n g =
        length-append (bits ws s) (bits_of ws ss)
        ∙ ap₂ ◌+◌ (bits-long s (all_left good_numbers (parts s) (parts_of ss) n) (all_left (good_slice ws) (parts s) (parts_of ss) g))
        (bits-of-long ss (all_right good_numbers (parts s) (parts_of ss) n) (all_right (good_slice ws) (parts s) (parts_of ss) g))
