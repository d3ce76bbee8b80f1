-- The bits of a signal whose parts are at most 2,048 wide are those of their codes.
-- Assumes nothing.
use Prim.Native.Nat.{ℕ, zero, suc, ◌+◌, ◌≤◌}
use mathlib.Core.Path.{◌≡◌, refl, ap, ap₂, ◌∙◌}
use mathlib.Core.List.{List, [], ◌∷◌, map, flat_map, reverse, reverse-reverse}
use mathlib.Core.Option.{Option, none, some, get_or, Option-elim}
use mathlib.Core.Bool.{Bool, true, false, not}
use native.Mathlib.Omega.{arith}
use lib.Dec.{leb}
use lib.IntN.{nat_abs}
use lib.ListN.{take, drop, take-append-drop}
use borrow.Author.Tests.{leb-true}
use Rattle.rules.specs.Bytes.{all}
use Rattle.rules.specs.Tokens.{Digit}
use Rattle.rules.specs.Statements.{Sig, Sigs, constant, wire, bundle, nothing, ◌below◌, digit, bit, Signal, Wire}
use Rattle.rules.specs.Statements as rules
use Rattle.rules.specs.Signals.{Wires, find, lower, span, literal_bits, wire_bits, width, bits, bits_of, parts, parts_of}
use Rattle.rules.specs.Judgement.{lowest}
use Rattle.rules.specs.Layout.{bit_code}
use Rattle.lists.specs.Tests.{and-true-left, and-true-right}
use Rattle.lists.specs.Elements.{all_left, all_right, Each, each-front, each_back, each_append, each_all, each-through}
use Rattle.lists.specs.Parts.{slice_kept}
use Rattle.numbers.specs.Kinds.{bit_of, bit_at, signal_of}
use Rattle.numbers.specs.KindLaws as kinds
use Rattle.numbers.specs.KindLaws.{Within, bit-back}
use Rattle.faults.specs.Faults.{faults, fault}
use Rattle.signals.specs.Held.{codes, Held}
use Rattle.signals.specs.declared.Bits.{Bits}
use Rattle.syntax.specs.Statements.{signal_in}

-- ---- bits that their codes give back

abbrev Coded : Signal → Type 0
Coded bs = Each (λ b. bit_of (bit_at (bit_code b)) ≡ b) bs

coded-part : (l n : ℕ) (xs : Signal) → Coded xs → Coded (take n (drop l xs))
coded-part l n xs h = each-front _ (take n (drop l xs)) (drop n (drop l xs)) (rw (take-append-drop n (drop l xs)) (each_back _ (take l xs) (drop l xs) (rw (take-append-drop l xs) h)))

coded-digits : (ds : List Digit) → Coded (map digit ds)
unfolding Within
coded-digits ds = each-through _ digit _ (λ d h. h) ds (each_all _ (λ d. bit-back 0 (digit d) tt) ds)

coded-wire : (n i k : ℕ) → i + k ≤ 2048 → Coded (wire_bits n i k)
unfolding wire_bits Within
coded-wire n i zero h = tt
coded-wire n i (suc k) h = (bit-back (n + 1) (bit n i) (omega arith, omega arith), coded-wire n (i + 1) k (omega arith))

coded-found : (x : Option (ℕ × Wire)) → Option-elim x 0 (λ w. w.1.width) ≤ 2048 → Coded (Option-elim x [] (λ w. wire_bits w.0 0 w.1.width))
unfolding Option-elim
coded-found none h = tt
coded-found (some w) h = coded-wire w.0 0 w.1.width (omega arith)

-- ---- the bits of a signal

module _ (ws : Wires) where
  narrow : Sig → Bool
  narrow p = leb (width ws p) 2048

  mutual
    unfolding bits parts all narrow width

    coded : (s : Sig) → all narrow (parts s) ≡ true → Coded (bits ws s)
    coded (constant c) h = coded-digits (literal_bits c)
    coded (wire n) h = coded-found (find n ws) (leb-true _ _ (and-true-left _ _ h))
    coded (rules.slice s i l) h =
        coded-part (nat_abs (lower i l)) (span i (lower i l)) (bits ws s) (coded s (and-true-right (narrow (rules.slice s i l)) _ h))
    coded (bundle ss) h = coded-of ss (and-true-right (narrow (bundle ss)) _ h)

    coded-of : (ss : Sigs) → all narrow (parts_of ss) ≡ true → Coded (bits_of ws ss)
    coded-of nothing h = tt
    coded-of (s below ss) h =
        each_append _ (bits ws s) (bits_of ws ss) (coded s (all_left narrow (parts s) (parts_of ss) h)) (coded-of ss (all_right narrow (parts s) (parts_of ss) h))

  -- signals from their codes, if all their parts are narrow
  pub signals-back : (ss : List Sig) → all (λ p. leb (width ws p) 2048) (flat_map parts ss) ≡ true → map (λ xs. signal_of (reverse xs)) (map (λ a. codes (bits ws a)) ss) ≡ map (bits ws) ss
  unfolding flat_map codes narrow
  signals-back [] h = refl
  signals-back (a ∷ ss) h =
      ap₂ ◌∷◌
      (ap signal_of (reverse-reverse (map bit_code (bits ws a))) ∙ kinds.signal-back (bits ws a) (coded a (all_left _ (parts a) (flat_map parts ss) h)))
      (signals-back ss (all_right _ (parts a) (flat_map parts ss) h))

  -- where no rule is broken all parts are narrow
  last-holds : (a b c d : Bool) → get_or (lowest ((7, a) ∷ (8, b) ∷ (10, c) ∷ (11, not d) ∷ [])) 0 ≡ 0 → d ≡ true
  unfolding lowest
  last-holds true b c d h = absurd (omega arith)
  last-holds false true c d h = absurd (omega arith)
  last-holds false false true d h = absurd (omega arith)
  last-holds false false false true h = refl
  last-holds false false false false h = absurd (omega arith)

  pub signal-back : (a : Sig) (o : ℕ) (s : List ℕ) (b : Bits) → Held ws a o s b → b.fault ≡ 0 → signal_in s o b.width ≡ bits ws a
  unfolding signal_in codes fault faults narrow
  signal-back a o s b H z =
      rw (H.coded z, reverse-reverse) (kinds.signal-back (bits ws a) (coded a (last-holds _ _ _ _ (H.refused ∙ z))))

-- a signal stays where the table is kept up to its end
pub held_kept : (ws : Wires) (a : Sig) (o n : ℕ) (s s' : List ℕ) (b : Bits) → o + 2048 ≤ n → take n s' ≡ take n s → Held ws a o s b → Held ws a o s' b
held_kept ws a o n s s' b h e H =
    record {
      refused = H.refused;
      wide = H.wide;
      small = H.small;
      coded = λ z. slice_kept s s' n o (o + b.width) e (omega (arith, H.small z)) ∙ H.coded z;
    }
