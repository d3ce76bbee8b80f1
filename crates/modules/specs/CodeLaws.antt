-- Digits come back from their codes, and so does a signal whose bits lie inside wires that are not wider than the rules allow.
-- Assumes nothing.
use Rattle.std.specs.Prelude.{ℕ, suc, ◌<◌, ◌≡◌, refl, true, false, ltb, length}
use mathlib.Core.List.{List, [], map, reverse}
use Rattle.std.proofs.Math.Option.{Option, none, some, Option-elim}
use Rattle.std.proofs.Math.Bool.{Bool}
use Rattle.std.proofs.lemmas.Bool.{false≢true}
use native.Mathlib.Omega.{arith}
use Rattle.std.proofs.Math.Dec.{leb}
use Rattle.std.proofs.Math.ListN.{get_elem?}
use Rattle.std.proofs.Common.{leb-true, ltb-true}
use Rattle.rules.specs.Bytes.{all}
use Rattle.rules.specs.Tokens.{Name, Digit}
use Rattle.rules.specs.Statements.{Wire, Bit, digit, bit, Signal, contents}
use Rattle.rules.specs.Signals.{Wires}
use Rattle.rules.specs.Judgement.{Past, wires}
use Rattle.rules.specs.Layout.{digit_code, bit_code}
use Rattle.lists.specs.Tests.{and-true-right}
use Rattle.lists.specs.Elements.{all-reverse, all-element, all-implied, all-zip-second, each_all, each_of, map_back}
use Rattle.numbers.specs.Kinds.{digit_of, bit_of, bit_at, signal_of}
use Rattle.numbers.specs.KindLaws as kinds
use Rattle.numbers.specs.KindLaws.{Within, digit-back, bit-back}
use Rattle.admitted.specs.Admitted.{own_wire, fine_bit, fine_signal, admitted}
use Rattle.admitted.specs.AdmitLaws.{own-wire, admitted-wires}

pub digits-back : (ds : List Digit) → map digit_of (map digit_code ds) ≡ ds
digits-back ds = map_back digit_code digit_of ds (each_all _ digit-back ds)

-- ---- wires that are not wider than the rules allow

unfoldable pub narrow : Wires → Bool
narrow ws = all (λ v. leb v.1.width 2048) ws

pub narrow-past : (ss : Past) → admitted ss ≡ true → narrow (wires ss) ≡ true
unfolding narrow
narrow-past ss h =
    let f : Wire → Bool = λ w. leb w.width 2048 in
    admitted-wires (λ v. f v.1) (λ ws s p. all-zip-second f (contents s).names (contents s).wires (all-implied own_wire f (λ w e. (own-wire w e).narrow) (contents s).wires p.wires)) ss h

-- ---- bits inside such wires

fine-index : (o : Option (Name × Wire)) (i : ℕ) → ((v : Name × Wire) → o ≡ some v → leb v.1.width 2048 ≡ true) → Option-elim o false (λ v. ltb i v.1.width) ≡ true → i < 2048
unfolding Option-elim
fine-index none i h e = absurd (false≢true e)
fine-index (some v) i h e = omega (arith, ltb-true i v.1.width e, leb-true v.1.width 2048 (h v refl))

module _ (ws : Wires) (wide : narrow ws ≡ true) where
  bit-within : (b : Bit) → fine_bit ws b ≡ true → bit_of (bit_at (bit_code b)) ≡ b
  unfolding fine_bit narrow Within all
  bit-within (digit d) h = bit-back 0 (digit d) tt
  bit-within (bit w i) h =
      let f : Name × Wire → Bool = λ (v : Name × Wire). leb v.1.width 2048 in
      let k : i < 2048 = fine-index (get_elem? (reverse ws) w) i (λ v e. all-element f (reverse ws) w v (all-reverse f ws [] wide refl) e) h in
      bit-back (suc w) (bit w i) (omega arith, k)

  pub signal-back : (x : Signal) → fine_signal ws x ≡ true → signal_of (map bit_code x) ≡ x
  unfolding fine_signal
  signal-back x h = kinds.signal-back x (each_of _ (fine_bit ws) bit-within x (and-true-right (leb (length x) 2048) _ h))
