-- The bits and the width of a written signal.
-- Assumes nothing.
use Prim.Native.Nat.{ℕ, zero, suc, ◌+◌, ◌-◌, ◌<◌, ◌≤◌}
use Rattle.std.specs.Prelude.{◌≡◌, refl, Bool, cond, ◌&&◌, pos, eqb, length, take, drop}
use Rattle.std.proofs.Common.{ap, ◌∙◌, add-zero, zero-add, suc-add, add-one, arith}
use mathlib.Core.List.{List, [], ◌∷◌, ◌++◌, map, reverse, reverse-reverse}
use Rattle.std.proofs.Math.Option.{Option, none, some, Option-elim, get_or}
use Rattle.std.proofs.Math.Bool.{true, false}
use Rattle.std.proofs.lemmas.Bool.{false≢true}
use Rattle.std.proofs.Math.Dec.{ltb}
use Rattle.std.proofs.Math.ListN.{get_elem?}
use Rattle.std.proofs.lemmas.List.{length-reverse}
use borrow.Author.Tests.{eqb-true, ltb-true}
use Rattle.rules.specs.Bytes.{all}
use Rattle.rules.specs.Tokens.{Digit, Literal}
use Rattle.rules.specs.Statements.{Bit, digit, bit, Signal, Wire}
use Rattle.rules.specs.Signals.{Wires, fill, value_bits, literal_bits, wire_bits, lower, width}
use Rattle.rules.specs.Text.{Run, digits, join, runs}
use Rattle.admitted.specs.Admitted.{fine_bit}
use Rattle.lists.specs.Tests.{by_cond}
use Rattle.lists.specs.Elements.{all_first, all-later, Each}

-- ---- the bits of runs

unfoldable pub run_bits : Run → Signal
run_bits (digits ds) = map digit ds
run_bits (Run.span w l n) = wire_bits w l n

unfoldable pub all_bits : List Run → Signal
all_bits [] = []
all_bits (r ∷ rs) = run_bits r ++ all_bits rs

by_and : {A : Type 0} (P : A → Type 0) (a b : Bool) {x y : A} → (a ≡ true → b ≡ true → P x) → P y → P (cond (a && b) x y)
by_and P true true f g = f refl refl
by_and P true false f g = g
by_and P false b f g = g

join-bits : (b : Bit) (rs : List Run) → all_bits (join b rs) ≡ b ∷ all_bits rs
unfolding join all_bits run_bits wire_bits
join-bits (digit d) [] = refl
join-bits (digit d) (digits ds ∷ rs) = refl
join-bits (digit d) (Run.span w l n ∷ rs) = refl
join-bits (bit w i) [] = refl
join-bits (bit w i) (digits ds ∷ rs) = refl
join-bits (bit w i) (Run.span v l n ∷ rs) =
    by_and (λ r. all_bits r ≡ bit w i ∷ all_bits (Run.span v l n ∷ rs)) (eqb w v) (eqb (i + 1) l)
    (λ p q. rw (← eqb-true w v p, ← eqb-true (i + 1) l q, add-one n)) refl

pub runs-bits : (bs : Signal) → all_bits (runs bs) ≡ bs
unfolding runs all_bits
runs-bits [] = refl
runs-bits (b ∷ bs) = join-bits b (runs bs) ∙ ap (λ (r : Signal). b ∷ r) (runs-bits bs)

-- ---- runs inside their wires

module _ (ws : Wires) where
  -- the width of the wire with a number, 0 if there is none
  unfoldable pub width_at : ℕ → ℕ
  width_at n = Option-elim (get_elem? (reverse ws) n) 0 (λ v. v.1.width)

  pub data Inside : Run → Type 0 where
    digits_in : (ds : List Digit) → Inside (digits ds)
    span-in : {w l n : ℕ} → 0 < n → l + n ≤ width_at w → Inside (Run.span w l n)

  fine-width : (w i : ℕ) → fine_bit ws (bit w i) ≡ true → i < width_at w
  unfolding fine_bit width_at Option-elim
  fine-width w i h = go (get_elem? (reverse ws) w) h
    where
      go : (o : Option (List ℕ × Wire)) → Option-elim o false (λ v. ltb i v.1.width) ≡ true → i < Option-elim o 0 (λ v. v.1.width)
      go none h = absurd (false≢true h)
      go (some v) h = ltb-true i v.1.width h

  one_in : (w i : ℕ) → fine_bit ws (bit w i) ≡ true → Inside (Run.span w i 1)
  one_in w i h = let p : 0 < 1 = omega arith in let q : i + 1 ≤ width_at w = omega (arith, fine-width w i h) in span-in p q

  more-in : (w v i l n : ℕ) → w ≡ v → i + 1 ≡ l → l + n ≤ width_at v → Inside (Run.span w i (n + 1))
  more-in w v i l n e f h = let p : 0 < n + 1 = omega arith in let q : i + (n + 1) ≤ width_at w = rw e (omega arith) in span-in p q

  join-inside : (b : Bit) (rs : List Run) → fine_bit ws b ≡ true → Each Inside rs → Each Inside (join b rs)
  unfolding join
  join-inside (digit d) [] h a = (digits_in (d ∷ []), tt)
  join-inside (digit d) (digits ds ∷ rs) h a = (digits_in (d ∷ ds), a.1)
  join-inside (digit d) (Run.span w l n ∷ rs) h a = (digits_in (d ∷ []), a)
  join-inside (bit w i) [] h a = (one_in w i h, tt)
  join-inside (bit w i) (digits ds ∷ rs) h a = (one_in w i h, a)
  join-inside (bit w i) (Run.span v l n ∷ rs) h (span-in p q, a) =
      by_and (Each Inside) (eqb w v) (eqb (i + 1) l)
      (λ s t. (more-in w v i l n (eqb-true w v s) (eqb-true (i + 1) l t) q, a))
      (one_in w i h, (span-in p q, a))

  pub runs-inside : (bs : Signal) → all (fine_bit ws) bs ≡ true → Each Inside (runs bs)
  unfolding runs
  runs-inside [] h = tt
  runs-inside (b ∷ bs) h = join-inside b (runs bs) (all_first (fine_bit ws) b bs h) (runs-inside bs (all-later (fine_bit ws) b bs h))

-- ---- a value, and a part of a wire

pub fill-all : (ds : List Digit) → literal_bits (Literal.value (length ds) (reverse ds)) ≡ ds
unfolding literal_bits value_bits fill
fill-all ds =
    let e : length ds - length ds ≡ 0 = omega arith in
    rw (length-reverse, e, reverse-reverse)

take-wire : (w a n m : ℕ) → take n (wire_bits w a (n + m)) ≡ wire_bits w a n
unfolding wire_bits
take-wire w a zero m = refl
take-wire w a (suc n) m = rw (suc-add, take-wire w (a + 1) n m)

drop-wire : (w a l m : ℕ) → drop l (wire_bits w a (l + m)) ≡ wire_bits w (a + l) m
unfolding wire_bits
drop-wire w a zero m = rw (zero-add, add-zero)
drop-wire w a (suc l) m = rw suc-add (drop-wire w (a + 1) l m ∙ ap (λ k. wire_bits w k m) (omega arith))

pub part-wire : (w l n k : ℕ) → l + n ≤ k → take n (drop l (wire_bits w 0 k)) ≡ wire_bits w l n
part-wire w l n k h =
    ap (λ j. take n (drop l (wire_bits w 0 j))) (let z : k ≡ l + (n + (k - (l + n))) = omega arith in z)
    ∙ ap (take n) (drop-wire w 0 l (n + (k - (l + n))))
    ∙ take-wire w (0 + l) n (k - (l + n))
    ∙ ap (λ j. wire_bits w j n) (zero-add l)

-- the lower bound of a written slice
pub lower-is : (l n : ℕ) → 0 < n → lower (pos (l + n - 1)) (cond (eqb n 1) none (some (pos l))) ≡ pos l
unfolding lower
lower-is l n h =
    by_cond (λ o. get_or o (pos (l + n - 1)) ≡ pos l) (eqb n 1)
    (λ t. ap pos (let z : l + n - 1 ≡ l = omega (arith, eqb-true n 1 t) in z)) (λ t. refl)
