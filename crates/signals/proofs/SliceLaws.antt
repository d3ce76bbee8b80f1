-- One slice by its bounds in the file, and slices behind one another.
-- Assumes nothing.
use mathlib.Core.Path.{◌≡◌, refl, sym, ap, subst, ◌∙◌}
use mathlib.Core.Bool.{true, false, ◌&&◌, and-false}
use mathlib.Core.List.{List, [], ◌∷◌, Option-to_list}
use mathlib.Core.Option.{Option, none, some}
use Prim.Native.Nat.{ℕ, suc, ◌+◌, ◌-◌, ◌/◌, ◌≤◌}
use native.Mathlib.Omega.{arith}
use lib.IntN.{ℤ}
use lib.ListN.{length, take, drop}
use lib.Seq.{length-slice, take_all}
use Rattle.std.specs.Prelude.{Some, None}
use Rattle.rules.specs.Bytes.{all}
use Rattle.rules.specs.Statements.{Sig}
use Rattle.rules.specs.Signals.{Wires, bits, lower, twos_complement, parts}
use Rattle.rules.specs.Numbers.{int32, good_numbers}
use Rattle.rules.specs.Shapes.{sliced}
use Rattle.numbers.specs.Signed.{signed_of}
use Rattle.numbers.specs.SignedLaws.{number-back}
use Rattle.tokens.specs.Rows.{line, integer_in}
use Rattle.tokens.proofs.TokenLaws.{line-long}
use Rattle.faults.specs.Faults.{fault, merge}
use Rattle.signals.specs.Held.{codes, Held, Kept, PartOf, Inside, CutIs, MovedIs}
use Rattle.signals.specs.Reads.{mark_at, slot_in, sliced_on, SliceIs, BoundsIs, SlicesIs}
use Rattle.signals.specs.declared.Bits.{Bits}
use Rattle.signals.specs.declared.Part.{Part}
use Rattle.signals.specs.declared.Bounds.{Bounds}
use Rattle.faults.proofs.FaultLaws.{faults-front, own-number}
use Rattle.signals.proofs.Codes.{length-codes, codes-part}
use Rattle.signals.proofs.HeldLaws.{parted, part-not, kept_same}
use Rattle.signals.proofs.CutLaws.{stays}
use Rattle.signals.proofs.Parses.{mark-below, slices-end, slices-none, slices-next}

pub kept_on : (o : ℕ) (a b c : List ℕ) → Kept o a b → Kept o b c → Kept o a c
kept_on o a b c p q = record { long = q.long ∙ p.long; below = q.below ∙ p.below }

-- ---- one slice

number-fault : (ws : Wires) (s : Sig) (h : ℤ) (z : Option ℤ) → int32 h && all int32 (Option-to_list z) ≡ false → fault ws (Sig.slice s h z) ≡ merge 7 (fault ws s)
unfolding fault parts good_numbers
number-fault ws s h z e = faults-front ws (Sig.slice s h z) (parts s) ∙ ap (λ (k : ℕ). merge k (fault ws s)) (own-number ws (Sig.slice s h z) e)

module _ (p : Part) where
  -- a bound that breaks the number rules
  numbers-broken : (h : ℤ) (z : Option ℤ) (n : ℕ) → n ≡ merge 7 p.bits.fault → int32 h && all int32 (Option-to_list z) ≡ false → SliceIs p h z (parted p.bits.width n p.low)
  numbers-broken h z n q e =
      record {
        part = λ ws whole s H. part-not ws whole (Sig.slice s h z) p.bits.width p.low 7 p.bits.fault n (omega arith) (omega arith) q (number-fault ws s h z e ∙ ap (merge 7) H.refused);
        inside = stays p 7 n (omega arith) q;
      }

  pub slice-high : (h : ℤ) (z : Option ℤ) (n : ℕ) → n ≡ merge 7 p.bits.fault → int32 h ≡ false → SliceIs p h z (parted p.bits.width n p.low)
  slice-high h z n q e = numbers-broken h z n q (rw e)

  pub slice-low : (h l : ℤ) (n : ℕ) → n ≡ merge 7 p.bits.fault → int32 l ≡ false → SliceIs p h (some l) (parted p.bits.width n p.low)
  unfolding all Option-to_list
  slice-low h l n q e = numbers-broken h (some l) n q (rw e (and-false (int32 h)))

  -- bounds that keep them, by their words
  module _ (h : ℤ) (high : ℕ) (r : Part) (eh : int32 h ≡ true) (qh : twos_complement h ≡ high) where
    word-is : signed_of high ≡ h
    word-is = number-back h high eh qh

    cut-slice : (z : Option ℤ) (low : ℕ) → lower h z ≡ signed_of low → all int32 (Option-to_list z) ≡ true → CutIs p high low r → SliceIs p h z r
    cut-slice z low el ez C =
        record {
          part = λ ws whole s H. subst (λ (x : ℤ). PartOf ws whole (Sig.slice s x z) r) word-is (C.part ws whole s z (ap (λ (x : ℤ). lower x z) word-is ∙ el) ez H);
          inside = C.inside;
        }

    pub slice-one : CutIs p high high r → SliceIs p h none r
    unfolding lower all Option-to_list
    slice-one C = cut-slice none high (sym word-is) refl C

    pub slice-two : (l : ℤ) (low : ℕ) → int32 l ≡ true → twos_complement l ≡ low → CutIs p high low r → SliceIs p h (some l) r
    unfolding lower all Option-to_list
    slice-two l low e q C = cut-slice (some l) low (sym (number-back l low e q)) (rw e) C

-- ---- slices behind one another

-- the slices that were read of a signal s, and those behind
pub record Reached (f t : List ℕ) (i : ℕ) (ws : Wires) (s : Sig) (at : ℕ) (p : Part) : Type 0 where
  pub cuts : List (ℤ × Option ℤ)
  pub fuel : ℕ
  pub enough : length t / 4 - at ≤ fuel
  pub is : sliced_on s (length (line f t i)) [] (line f t i) ≡ sliced_on s fuel cuts (line f t at)
  pub part : PartOf ws s (sliced s cuts) p

-- where the loop stands: in row at, with this part of the signal
pub record SlicesOn (f t : List ℕ) (i o : ℕ) (out : List ℕ) (b : Bits) (at : ℕ) (p : Part) : Type 0 where
  pub from : i ≤ at
  pub within : at ≤ length t / 4
  pub inside : Inside (parted b.width b.fault 0) p
  pub reached : (ws : Wires) (s : Sig) → Held ws s o out b → Reached f t i ws s at p

module _ (ws : Wires) (s : Sig) (o : ℕ) (out : List ℕ) (b : Bits) (room : o + 2048 ≤ length out) (H : Held ws s o out b) where
  bits-wide : b.fault ≡ 0 → length (bits ws s) ≡ b.width
  bits-wide e =
      let r : b.width ≤ 2048 = H.small e in
      sym (length-codes (bits ws s)) ∙ ap length (sym (H.coded e)) ∙ length-slice o (o + b.width) out (omega arith) ∙ omega arith

  -- the signal is a part of itself
  part-whole : PartOf ws s s (parted b.width b.fault 0)
  part-whole =
      record {
        refused = H.refused;
        wide = H.wide;
        taken = λ e. sym (take_all b.width (bits ws s) (omega (arith, bits-wide e)));
      }

  -- a part of it whose bits were moved
  moved-held : (s' : Sig) (p : Part) (out' : List ℕ) → PartOf ws s s' p → Inside (parted b.width b.fault 0) p → MovedIs o b.width p out out' → Held ws s' o out' p.bits
  moved-held s' p out' P I M =
      record {
        refused = P.refused;
        wide = P.wide;
        small = λ e. omega (arith, I.within, H.small (I.none e));
        coded = λ e.
            let n : ℕ = p.bits.width in
            let w : length (bits ws s) ≡ b.width = bits-wide (I.none e) in
            let x : b.width - (p.low + n) ≡ length (bits ws s) - (p.low + n) = omega arith in
            M.moved e
            ∙ ap (λ (y : List ℕ). take n (drop (b.width - (p.low + n)) y)) (H.coded (I.none e))
            ∙ ap (λ (y : ℕ). take n (drop y (codes (bits ws s)))) x
            ∙ codes-part (bits ws s) p.low n (omega (arith, I.within))
            ∙ ap codes (sym (P.taken e));
      }

module _ (f t : List ℕ) (i o : ℕ) (out : List ℕ) (b : Bits) (room : o + 2048 ≤ length out) where
  pub slices-start : i ≤ length t / 4 → SlicesOn f t i o out b i (parted b.width b.fault 0)
  unfolding sliced
  slices-start h =
      record {
        from = omega arith;
        within = h;
        inside = record { within = omega arith; none = λ e. e };
        reached = λ ws s H. record { cuts = []; fuel = length (line f t i); enough = omega (arith, line-long f t i); is = refl; part = part-whole ws s o out b room H };
      }

  module _ (at : ℕ) (p : Part) (S : SlicesOn f t i o out b at p) where
    pub slices-read : (out' : List ℕ) → mark_at t at 91 ≡ false → MovedIs o b.width p out out' → SlicesIs f t i o out b out' (Some (record { next = at; bits = p.bits }))
    slices-read out' e M =
        record {
          kept = M.kept;
          read = (
            S.from,
            S.within,
            omega (arith, S.inside.within),
            λ ws s H.
                let R = S.reached ws s H in
                record {
                  sig = sliced s R.cuts;
                  is = R.is ∙ slices-end f t at s R.cuts R.fuel e;
                  held = moved-held ws s o out b room H (sliced s R.cuts) p out' R.part S.inside M;
                },
          );
        }

    module _ (e : mark_at t at 91 ≡ true) where
      more : (ws : Wires) (s : Sig) (R : Reached f t i ws s at p) → sliced_on s (length (line f t i)) [] (line f t i) ≡ sliced_on s (suc (R.fuel - 1)) R.cuts (line f t at)
      more ws s R = R.is ∙ ap (λ (k : ℕ). sliced_on s k R.cuts (line f t at)) (omega (arith, mark-below t at 91 e, R.enough))

      pub slices-broken : BoundsIs t (at + 1) None → SlicesIs f t i o out b out None
      slices-broken B =
          record {
            kept = kept_same o out;
            read = λ ws s H.
                let R = S.reached ws s H in
                more ws s R ∙ slices-none f t at s R.cuts (R.fuel - 1) e (B f);
          }

      module _ (z : Bounds) (B : BoundsIs t (at + 1) (Some z)) where
        pub slices-on : (r : Part) → SliceIs p (integer_in f z.high) (slot_in f z.low) r → SlicesOn f t i o out b z.next r
        unfolding sliced
        slices-on r C =
            record {
              from = omega (arith, S.from, B.0);
              within = B.1;
              inside = record { within = omega (arith, S.inside.within, C.inside.within); none = λ k. S.inside.none (C.inside.none k) };
              reached = λ ws s H.
                  let R = S.reached ws s H in
                  record {
                    cuts = (integer_in f z.high, slot_in f z.low) ∷ R.cuts;
                    fuel = R.fuel - 1;
                    enough = omega (arith, R.enough, B.0);
                    is = more ws s R ∙ slices-next f t at s R.cuts (R.fuel - 1) e (integer_in f z.high, slot_in f z.low) z.next (B.2 f);
                    part = C.part ws s (sliced s R.cuts) R.part;
                  };
            }
