-- The law of every loop over a string's bytes: what the machine gives from here, behind what it gave so far, is what it gives from the
-- start.
-- Assumes nothing.
use mathlib.Core.Path.{◌≡◌, refl, sym, ap, subst, ◌∙◌}
use mathlib.Core.Bool.{true, ◌||◌}
use mathlib.Core.List.{List, [], ◌∷◌, ◌++◌, append_assoc}
use Prim.Native.Nat.{ℕ, ◌+◌, ◌-◌, ◌<◌, ◌≤◌}
use native.Mathlib.Numerals.{add-one}
use native.Mathlib.Omega.{arith}
use lib.ListN.{length, get_or, drop, length-append, drop_of_length-le}
use lib.Dec.{eqb}
use lib.Seq.{drop-cons, slice}
use borrow.Author.Tests.{not-true}
use Rattle.rules.specs.Bytes.{byte, is_string_byte, run, rest}
use Rattle.rules.specs.Tokens.{Inside, plain, goes, ends, breaks, plain_turn, turn, Quoted, closed, broken, quoted_onto, quoted_by, quoted}
use Rattle.lists.specs.Lists.{onto-none}
use Rattle.lists.specs.Tests.{by-test, and-true-left, and-true-right, or-false-left, or-false-right}
use Rattle.scanner.specs.Runs.{end_of}
use Rattle.scanner.proofs.RunLaws.{end_of-low, end_of-slice, end_of-rest}
use Rattle.std.specs.Prelude.{Some, None}
use Rattle.strings.specs.Decoded.{is_plain, bytes_of, is_closed, decoded_by, decoded, closes, closing, CloseIs}
use Rattle.strings.proofs.Turns.{held, Fine, turn-fine}
use Rattle.strings.proofs.StringLaws.{closed-decoded}

onto-onto : (bs cs : List ℕ) (q : Quoted) → quoted_onto bs (quoted_onto cs q) ≡ quoted_onto (bs ++ cs) q
unfolding quoted_onto
onto-onto bs cs (closed ds l) = ap (λ (x : List ℕ). closed x l) (sym (append_assoc bs cs ds))
onto-onto bs cs broken = refl

front : (x : Quoted) (ds : List ℕ) (q : Quoted) → x ≡ quoted_onto ds q → is_closed x ≡ true → length ds ≤ length (bytes_of x)
unfolding quoted_onto is_closed bytes_of
front x ds (closed es l) e h = rw e (simp length-append (omega arith))
front x ds broken e h = let f : is_closed broken ≡ true = rw e at h in let z : ◌≡◌ {A = ℕ} 0 1 = cc in omega arith

-- The machine has come from `at` to `i`, where it stands in the state `j`, and gave `ds`; `few` bounds the count of those
pub record Reached (s : List ℕ) (at i : ℕ) (j : Inside) (ds : List ℕ) : Type 0 where
  pub same : quoted plain (drop at s) ≡ quoted_onto ds (quoted j (drop i s))
  pub few : at + length ds + held j ≤ i

-- bytes that stand for themselves, in one step
plain-goes : (b : ℕ) → is_plain b ≡ true → turn plain b ≡ goes (b ∷ []) plain
unfolding turn plain_turn is_plain
plain-goes b e =
    let q = and-true-left (is_string_byte b) _ e in
    let n = not-true (eqb b (byte "\"") || eqb b (byte "\\")) (and-true-right (is_string_byte b) _ e) in
    rw (or-false-left (eqb b (byte "\"")) _ n, or-false-right (eqb b (byte "\"")) _ n, q)

plain-run : (l : List ℕ) → quoted plain l ≡ quoted_onto (run is_plain l) (quoted plain (rest is_plain l))
unfolding quoted quoted_by run rest
plain-run [] = sym (onto-none (quoted plain []))
plain-run (b ∷ bs) =
    by-test (is_plain b)
    (λ e. rw (e, plain-goes b e) (ap (quoted_onto (b ∷ [])) (plain-run bs) ∙ onto-onto (b ∷ []) (run is_plain bs) (quoted plain (rest is_plain bs))))
    (λ e. rw e (sym (onto-none (quoted plain (b ∷ bs)))))

module _ (s : List ℕ) (at e : ℕ) (q : e ≡ end_of is_plain s at) where
  pub plain_size : e - at ≡ length (slice at e s)
  unfolding end_of
  plain_size = rw (q, end_of-slice is_plain s at) (omega arith)

  pub reached-plain : Reached s at e plain (slice at e s)
  unfolding held
  reached-plain =
      record {
        same = rw (q, end_of-slice is_plain s at, end_of-rest is_plain s at) (plain-run (drop at s));
        few = omega (arith, plain_size, end_of-low is_plain s at);
      }

module _ (s : List ℕ) (at i : ℕ) (j : Inside) (ds : List ℕ) (r : Reached s at i j ds) where
  here : i < length s → quoted j (drop i s) ≡ quoted_by (λ k. quoted k (drop (i + 1) s)) (drop (i + 1) s) (turn j (get_or s i 0))
  unfolding quoted
  here h = rw (drop-cons s i 0, add-one)

  pub reached-goes : (bs : List ℕ) (k : Inside) → i < length s → goes bs k ≡ turn j (get_or s i 0) → Reached s at (i + 1) k (ds ++ bs)
  unfolding quoted_by
  reached-goes bs k h e =
      let f : Fine j (goes bs k) = subst (Fine j) (sym e) (turn-fine j (get_or s i 0)) in
      record {
        same = r.same ∙ ap (quoted_onto ds) (rw (here h, ← e)) ∙ onto-onto ds bs (quoted k (drop (i + 1) s));
        few = simp length-append (omega (arith, f.0, r.few));
      }

  pub reached-ends : (bs : List ℕ) → i < length s → ends bs ≡ turn j (get_or s i 0) → quoted plain (drop at s) ≡ closed (ds ++ bs) (drop (i + 1) s)
  unfolding quoted_by quoted_onto
  reached-ends bs h e = rw (r.same, here h, ← e)

  -- (so the count of the bytes does not wrap)
  pub ends-few : (bs : List ℕ) → ends bs ≡ turn j (get_or s i 0) → at + length ds + length bs ≤ i
  ends-few bs e =
      let f : Fine j (ends bs) = subst (Fine j) (sym e) (turn-fine j (get_or s i 0)) in
      omega (arith, f.0, r.few)

  pub reached-breaks : i < length s → breaks ≡ turn j (get_or s i 0) → quoted plain (drop at s) ≡ broken
  unfolding quoted_by quoted_onto
  reached-breaks h e = rw (r.same, here h, ← e)

  pub reached-end : length s ≤ i → quoted plain (drop at s) ≡ broken
  unfolding quoted quoted_onto
  reached-end h = rw (r.same, drop_of_length-le)

  -- what was given so far is a beginning of the whole, if the string closes
  pub reached-room : closes (drop at s) ≡ true → length ds ≤ length (decoded (drop at s))
  unfolding closes decoded decoded_by
  reached-room h = front (quoted plain (drop at s)) ds (quoted j (drop i s)) r.same h

pub closed_is : (s : List ℕ) (at e : ℕ) (ds : List ℕ) → quoted plain (drop at s) ≡ closed ds (drop e s) → at < e → e ≤ length s → CloseIs s at (Some e)
unfolding closing
closed_is s at e ds q h k = record { is = rw (closed-decoded (drop at s) ds (drop e s) q) q; between = (h, k) }

pub broken-is : (s : List ℕ) (at : ℕ) → quoted plain (drop at s) ≡ broken → CloseIs s at None
unfolding closing
broken-is s at q = record { is = q; between = tt }
