-- The way back, byte by byte.
-- Assumes nothing.
use mathlib.Core.Path.{◌≡◌, refl, sym, ap, ap₂, ◌∙◌}
use mathlib.Core.List.{List, [], ◌∷◌, ◌++◌, append_assoc, append-nil}
use Prim.Native.Nat.{ℕ, suc, ◌+◌, ◌-◌, ◌*◌, ◌%◌, ◌≤◌, ◌<◌}
use native.Mathlib.Numerals.{add-one}
use native.Mathlib.Omega.{arith}
use lib.ListN.{length, drop, get_or, set, length-append, length-drop, drop_of_length-le}
use lib.Seq.{drop-cons}
use borrow.Author.Tests.{eq-eqb, ne_eqb}
use Rattle.std.specs.Prelude.{Some, None}
use Rattle.rules.specs.Plain.{hex_value, form_bytes, escaped_byte}
use Rattle.tables.specs.Store.{store}
use Rattle.plain.specs.Put.{PutAt, put-none, put_then, put_as}
use Rattle.plain.specs.Taken.{TakenIs}
use Rattle.plain.specs.declared.Taken.{Taken}

-- ONE BYTE
escaped-short : (l : List ℕ) → length l < 2 → escaped_byte l ≡ []
unfolding escaped_byte
escaped-short [] h = refl
escaped-short (x ∷ []) h = refl
escaped-short (x ∷ y ∷ l) h = absurd (omega arith)

module _ (s : List ℕ) (i : ℕ) (h : i < length s) where
  pub taken-kept : (get_or s i 0 ≡ 95 → ⊥) → TakenIs s i (Some (record { value = get_or s i 0; next = i + 1 }))
  unfolding form_bytes
  taken-kept n = (rw (drop-cons s i 0 h, ne_eqb (get_or s i 0) 95 n, add-one), omega arith, omega arith)

  module _ (e : get_or s i 0 ≡ 95) where
    pub taken-nothing : length s - i < 3 → TakenIs s i None
    unfolding form_bytes
    taken-nothing k =
        rw (drop-cons s i 0 h, eq-eqb (get_or s i 0) 95 e) (escaped-short (drop (suc i) s) (omega (arith, length-drop (suc i) s)))

    pub taken-digits : 3 ≤ length s - i → (v : ℕ) → v ≡ (16 * hex_value (get_or s (i + 1) 0) + hex_value (get_or s (i + 2) 0)) % 256 → TakenIs s i (Some (record { value = v; next = i + 3 }))
    unfolding form_bytes escaped_byte
    taken-digits k v q =
        let one : suc i ≡ i + 1 = omega arith in
        let two : suc (suc i) ≡ i + 2 = omega arith in
        let three : suc (i + 2) ≡ i + 3 = omega arith in
        let a : drop (suc i) s ≡ get_or s (i + 1) 0 ∷ drop (i + 2) s =
        drop-cons s (suc i) 0 (omega arith) ∙ ap₂ (λ (j k : ℕ). get_or s j 0 ∷ drop k s) one two in
        let b : drop (i + 2) s ≡ get_or s (i + 2) 0 ∷ drop (i + 3) s =
        drop-cons s (i + 2) 0 (omega arith) ∙ ap (λ (k : ℕ). get_or s (i + 2) 0 ∷ drop k s) three in
        (rw (drop-cons s i 0 h, eq-eqb (get_or s i 0) 95 e, a, b, q), omega arith, omega arith)

-- ALL OF THEM: those before place i are put, and from there on they stand for the rest
pub record TakenTo (form : List ℕ) (at i : ℕ) (old new : List ℕ) (end : ℕ) : Type 0 where
  pub done : List ℕ
  pub put : PutAt at done old new end
  pub short : length done ≤ i
  pub within : i ≤ length form
  pub whole : form_bytes form ≡ done ++ form_bytes (drop i form)

pub taken_start : (form : List ℕ) (at : ℕ) (old : List ℕ) → TakenTo form at 0 old old at
taken_start form at old = record { done = []; put = put-none at old; short = omega arith; within = omega arith; whole = refl }

module _ {form : List ℕ} {at i : ℕ} {old new : List ℕ} {end : ℕ} (t : TakenTo form at i old new end) where
  -- the next byte has room, since what they stand for is no longer than they are
  pub taken-room : i < length form → at + length form ≤ length old → end < length old
  taken-room h r = omega (arith, t.put.place, t.short)

  pub taken_next : (b : Taken) → TakenIs form i (Some b) → TakenTo form at b.next old (set new end b.value) (end + 1)
  unfolding store
  taken_next b q =
      record {
        done = t.done ++ b.value ∷ [];
        put = put_then t.put (record { place = refl; stored = refl });
        short = omega (arith, t.short, q.1, length-append t.done (b.value ∷ []));
        within = q.2;
        whole = t.whole ∙ ap (λ (l : List ℕ). t.done ++ l) q.0 ∙ sym (append_assoc t.done (b.value ∷ []) (form_bytes (drop b.next form)));
      }

  pub taken-stop : form_bytes (drop i form) ≡ [] → PutAt at (form_bytes form) old new end
  taken-stop e = put_as t.put (sym (t.whole ∙ ap (λ (l : List ℕ). t.done ++ l) e ∙ append-nil t.done))

  pub taken-all : length form ≤ i → PutAt at (form_bytes form) old new end
  unfolding form_bytes
  taken-all h = taken-stop (ap form_bytes (drop_of_length-le form h))
