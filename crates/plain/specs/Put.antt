-- What is put into lent room: a text at a place, and a call's answer at the start.
-- Assumes nothing.
use Rattle.std.specs.Prelude.{◌≡◌, ℕ, ◌+◌, ◌-◌, ◌*◌, ◌≤◌, ◌<◌, length, take, drop, get_or}
use Rattle.std.proofs.Common.{sym, ap, ap₂, ◌∙◌, arith, length-append, take-append-drop}
use mathlib.Core.List.{List, [], ◌∷◌, ◌++◌, flat_map}
use Rattle.std.proofs.Math.Seq.{take-append_seam}
use Rattle.rules.specs.Judgement.{Verdict, accepted, refused}
use Rattle.lists.specs.Lists.{flat_map-append, flat_map-more}
use Rattle.tables.specs.Store.{store, store-none, store_then, store-eq, length-store}

-- the text stands from a place on, nothing else is changed, and r is the place behind it
pub record PutAt (at : ℕ) (text old new : List ℕ) (r : ℕ) : Type 0 where
  pub place : r ≡ at + length text
  pub stored : new ≡ store old at text

-- number, length and the room: the answer stands at its start, and a refusal changes nothing
unfoldable pub wrote : List ℕ → Verdict (List ℕ) → ℕ × ℕ × List ℕ
wrote old (accepted t) = (0, length t, store old 0 t)
wrote old (refused n) = (n, 0, old)

pub put-none : (at : ℕ) (old : List ℕ) → PutAt at [] old old at
put-none at old = record { place = omega arith; stored = sym (store-none old at) }

pub put-kept : {at r : ℕ} {xs o p : List ℕ} → PutAt at xs o p r → length p ≡ length o
put-kept {at} {r} {xs} {o} w = ap length w.stored ∙ length-store o at xs

-- one text behind another, and the same text by another name
pub put_then : {at r t : ℕ} {xs ys o p q : List ℕ} → PutAt at xs o p r → PutAt r ys p q t → PutAt at (xs ++ ys) o q t
put_then {at} {r} {t} {xs} {ys} {o} {p} {q} w v =
    record {
      place = omega (arith, w.place, v.place, length-append xs ys);
      stored = store_then o p q at r xs ys w.stored w.place v.stored;
    }

pub put_as : {at r : ℕ} {xs ys o p : List ℕ} → PutAt at xs o p r → xs ≡ ys → PutAt at ys o p r
put_as w e = rw e at w

-- a text by its case, stored by one copy
pub put-by : {at r : ℕ} {xs ys o p : List ℕ} → xs ≡ ys → p ≡ store o at ys → r ≡ at + length ys → PutAt at xs o p r
put-by e s h = rw e (record { place = h; stored = s })

-- what was put at the start of a room, cut out again
pub put-part : {r : ℕ} {xs o p : List ℕ} → PutAt 0 xs o p r → length xs ≤ length o → take (r - 0) (drop 0 p) ≡ xs
put-part {r} {xs} {o} {p} w h =
    let e : r - 0 ≡ length xs = omega (arith, w.place) in
    ap₂ (λ (k : ℕ) (x : List ℕ). take k (drop 0 x)) e (w.stored ∙ store-eq o 0 xs (omega arith)) ∙ take-append_seam xs (drop (0 + length xs) o)

-- LOOPS OVER BYTES, each of which becomes some bytes: room for the next, and the size so far
pub part-fits :
    (f : ℕ → List ℕ) (s : List ℕ) (i : ℕ) → i < length s → length (flat_map f (take i s)) + length (f (get_or s i 0)) ≤ length (flat_map f s)
part-fits f s i h =
    let e : flat_map f s ≡ flat_map f (take (i + 1) s) ++ flat_map f (drop (i + 1) s) =
    ap (flat_map f) (sym (take-append-drop (i + 1) s)) ∙ flat_map-append f (take (i + 1) s) (drop (i + 1) s) in
    omega (
      arith,
      ap length e,
      length-append (flat_map f (take (i + 1) s)) (flat_map f (drop (i + 1) s)),
      ap length (flat_map-more f s i 0 h),
      length-append (flat_map f (take i s)) (f (get_or s i 0)),
    )

pub flat_map-most : (f : ℕ → List ℕ) (k : ℕ) → ((b : ℕ) → length (f b) ≤ k) → (s : List ℕ) → length (flat_map f s) ≤ k * length s
unfolding flat_map
flat_map-most f k h [] = omega arith
flat_map-most f k h (b ∷ s) = omega (arith, h b, flat_map-most f k h s, length-append (f b) (flat_map f s))

pub size-more :
    (f : ℕ → List ℕ) (s : List ℕ) (i size x : ℕ) → i < length s → size ≡ length (flat_map f (take i s)) → x ≡ length (f (get_or s i 0)) →
    size + x ≡ length (flat_map f (take (i + 1) s))
size-more f s i size x h e q = omega (arith, ap length (flat_map-more f s i 0 h), length-append (flat_map f (take i s)) (f (get_or s i 0)))
