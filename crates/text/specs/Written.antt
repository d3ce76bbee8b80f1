-- A piece of text written into lent room from a place on.
-- Assumes nothing.
use Rattle.std.specs.Prelude.{◌≡◌, refl, List, [], ◌++◌, ℕ, min, ◌+◌, ◌-◌, ◌<◌, ◌≤◌, length, take}
use Rattle.std.proofs.Common.{sym, ap, ap₂, ◌∙◌, arith, length-append, take_all}
use Rattle.std.proofs.Math.Seq.{take-nil, take-append-add}
use Rattle.std.proofs.lemmas.List.{take-append-le}
use Rattle.rules.specs.Limits.{longest_file, past_text}
use Rattle.lists.specs.Tests.{by_order}
use Rattle.tables.specs.Store.{store, store-none, store-store}

-- the place n bytes on; it stops at 32769, since a text of more than 32768 bytes is refused
unfoldable pub moved : ℕ → ℕ → ℕ
moved at n = min (at + n) past_text

-- the text stands from a place on where the room has a place for it, up to byte 32768, and r is the place behind it
pub record Written (at : ℕ) (text : List ℕ) (old new : List ℕ) (r : ℕ) : Type 0 where
  pub place : r ≡ moved at (length text)
  pub stored : new ≡ store old at (take (longest_file - at) text)
  pub kept : length new ≡ length old

moved-moved : (at n m : ℕ) → moved (moved at n) m ≡ moved at (n + m)
unfolding moved
moved-moved at n m = omega arith

pub written_none : (at : ℕ) (l : List ℕ) → at ≤ past_text → Written at [] l l at
unfolding moved
written_none at l h = record { place = omega arith; stored = sym (ap (store l at) (take-nil (longest_file - at)) ∙ store-none l at); kept = refl }

pub written-most : {at : ℕ} {xs o p : List ℕ} {r : ℕ} → Written at xs o p r → r ≤ past_text
unfolding moved
written-most w = omega (arith, w.place)

-- the end of a text that does not end past 32768, and how the place tells it
pub written-end : {at : ℕ} {xs o p : List ℕ} {r : ℕ} → Written at xs o p r → at + length xs ≤ longest_file → r ≡ at + length xs
unfolding moved
written-end w h = omega (arith, w.place)

pub written-whole : {at : ℕ} {xs o p : List ℕ} {r : ℕ} → Written at xs o p r → at + length xs ≤ longest_file → p ≡ store o at xs
written-whole {at} {xs} {o} w h = w.stored ∙ ap (store o at) (take_all (longest_file - at) xs (omega arith))

-- one piece behind another
pub written_then : {at r t : ℕ} {xs ys o p q : List ℕ} → Written at xs o p r → Written r ys p q t → Written at (xs ++ ys) o q t
unfolding moved
written_then {at} {r} {t} {xs} {ys} {o} {p} {q} w v =
    record {
      place = v.place ∙ ap (λ (k : ℕ). moved k (length ys)) w.place ∙ moved-moved at (length xs) (length ys) ∙ ap (moved at) (sym (length-append xs ys));
      stored = by_order (at + length xs) longest_file inside past;
      kept = v.kept ∙ w.kept;
    }
  where
    inside : at + length xs ≤ longest_file → q ≡ store o at (take (longest_file - at) (xs ++ ys))
    inside h =
        let n : ℕ = longest_file - (at + length xs) in
        let e : longest_file - at ≡ length xs + n = omega arith in
        v.stored
        ∙ ap₂ (λ (l : List ℕ) (k : ℕ). store l k (take (longest_file - k) ys)) (written-whole w h) (written-end w h)
        ∙ store-store o at xs (take n ys)
        ∙ ap (store o at) (sym (ap (λ (k : ℕ). take k (xs ++ ys)) e ∙ take-append-add xs ys n))

    past : longest_file < at + length xs → q ≡ store o at (take (longest_file - at) (xs ++ ys))
    past h =
        let e : longest_file - r ≡ 0 = omega (arith, w.place) in
        v.stored
        ∙ ap (λ (k : ℕ). store p r (take k ys)) e
        ∙ store-none p r
        ∙ w.stored
        ∙ ap (store o at) (sym (take-append-le (longest_file - at) xs ys (omega arith)))

-- the same piece by another name
pub written_as : {at r : ℕ} {xs ys o p : List ℕ} → Written at xs o p r → xs ≡ ys → Written at ys o p r
written_as w e = rw e at w
