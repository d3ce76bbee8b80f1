-- One piece of text behind another, and the texts of the rules piece by piece.
-- Assumes nothing.
use mathlib.Core.Path.{◌≡◌, refl, sym, ap, ◌∙◌}
use mathlib.Core.Bool.{Bool, true, false, cond}
use mathlib.Core.List.{List, [], ◌∷◌, ◌++◌}
use Prim.Native.Nat.{ℕ, zero, suc, ◌+◌, ◌-◌, ◌/◌, ◌%◌, ◌≤◌, ◌<◌}
use native.Mathlib.Numerals.{add-one}
use native.Mathlib.Omega.{arith}
use borrow.Author.Tests.{lt-ltb, le-ltb, ltb-false}
use lib.Dec.{ltb}
use lib.ListN.{length, take, get_or, set, replicate, length-set, replicate-append-replicate}
use lib.Seq.{take-suc, take_all, set_out}
use Rattle.rules.specs.Text.{decimal_onto, decimal_text}
use Rattle.tables.specs.Store.{store, length-store}
use Rattle.text.specs.Written.{Written, moved}

-- a byte in its place (past the room's end that changes nothing), and one past byte 32768
pub one_byte : (l m : List ℕ) (at b : ℕ) → m ≡ set l at b → at < 32768 → Written at (b ∷ []) l m (at + 1)
unfolding store moved
one_byte l m at b e h =
    record { place = omega arith; stored = e ∙ ap (store l at) (sym (take_all (32768 - at) (b ∷ []) (omega arith))); kept = ap length e ∙ length-set l at b }

pub past-byte : (l : List ℕ) (at b : ℕ) → 32768 ≤ at → Written at (b ∷ []) l l 32769
unfolding store moved
past-byte l at b h = let k : 32768 - at ≡ 0 = omega arith in record { place = omega arith; stored = rw k; kept = refl }

-- all the bytes in their places; where no byte has one, that changes nothing
pub all-bytes : (l m s : List ℕ) (at : ℕ) → m ≡ store l at s → at + length s ≤ 32768 → Written at s l m (at + length s)
unfolding moved
all-bytes l m s at e h =
    record { place = omega arith; stored = e ∙ ap (store l at) (sym (take_all (32768 - at) s (omega arith))); kept = ap length e ∙ length-store l at s }

pub store-past : (l : List ℕ) (at : ℕ) (vs : List ℕ) → length l ≤ at → store l at vs ≡ l
unfolding store
store-past l at [] h = refl
store-past l at (v ∷ vs) h = ap (λ (x : List ℕ). store x (suc at) vs) (set_out l at v h) ∙ store-past l (suc at) vs (omega arith)

-- ---- decimal digits

-- what stands behind the digits
onto-append : (k n : ℕ) (ds es : List ℕ) → decimal_onto k n (ds ++ es) ≡ decimal_onto k n ds ++ es
unfolding decimal_onto
onto-append zero n ds es = refl
onto-append (suc k) n ds es = pick (ltb n 10) (onto-append k (n / 10) one es)
  where
    one : List ℕ
    one = (48 + n % 10) ∷ ds

    pick : (t : Bool) → decimal_onto k (n / 10) (one ++ es) ≡ decimal_onto k (n / 10) one ++ es → cond t (one ++ es) (decimal_onto k (n / 10) (one ++ es)) ≡ cond t one (decimal_onto k (n / 10) one) ++ es
    pick true e = refl
    pick false e = e

-- every sufficient number of turns gives the same
onto-turns : (j k n : ℕ) (ds : List ℕ) → n < j → n < k → decimal_onto j n ds ≡ decimal_onto k n ds
unfolding decimal_onto
onto-turns zero k n ds h i = absurd (omega arith)
onto-turns (suc j) zero n ds h i = absurd (omega arith)
onto-turns (suc j) (suc k) n ds h i = pick (ltb n 10) refl (onto-turns j k (n / 10) one)
  where
    one : List ℕ
    one = (48 + n % 10) ∷ ds

    pick : (t : Bool) → ltb n 10 ≡ t → (n / 10 < j → n / 10 < k → decimal_onto j (n / 10) one ≡ decimal_onto k (n / 10) one) → cond t one (decimal_onto j (n / 10) one) ≡ cond t one (decimal_onto k (n / 10) one)
    pick true e more = refl
    pick false e more =
        let l : 10 ≤ n = ltb-false n 10 e in
        more (omega arith) (omega arith)

pub decimal-one : (n : ℕ) → n < 10 → decimal_text n ≡ (48 + n % 10) ∷ []
unfolding decimal_text decimal_onto
decimal-one n h = rw (lt-ltb n 10 h)

pub decimal-more : (n : ℕ) → 10 ≤ n → decimal_text n ≡ decimal_text (n / 10) ++ (48 + n % 10) ∷ []
unfolding decimal_text decimal_onto
decimal-more n h = first ∙ onto-append n (n / 10) [] ((48 + n % 10) ∷ []) ∙ ap (λ (ds : List ℕ). ds ++ (48 + n % 10) ∷ []) (onto-turns n (suc (n / 10)) (n / 10) [] (omega arith) (omega arith))
  where
    first : decimal_onto (suc n) n [] ≡ decimal_onto n (n / 10) ((48 + n % 10) ∷ [])
    first = rw (le-ltb n 10 h)

-- ---- turns of loops

pub spaces-more : (n : ℕ) → ◌++◌ {A = ℕ} (replicate n 32) (32 ∷ []) ≡ replicate (n + 1) 32
spaces-more n = replicate-append-replicate n 1 32

pub bytes-more : (s : List ℕ) (i : ℕ) → i < length s → take i s ++ get_or s i 0 ∷ [] ≡ take (i + 1) s
bytes-more s i h = sym (rw add-one (take-suc s i 0 h))
