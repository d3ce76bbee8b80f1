-- The laws of a table that holds a list and zeros behind it (`padded` of the rules).
-- Assumes nothing.
use Rattle.std.specs.Prelude.{◌≡◌, refl, true, List, [], ◌∷◌, ◌++◌, ℕ, zero, suc, ◌+◌, ◌-◌, ◌≤◌, eqb, length, take, drop, get_or, replicate}
use Rattle.std.proofs.Common.{sym, ap, ap₂, ◌∙◌, append_assoc, arith, length-append, length-drop, take-append-drop}
use Rattle.std.proofs.lemmas.Bool.{false≢true}
use Rattle.std.proofs.Math.Nat.{sub-zero}
use Rattle.std.proofs.Math.Dec.{eqb-zero-suc}
use Rattle.std.proofs.lemmas.List.{length-replicate, replicate-append-replicate}
use Rattle.std.proofs.Math.ListN.{get_or-eq_default}
use Rattle.std.proofs.Math.Seq.{drop-append_seam}
use Rattle.rules.specs.Bytes.{all}
use Rattle.rules.specs.Layout.{padded, row}
use Rattle.tables.specs.Store.{store, store-over}

-- ---- zeros

pub all-zeros : (n : ℕ) → all (eqb 0) (replicate n 0) ≡ true
unfolding all
all-zeros zero = refl
all-zeros (suc n) = all-zeros n

pub zeros-all : (xs : List ℕ) → all (eqb 0) xs ≡ true → xs ≡ replicate (length xs) 0
unfolding all
zeros-all [] e = refl
zeros-all (zero ∷ xs) e = ap (λ (r : List ℕ). 0 ∷ r) (zeros-all xs e)
zeros-all (suc x ∷ xs) e = absurd (false≢true (rw eqb-zero-suc at e))

get_or-zeros : (xs : List ℕ) (m i : ℕ) → get_or (xs ++ replicate m 0) i 0 ≡ get_or xs i 0
get_or-zeros [] zero i = refl
get_or-zeros [] (suc m) zero = refl
get_or-zeros [] (suc m) (suc i) = get_or-zeros [] m i
get_or-zeros (x ∷ xs) m zero = refl
get_or-zeros (x ∷ xs) m (suc i) = get_or-zeros xs m i

-- ---- what a padded table is

pub padded-nil : (n : ℕ) → padded n [] ≡ replicate n 0
unfolding padded
padded-nil n = rw sub-zero

pub length-padded : (n : ℕ) (xs : List ℕ) → length xs ≤ n → length (padded n xs) ≡ n
unfolding padded
length-padded n xs h = simp (length-append, length-replicate) (omega arith)

pub length-row : (xs : List ℕ) → length xs ≤ 8 → length (row xs) ≡ 8
unfolding row
length-row xs h = length-padded 8 xs h

-- a read anywhere
pub padded-get_or : (n : ℕ) (xs : List ℕ) (i : ℕ) → get_or (padded n xs) i 0 ≡ get_or xs i 0
unfolding padded
padded-get_or n xs i = get_or-zeros xs (n - length xs) i

pub padded-behind : (n : ℕ) (xs : List ℕ) (i : ℕ) → length xs ≤ i → ◌≡◌ {A = ℕ} (get_or (padded n xs) i 0) 0
padded-behind n xs i h = padded-get_or n xs i ∙ get_or-eq_default xs 0 {n = i} h

pub padded-drop : (n : ℕ) (xs : List ℕ) → drop (length xs) (padded n xs) ≡ replicate (n - length xs) 0
unfolding padded
padded-drop n xs = drop-append_seam xs (replicate (n - length xs) 0)

-- behind the list stand zeros, and a table that holds the list in front and zeros behind it is the padded list
pub padded-rest : (n : ℕ) (xs : List ℕ) → all (eqb 0) (drop (length xs) (padded n xs)) ≡ true
padded-rest n xs = rw padded-drop (all-zeros (n - length xs))

pub is-padded : (n k : ℕ) (xs t : List ℕ) → length xs ≡ k → length t ≡ n → take k t ≡ xs → all (eqb 0) (drop k t) ≡ true → t ≡ padded n xs
unfolding padded
is-padded n k xs t ek en front rest =
    sym (take-append-drop k t)
    ∙ ap₂ (λ (x y : List ℕ). x ++ y) front
    (zeros-all (drop k t) rest ∙ ap (λ (m : ℕ). replicate m 0) (length-drop k t ∙ ap₂ (λ (a b : ℕ). a - b) en (sym ek)))

-- zeros at the end of the list are padding
pub padded-zeros : (n : ℕ) (xs : List ℕ) (m : ℕ) → length xs + m ≤ n → padded n (xs ++ replicate m 0) ≡ padded n xs
unfolding padded
padded-zeros n xs m h =
    let e : m + (n - (length xs + m)) ≡ n - length xs = omega arith in
    rw (length-append, length-replicate, append_assoc, replicate-append-replicate, e)

-- ---- stores in a padded table

-- over the last values: as many others
pub padded-over : (n : ℕ) (xs ys vs : List ℕ) → length vs ≡ length ys → store (padded n (xs ++ ys)) (length xs) vs ≡ padded n (xs ++ vs)
unfolding padded
padded-over n xs ys vs e =
    let k : n - length (xs ++ ys) ≡ n - length (xs ++ vs) = simp length-append (omega arith) in
    store-over xs ys (replicate (n - length (xs ++ ys)) 0) vs e ∙ ap (λ (m : ℕ). xs ++ vs ++ replicate m 0) k

-- behind what is used: the padded list with the values appended
pub store-padded : (n : ℕ) (xs ys l : List ℕ) (at : ℕ) → l ≡ padded n xs → at ≡ length xs → length xs + length ys ≤ n → store l at ys ≡ padded n (xs ++ ys)
store-padded n xs ys l at el ea h =
    ap₂ (λ (x : List ℕ) (k : ℕ). store x k ys) (el ∙ sym (padded-zeros n xs (length ys) h)) ea
    ∙ padded-over n xs (replicate (length ys) 0) ys (sym (length-replicate (length ys) 0))

-- taking the last values back: zeros stored over them
pub padded-unput : (n : ℕ) (xs ys : List ℕ) → length xs + length ys ≤ n → store (padded n (xs ++ ys)) (length xs) (replicate (length ys) 0) ≡ padded n xs
padded-unput n xs ys h =
    padded-over n xs ys (replicate (length ys) 0) (length-replicate (length ys) 0) ∙ padded-zeros n xs (length ys) h
