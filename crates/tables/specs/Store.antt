-- A run of values stored in a table, and its laws. Bytes and words are both numbers, so a law of numbers serves both kinds of table.
-- Assumes nothing.
use Rattle.std.specs.Prelude.{◌≡◌, refl, List, [], ◌∷◌, ◌++◌, ℕ, suc, ◌+◌, ◌-◌, ◌≤◌, ◌<◌, length, take, drop, get_or, set}
use Rattle.std.proofs.Common.{sym, ap, ap₂, ◌∙◌, append_assoc, append-nil, add-zero, add-one, arith, length-append, length-take-le, take_all, take-suc, take_at, drop_at, get_or-take, get_or-drop}
use borrow.Rule.Slice.PartMut.{put_mid}
use Rattle.std.proofs.Math.Seq.{slice, length-sets, take-append_seam, drop-append_seam}
use Rattle.std.proofs.lemmas.List.{drop-drop}
use Rattle.std.proofs.lemmas.List.Edits.{sets, sets-eq}

-- values stored one behind another, from a place on
unfoldable pub store : {A : Type 0} → List A → ℕ → List A → List A
store l at vs = sets l at vs

pub store-none : {A : Type 0} (l : List A) (at : ℕ) → store l at [] ≡ l
unfolding store
store-none l at = refl

pub length-store : {A : Type 0} (l : List A) (at : ℕ) (vs : List A) → length (store l at vs) ≡ length l
unfolding store
length-store l at vs = length-sets l at vs

-- what stands in front, the values, and what stands behind
pub store-eq : {A : Type 0} (l : List A) (at : ℕ) (vs : List A) → at + length vs ≤ length l → store l at vs ≡ take at l ++ vs ++ drop (at + length vs) l
unfolding store
store-eq l at vs h = sets-eq vs l at h

-- the values written over that part of the table
pub put_store : {A : Type 0} (l : List A) (at k : ℕ) (vs ys : List A) → ys ≡ vs → k ≡ length vs → at + length vs ≤ length l → put_mid at k l ys ≡ store l at vs
put_store l at k vs ys ey ek h = rw (ey, ek, store-eq l at vs h, drop-drop, append_assoc)

-- two runs, one behind the other, are one
sets-sets : {A : Type 0} (l : List A) (at : ℕ) (vs ws : List A) → sets (sets l at vs) (at + length vs) ws ≡ sets l at (vs ++ ws)
sets-sets l at [] ws = ap (λ (k : ℕ). sets l k ws) (add-zero at)
sets-sets l at (v ∷ vs) ws =
    ap (λ (k : ℕ). sets (sets (set l at v) (suc at) vs) k ws) (omega arith) ∙ sets-sets (set l at v) (suc at) vs ws

pub store-store : (l : List ℕ) (at : ℕ) (vs ws : List ℕ) → store (store l at vs) (at + length vs) ws ≡ store l at (vs ++ ws)
unfolding store
store-store l at vs ws = sets-sets l at vs ws

-- one value behind a run
pub store-snoc : (l : List ℕ) (at : ℕ) (vs : List ℕ) (v : ℕ) → store l at (vs ++ v ∷ []) ≡ set (store l at vs) (at + length vs) v
unfolding store
store-snoc l at vs v = sym (sets-sets l at vs (v ∷ []))

-- a turn of a loop that stores the next value, of any type
pub store-turn : {A : Type 0} (d l vs : List A) (at j : ℕ) (v : A) → l ≡ store d at (take j vs) → j < length vs → v ≡ get_or vs j v → set l (at + j) v ≡ store d at (take (j + 1) vs)
unfolding store
store-turn d l vs at j v e h ev =
    let long : length (take j vs) ≡ j = length-take-le j vs (omega arith) in
    let more : take (suc j) vs ≡ take j vs ++ v ∷ [] = take-suc vs j v h ∙ ap (λ y. take j vs ++ y ∷ []) (sym ev) in
    rw (add-one, more, e)
    (ap (λ (n : ℕ). set (sets d at (take j vs)) (at + n) v) (sym long) ∙ sets-sets d at (take j vs) (v ∷ []))

-- a turn of a loop that stores one value more
pub store-more : (d l : List ℕ) (at i v : ℕ) (vs ws : List ℕ) → l ≡ store d at vs → i ≡ at + length vs → ws ≡ vs ++ v ∷ [] → set l i v ≡ store d at ws
store-more d l at i v vs ws el ei ew = rw (el, ei, ew, store-snoc)

-- a run behind a run, in tables and at a place that are known by equations
pub store_then : (d l l' : List ℕ) (at end : ℕ) (vs ws : List ℕ) → l ≡ store d at vs → end ≡ at + length vs → l' ≡ store l end ws → l' ≡ store d at (vs ++ ws)
store_then d l l' at end vs ws el ee e = rw (e, el, ee) (store-store d at vs ws)

-- a turn of a loop that stores the next value of a list, and the loop's end
module _ (d l vs : List ℕ) (at j : ℕ) (e : l ≡ store d at (take j vs)) where
  pub filled : (v : ℕ) → j < length vs → v ≡ get_or vs j 0 → set l (at + j) v ≡ store d at (take (j + 1) vs)
  filled v h ev =
      store-more d l at (at + j) v (take j vs) (take (j + 1) vs) e
      (ap (λ (k : ℕ). at + k) (sym (length-take-le j vs (omega arith))))
      (rw (add-one, ev) (take-suc vs j 0 h))

  pub filled-end : length vs ≤ j → l ≡ store d at vs
  filled-end h = e ∙ ap (store d at) (take_all j vs h)

-- the part that was stored, and what stands in front of it
module _ (l : List ℕ) (at : ℕ) (vs : List ℕ) (room : at + length vs ≤ length l) where
  front_long : length (take at l ++ vs) ≡ at + length vs
  front_long = length-append (take at l) vs ∙ ap (λ (n : ℕ). n + length vs) (length-take-le at l (omega arith))

  pub store-slice : slice at (at + length vs) (store l at vs) ≡ vs
  store-slice =
      ap (slice at (at + length vs)) (store-eq l at vs room)
      ∙ ap (drop at) (take_at (take at l ++ vs) (drop (at + length vs) l) (at + length vs) front_long)
      ∙ drop_at (take at l) vs at (length-take-le at l (omega arith))

  pub store-take : take at (store l at vs) ≡ take at l
  store-take =
      ap (take at) (store-eq l at vs room ∙ append_assoc (take at l) vs (drop (at + length vs) l))
      ∙ take_at (take at l) (vs ++ drop (at + length vs) l) at (length-take-le at l (omega arith))

  store-drop : drop (at + length vs) (store l at vs) ≡ drop (at + length vs) l
  store-drop = ap (drop (at + length vs)) (store-eq l at vs room) ∙ drop_at (take at l ++ vs) (drop (at + length vs) l) (at + length vs) front_long

-- a read inside a run, in front of it, and behind it
pub store-inside : (l : List ℕ) (at : ℕ) (vs : List ℕ) (i : ℕ) → at + length vs ≤ length l → i < length vs → get_or (store l at vs) (at + i) 0 ≡ get_or vs i 0
store-inside l at vs i h k =
    sym (get_or-drop at (take (at + length vs) (store l at vs)) i 0 ∙ get_or-take (at + length vs) (store l at vs) (at + i) 0 (omega arith))
    ∙ ap (λ (x : List ℕ). get_or x i 0) (store-slice l at vs h)

pub store-before : (l : List ℕ) (at : ℕ) (vs : List ℕ) (i : ℕ) → at + length vs ≤ length l → i < at → get_or (store l at vs) i 0 ≡ get_or l i 0
store-before l at vs i h k = sym (get_or-take at (store l at vs) i 0 k) ∙ ap (λ (x : List ℕ). get_or x i 0) (store-take l at vs h) ∙ get_or-take at l i 0 k

pub store-behind : (l : List ℕ) (at : ℕ) (vs : List ℕ) (i : ℕ) → at + length vs ≤ length l → at + length vs ≤ i → get_or (store l at vs) i 0 ≡ get_or l i 0
store-behind l at vs i h k =
    let at-end : (x : List ℕ) → get_or (drop (at + length vs) x) (i - (at + length vs)) 0 ≡ get_or x i 0 =
    λ x. let e : at + length vs + (i - (at + length vs)) ≡ i = omega arith in rw (get_or-drop, e) in
    sym (at-end (store l at vs)) ∙ ap (λ (x : List ℕ). get_or x (i - (at + length vs)) 0) (store-drop l at vs h) ∙ at-end l

-- a run over a part that is known
pub store-over : (xs ys zs vs : List ℕ) → length vs ≡ length ys → store (xs ++ ys ++ zs) (length xs) vs ≡ xs ++ vs ++ zs
store-over xs ys zs vs e =
    let room : length xs + length vs ≤ length (xs ++ ys ++ zs) = simp length-append (omega arith) in
    let end : length xs + length vs ≡ length (xs ++ ys) = simp length-append (omega arith) in
    store-eq (xs ++ ys ++ zs) (length xs) vs room
    ∙ ap₂ (λ (x y : List ℕ). x ++ vs ++ y)
    (ap (take (length xs)) (append_assoc xs ys zs) ∙ take-append_seam xs (ys ++ zs))
    (ap (λ (k : ℕ). drop k (xs ++ ys ++ zs)) end ∙ drop-append_seam (xs ++ ys) zs)

-- a run over the whole table
pub store-all : (l vs : List ℕ) → length vs ≡ length l → store l 0 vs ≡ vs
store-all l vs e =
    ap (λ (x : List ℕ). store x 0 vs) (sym (append-nil l)) ∙ store-over [] l [] vs e ∙ append-nil vs
