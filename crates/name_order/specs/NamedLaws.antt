-- The turns of the halving, of the pass and of the building, over an index xs of wires that have the names f.
-- Assumes nothing.
use Rattle.std.specs.Prelude.{ℕ, suc, ◌+◌, ◌-◌, ◌≤◌, ◌<◌, ◌≡◌, refl, Bool, true, false, eqb, get_or, take, set}
use Rattle.std.proofs.Math.Path.{sym, ap}
use Rattle.std.proofs.Common.{◌∙◌, length-append, length-drop, length-take-le, take-take, drop-drop, drop_at, get_or-take, get_or-drop}
use mathlib.Core.List.{List, [], ◌∷◌, ◌++◌, map, append_assoc}
use native.Mathlib.Omega.{arith}
use Rattle.std.proofs.Math.ListN.{length, drop}
use Rattle.std.proofs.lemmas.List.{length-map, take-append-le, drop-append-le}
use Rattle.std.proofs.Math.Seq.{slice, paste}
use borrow.Author.Tests.{le-ltb, lt-ltb, eq-eqb, ne_eqb, eqb-true, eqb-false}
use Rattle.rules.specs.Tokens.{Name}
use Rattle.rules.specs.Sorted.{before}
use Rattle.lists.specs.Tests.{by-test}
use Rattle.lists.specs.Lists.{map_at}
use Rattle.lists.specs.Parts.{slice-span, length_part}
use Rattle.tables.specs.Store.{store, store-none, length-store, store-eq, store-more, store-slice, store-behind, filled, filled-end}
use Rattle.byte_order.specs.Order.{Ordered, Halved, place, order_up, index_up, stands_next}
use Rattle.byte_order.specs.OrderLaws.{place-le, halved-start, halved-up, halved-down, index-ordered, index-more, length-index}
use Rattle.name_order.specs.declared.Halves.{Halves}
use Rattle.name_order.specs.Named.{NextHalves}

module _ (f : ℕ → Name) (xs : List ℕ) where
  -- HALVING
  pub halves-start : (n : Name) → Halved n (map f xs) 0 (length xs)
  halves-start n = rw (← length-map xs f) (halved-start n (map f xs))

  module _ (n : Name) (left : Halves) (h : Halved n (map f xs) left.low left.high) (mid : ℕ) (b : mid < left.high) where
    pub middle-inside : mid < length xs
    middle-inside = omega (arith, b, h.within, length-map xs f)

    module _ (o : Ordered (map f xs)) (a : left.low ≤ mid) (t : Bool) (et : t ≡ before (f (get_or xs mid 0)) n) where
      turn : before (get_or (map f xs) mid []) n ≡ t
      turn = ap (λ (m : Name). before m n) (map_at f xs mid [] 0 middle-inside) ∙ sym et

      pub upper-half : t ≡ true → NextHalves n (map f xs) left (record { low = mid + 1; high = left.high })
      upper-half e = record { halved = halved-up n (map f xs) left.low left.high h o mid b a (turn ∙ e); less = omega (arith, a, b) }

      pub lower-half : t ≡ false → NextHalves n (map f xs) left (record { low = left.low; high = mid })
      lower-half e = record { halved = halved-down n (map f xs) left.low left.high h o mid b a (turn ∙ e); less = omega (arith, a, b) }

  -- THE PASS
  module _ (many k : ℕ) where
    pub next-outside : many ≤ get_or xs k 0 → false ≡ stands_next f many xs k
    unfolding stands_next
    next-outside h = rw (le-ltb (get_or xs k 0) many h)

    pub next-first : get_or xs k 0 < many → k ≡ 0 → true ≡ stands_next f many xs k
    unfolding stands_next
    next-first h e = rw (lt-ltb (get_or xs k 0) many h, eq-eqb k 0 e)

    pub next-on : get_or xs k 0 < many → (k ≡ 0 → ⊥) → (b : Bool) → b ≡ before (f (get_or xs (k - 1) 0)) (f (get_or xs k 0)) → b ≡ stands_next f many xs k
    unfolding stands_next
    next-on h e b eb = rw (lt-ltb (get_or xs k 0) many h, ne_eqb k 0 e) eb

    pub next_more : ((j : ℕ) → j < k → stands_next f many xs j ≡ true) → stands_next f many xs k ≡ true → (j : ℕ) → j < k + 1 → stands_next f many xs j ≡ true
    next_more h e j q = by-test (eqb j k) (λ t. rw (eqb-true j k t) e) (λ t. h j (omega (arith, q, eqb-false j k t)))

-- A NUMBER PUT INTO THE TABLE: of the table d the entries behind place `at`, so many of them, move to the front by one
module _ (d : List ℕ) (at count : ℕ) (room : at + count < length d) where
  abbrev moved : List ℕ
  moved = take count (drop (at + 1) d)

  length_moved : length moved ≡ count
  length_moved = length_part d (at + 1) count (omega (arith, room))

  module _ (l : List ℕ) (j : ℕ) (e : l ≡ store d at (take j moved)) where
    pub moves-on : j < count → set l (at + j) (get_or l (at + 1 + j) 0) ≡ store d at (take (j + 1) moved)
    moves-on h =
        let z : length (take j moved) ≡ j = length-take-le j moved (omega (arith, h, length_moved)) in
        filled d l moved at j e (get_or l (at + 1 + j) 0) (omega (arith, h, length_moved))
        (ap (λ (x : List ℕ). get_or x (at + 1 + j) 0) e
        ∙ store-behind d at (take j moved) (at + 1 + j) (omega (arith, z, room, h)) (omega (arith, z))
        ∙ sym (get_or-take count (drop (at + 1) d) j 0 h ∙ get_or-drop (at + 1) d j 0))

    pub put-behind : (w : ℕ) → count ≤ j → set l (at + count) w ≡ store d at (moved ++ w ∷ [])
    put-behind w h =
        store-more d l at (at + count) w moved (moved ++ w ∷ []) (filled-end d l moved at j e (omega (arith, h, length_moved))) (ap (λ (k : ℕ). at + k) (sym length_moved)) refl

  pub put-moved : (l : List ℕ) (w : ℕ) → l ≡ paste d at (drop (at + 1) d) (at + 1 + count - (at + 1)) → set l (at + count) w ≡ store d at (moved ++ w ∷ [])
  put-moved l w e =
      let z : at + 1 + count - (at + 1) ≡ count = omega arith in
      let s : store d at moved ≡ paste d at (drop (at + 1) d) count = rw length_moved at (store-eq d at moved (omega (arith, length_moved, room))) in
      store-more d l at (at + count) w moved (moved ++ w ∷ []) (rw z at e ∙ sym s) (ap (λ (k : ℕ). at + k) (sym length_moved)) refl

-- where behind `at` stands xs, there then stands xs with the number in it
module _ (d l l' xs : List ℕ) (at p w : ℕ) (room : at + 1 + length xs ≤ length d) (h : p ≤ length xs)
    (e : l ≡ store d (at + 1) xs) (e' : l' ≡ store l at (take p (drop (at + 1) l) ++ w ∷ [])) where
  behind : List ℕ
  behind = drop (at + 1 + length xs) d

  was : l ≡ take (at + 1) d ++ (xs ++ behind)
  unfolding behind
  was = e ∙ store-eq d (at + 1) xs room ∙ append_assoc (take (at + 1) d) xs (drop (at + 1 + length xs) d)

  long : length (take (at + 1) d) ≡ at + 1
  long = length-take-le (at + 1) d (omega (arith, room))

  back : drop (at + 1) l ≡ xs ++ behind
  back = ap (drop (at + 1)) was ∙ drop_at (take (at + 1) d) (xs ++ behind) (at + 1) long

  front : take at l ≡ take at d
  front =
      ap (take at) was
      ∙ take-append-le at (take (at + 1) d) (xs ++ behind) (omega (arith, long))
      ∙ take-take at (at + 1) d (omega arith)

  part : take p (drop (at + 1) l) ≡ take p xs
  part = ap (take p) back ∙ take-append-le p xs behind h

  length-part-is : length (take p xs ++ w ∷ []) ≡ p + 1
  length-part-is = length-append (take p xs) (w ∷ []) ∙ ap (λ (k : ℕ). k + 1) (length-take-le p xs h)

  rest : drop (at + (p + 1)) l ≡ drop p xs ++ behind
  rest =
      let z : at + (p + 1) ≡ at + 1 + p = omega arith in
      ap (λ (k : ℕ). drop k l) z ∙ sym (drop-drop p (at + 1) l) ∙ ap (drop p) back ∙ drop-append-le p xs behind h

  all-long : length (take p xs ++ w ∷ drop p xs) ≡ 1 + length xs
  all-long = omega (arith, length-append (take p xs) (w ∷ drop p xs), length-take-le p xs h, length-drop p xs, h)

  pub inserted : l' ≡ store d at (take p xs ++ w ∷ drop p xs)
  unfolding behind
  inserted =
      let z : at + (1 + length xs) ≡ at + 1 + length xs = omega arith in
      e'
      ∙ ap (λ (ys : List ℕ). store l at (ys ++ w ∷ [])) part
      ∙ store-eq l at (take p xs ++ w ∷ []) (omega (arith, length-part-is, ap length e ∙ length-store d (at + 1) xs, room, h))
      ∙ rw (front, length-part-is, rest)
      (join (take at d) (take p xs) (drop p xs)
      ∙ sym
      (store-eq d at (take p xs ++ w ∷ drop p xs) (omega (arith, all-long, room))
      ∙ rw (all-long, z)))
    where
      join : (us ys zs : List ℕ) → us ++ (ys ++ w ∷ []) ++ (zs ++ drop (at + 1 + length xs) d) ≡ us ++ (ys ++ w ∷ zs) ++ drop (at + 1 + length xs) d
      join us ys zs =
          append_assoc us (ys ++ w ∷ []) (zs ++ drop (at + 1 + length xs) d)
          ∙ ap (λ (vs : List ℕ). us ++ vs)
          (append_assoc ys (w ∷ []) (zs ++ drop (at + 1 + length xs) d) ∙ sym (append_assoc ys (w ∷ zs) (drop (at + 1 + length xs) d)))
          ∙ sym (append_assoc us (ys ++ w ∷ zs) (drop (at + 1 + length xs) d))

-- A TURN OF THE BUILDING: of so many wires those from k on stand in order in the table d, from the place of k on
module _ (f : ℕ → Name) (d : List ℕ) (start many : ℕ) (room : start + many ≤ length d) where
  pub built-start : d ≡ store d (start + many) (index_up f (many - many) many)
  unfolding index_up order_up
  built-start = let z : many - many ≡ 0 = omega arith in rw z (sym (store-none d (start + many)))

  module _ (l : List ℕ) (k : ℕ) (e : l ≡ store d (start + k) (index_up f (many - k) k)) where
    pub built-end : k ≤ 0 → l ≡ store d start (index_up f many 0)
    built-end h =
        let z : k ≡ 0 = omega (arith, h) in
        let s : start + 0 ≡ start = omega arith in
        let m : many - 0 ≡ many = omega arith in
        rw (z, s, m) at e

    module _ (below : k ≤ many) where
      abbrev built : List ℕ
      built = take (start + many - (start + k)) (drop (start + k) l)

      built-part : built ≡ index_up f (many - k) k
      built-part =
          let xs : List ℕ = index_up f (many - k) k in
          let z : start + many - (start + k) ≡ length xs = omega (arith, length-index f (many - k) k, below) in
          ap (λ (n : ℕ). take n (drop (start + k) l)) z
          ∙ sym (slice-span (start + k) (length xs) l)
          ∙ ap (slice (start + k) (start + k + length xs)) e
          ∙ store-slice d (start + k) xs (omega (arith, length-index f (many - k) k, below, room))

      pub built-ordered : Ordered (map f built)
      built-ordered = rw built-part (index-ordered f (many - k) k)

      -- wire w is the one in front of them, and p its place among them
      module _ (w : ℕ) (ew : k ≡ w + 1) (n : Name) (en : n ≡ f w) (p : ℕ) (ep : p ≡ place n (map f built)) where
        is-place : p ≡ place (f w) (map f (index_up f (many - k) k))
        is-place = ep ∙ rw (en, built-part)

        inside : p ≤ many - k
        inside = omega (arith, is-place, place-le (f w) (map f (index_up f (many - k) k)), length-map (index_up f (many - k) k) f, length-index f (many - k) k)

        pub built-room : start + w + p < length l
        built-room = omega (arith, inside, below, ew, room, ap length e ∙ length-store d (start + k) (index_up f (many - k) k))

        pub built-more : (l' : List ℕ) → l' ≡ store l (start + w) (take p (drop (start + w + 1) l) ++ w ∷ []) → l' ≡ store d (start + w) (index_up f (many - w) w)
        built-more l' e' =
            let xs : List ℕ = index_up f (many - k) k in
            let s : start + w + 1 ≡ start + k = omega (arith, ew) in
            let z : many - w ≡ suc (many - k) = omega (arith, ew, below) in
            let long : length xs ≡ many - k = length-index f (many - k) k in
            inserted d l l' xs (start + w) p w (omega (arith, long, ew, below, room)) (omega (arith, long, inside)) (rw s e) e'
            ∙ ap (store d (start + w)) (sym (ap (λ (m : ℕ). index_up f m w) z ∙ rw ew (index-more f (many - (w + 1)) w p (rw ew at is-place))))
