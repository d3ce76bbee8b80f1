-- A turn of the loop that stores values from the end.
-- Assumes nothing.
use mathlib.Core.Path.{◌≡◌, sym, ap, ◌∙◌}
use mathlib.Core.List.{List, [], ◌∷◌, ◌++◌, reverse, reverse-cons}
use Prim.Native.Nat.{ℕ, suc, ◌+◌, ◌-◌, ◌≤◌, ◌<◌}
use native.Mathlib.Omega.{arith}
use lib.ListN.{length, get_or, set, length-reverse}
use lib.Seq.{slice, slice-cons, length-slice}
use Rattle.tables.specs.Store.{store, store-more}

pub reversed :
    (d s l : List ℕ) (at to i j k : ℕ) → l ≡ store d at (reverse (slice j to s)) → i + 1 ≡ j → j ≤ to → to ≤ length s → k ≡ at + (to - j) →
    set l k (get_or s i 0) ≡ store d at (reverse (slice i to s))
reversed d s l at to i j k e ej h n ek =
    let es : suc i ≡ j = omega arith in
    store-more d l at k (get_or s i 0) (reverse (slice j to s)) (reverse (slice i to s)) e
    (ek ∙ ap (λ (m : ℕ). at + m) (sym (length-reverse (slice j to s) ∙ length-slice j to s n)))
    (ap reverse (slice-cons i to s 0 (omega arith) n)
    ∙ reverse-cons (get_or s i 0) (slice (suc i) to s)
    ∙ ap (λ (m : ℕ). reverse (slice m to s) ++ get_or s i 0 ∷ []) es)
