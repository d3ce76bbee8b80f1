-- A test of all values: a turn of the loop over them, and the values from a place on by a block of them and those behind it.
-- Assumes nothing.
use mathlib.Core.Path.{◌≡◌, sym, ap, ap₂, ◌∙◌}
use mathlib.Core.Bool.{Bool, true, ◌&&◌, and_assoc, and-true}
use mathlib.Core.List.{List}
use Prim.Native.Nat.{ℕ, ◌+◌, ◌-◌, ◌≤◌, ◌<◌}
use native.Mathlib.Numerals.{add-one}
use native.Mathlib.Omega.{arith}
use lib.ListN.{length, take, drop, get_or, drop_of_length-le}
use lib.Seq.{drop-cons}
use Rattle.std.proofs.Common.{take-append-drop}
use Rattle.std.proofs.lemmas.List.{drop-drop}
use Rattle.rules.specs.Bytes.{all}
use Rattle.lists.specs.Elements.{all_split}

module _ {A : Type 0} (f : A → Bool) (l : List A) where
  pub turned : (i : ℕ) (good : Bool) (x : A) → i < length l → x ≡ get_or l i x → (good && f x && all f (drop (i + 1) l)) ≡ (good && all f (drop i l))
  unfolding all
  turned i good x h e =
      and_assoc good (f x) (all f (drop (i + 1) l)) ∙ ap (λ (t : Bool). good && t) (rw (add-one, drop-cons l i x, ← e))

  pub ended : (i : ℕ) (good : Bool) → length l ≤ i → (good && all f (drop i l)) ≡ good
  unfolding all
  ended i good h = ap (λ (xs : List A). good && all f xs) (drop_of_length-le l {i = i} h) ∙ and-true good

  pub all_none : (i : ℕ) → length l ≤ i → all f (drop i l) ≡ true
  unfolding all
  all_none i h = ap (all f) (drop_of_length-le l {i = i} h)

  pub by_block : (i j : ℕ) (b : Bool) → i ≤ j → b ≡ all f (take (j - i) (drop i l)) → all f (drop i l) ≡ (b && all f (drop j l))
  by_block i j b h e =
      let k : i + (j - i) ≡ j = omega arith in
      ap (all f) (sym (take-append-drop (j - i) (drop i l)))
      ∙ all_split f (take (j - i) (drop i l)) (drop (j - i) (drop i l))
      ∙ ap₂ (λ (x y : Bool). x && y) (sym e) (ap (all f) (drop-drop (j - i) i l ∙ ap (λ (n : ℕ). drop n l) k))
