-- The first wire of a name: by the pairs of a design's wires, and in rows.
-- Assumes nothing.
use Rattle.std.specs.Prelude.{ℕ, zero, suc, ◌+◌, ◌≡◌, refl, true, cond}
use Rattle.std.proofs.Common.{sym, ap, ◌∙◌, true≢false}
use mathlib.Core.List.{List, [], ◌∷◌, ◌++◌, map, reverse, reverse-cons}
use Rattle.std.proofs.Math.Option.{Option, none, some}
use Rattle.std.proofs.Math.Bool.{or-true}
use Rattle.rules.specs.Bytes.{any, same}
use Rattle.rules.specs.Tokens.{Name}
use Rattle.rules.specs.Statements.{Statement, Wire}
use Rattle.rules.specs.Design.{Object, design}
use Rattle.rules.specs.Session.{wires_at}
use Rattle.rules.specs.Quick.{wire_named}
use Rattle.lists.specs.Lists.{up, up-last}
use Rattle.lists.specs.Tests.{by-test}
use Rattle.wires.specs.Rows.{name_of, wire_of, wires_from}
use Rattle.modules.specs.Modules.{wires_of, statements_of}
use Rattle.modules.specs.DesignLaws.{pairs-at}
use Rattle.one_wire.specs.Asked.{row_named}

unfoldable pub first_of : Name → List (Name × Wire) → Option Wire
first_of n [] = none
first_of n (x ∷ xs) = let r = first_of n xs in cond (same x.0 n) (some x.1) r

pub named-pairs : (n : Name) (os : List (Object Wire)) → wire_named n os ≡ first_of n (map (λ o. (o.name, o.body)) os)
unfolding wire_named first_of
named-pairs n [] = refl
named-pairs n (o ∷ os) = rw (named-pairs n os)

module _ (n : Name) where
  -- one that is found among the first is the first of all
  pub found_first : (xs ys : List (Name × Wire)) → any (λ x. same x.0 n) xs ≡ true → first_of n (xs ++ ys) ≡ first_of n xs
  unfolding first_of any
  found_first [] ys e = absurd (true≢false (sym e))
  found_first (x ∷ xs) ys e = by-test (same x.0 n) (λ h. rw h) (λ h. rw h (found_first xs ys (rw h at e)))

  pub last_found : (xs : List (Name × Wire)) (y : Name × Wire) → same y.0 n ≡ true → any (λ x. same x.0 n) (xs ++ y ∷ []) ≡ true
  unfolding any
  last_found [] y e = rw e
  last_found (x ∷ xs) y e = rw (last_found xs y e) (or-true (same x.0 n))

  pub wire-at : (ss : List Statement) (m : ℕ) → wire_named n (wires_at (design ss) m) ≡ first_of n (wires_of (statements_of m ss))
  wire-at ss m = named-pairs n (wires_at (design ss) m) ∙ ap (first_of n) (pairs-at ss m)

-- the wires of consecutive rows in their order
rows-up : (names t : List ℕ) (first count : ℕ) → reverse (wires_from names t first count) ≡ up (λ k. (name_of names t k, wire_of t k)) count first
unfolding wires_from
rows-up names t first zero = refl
rows-up names t first (suc j) =
    let f : ℕ → Name × Wire = λ k. (name_of names t k, wire_of t k) in
    reverse-cons (f (first + j)) (wires_from names t first j) ∙ ap (λ (l : List (Name × Wire)). l ++ f (first + j) ∷ []) (rows-up names t first j) ∙ sym (up-last f j first)

named-up : (names t : List ℕ) (n : Name) (many k : ℕ) → row_named names t n many k ≡ first_of n (up (λ k. (name_of names t k, wire_of t k)) many k)
unfolding row_named first_of
named-up names t n zero k = refl
named-up names t n (suc l) k = rw (named-up names t n l (k + 1))

pub row_first : (names t : List ℕ) (n : Name) (many first : ℕ) → row_named names t n many first ≡ first_of n (reverse (wires_from names t first many))
row_first names t n many first = named-up names t n many first ∙ ap (first_of n) (sym (rows-up names t first many))
