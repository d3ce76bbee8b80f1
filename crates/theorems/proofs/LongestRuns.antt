-- The runs of a signal are the longest.
-- Assumes nothing.
use Rattle.std.specs.Prelude.{ℕ, ◌+◌, ◌≡◌, refl, List, [], ◌∷◌, true, ◌&&◌, eqb}
use Rattle.std.proofs.Common.{arith, eqb-true}
use Rattle.rules.specs.Statements.{Bit, digit, bit, Signal}
use Rattle.rules.specs.Text.{Run, digits, span, join, runs}
use Rattle.lists.specs.Tests.{by_cond, and-true-left, and-true-right}
use Rattle.theorems.specs.LongestRuns.{could_join, longest}

-- a run that joins with just what another does may stand in its place
in_place : (r q : Run) → ((x : Run) → could_join r x ≡ could_join q x) → (rs : List Run) → longest (q ∷ rs) ≡ true → longest (r ∷ rs) ≡ true
unfolding longest
in_place r q h [] e = refl
in_place r q h (x ∷ rs) e = rw (h x) e

digits-join : (ds es : _) (x : Run) → could_join (digits ds) x ≡ could_join (digits es) x
unfolding could_join
digits-join ds es (digits fs) = refl
digits-join ds es (span w l n) = refl

-- a bit more below
bits-join : (w v i l n : ℕ) → w ≡ v → i + 1 ≡ l → (x : Run) → could_join (span w i (n + 1)) x ≡ could_join (span v l n) x
unfolding could_join
bits-join w v i l n p q (digits ds) = refl
bits-join w v i l n p q (span u k j) = let s : i + (n + 1) ≡ l + n = omega arith in rw (p, s)

join-longest : (b : Bit) (rs : List Run) → longest rs ≡ true → longest (join b rs) ≡ true
unfolding join longest could_join
join-longest (digit d) [] e = refl
join-longest (digit d) (digits ds ∷ rs) e = in_place (digits (d ∷ ds)) (digits ds) (digits-join (d ∷ ds) ds) rs e
join-longest (digit d) (span w l n ∷ rs) e = e
join-longest (bit w i) [] e = refl
join-longest (bit w i) (digits ds ∷ rs) e = e
join-longest (bit w i) (span v l n ∷ rs) e =
    by_cond (λ (l : List Run). longest l ≡ true) (eqb w v && eqb (i + 1) l)
    (λ t. in_place (span w i (n + 1)) (span v l n) (bits-join w v i l n (eqb-true w v (and-true-left (eqb w v) _ t)) (eqb-true (i + 1) l (and-true-right (eqb w v) _ t))) rs e)
    (λ t. rw t e)

pub runs-longest : (s : Signal) → longest (runs s) ≡ true
unfolding runs longest
runs-longest [] = refl
runs-longest (b ∷ bs) = join-longest b (runs bs) (runs-longest bs)
