-- A step comes back from its code, and equally wide signals from their bits one behind another.
-- Assumes nothing.
use Rattle.std.specs.Prelude.{ℕ, ◌+◌, ◌≡◌, refl, true, eqb, length, take, drop}
use Rattle.std.proofs.Common.{sym, ap, ap₂, ◌∙◌, drop-drop, eqb-true}
use mathlib.Core.List.{List, [], ◌∷◌, ◌++◌, map, flat_map}
use Rattle.std.proofs.Math.Option.{Option, none, some}
use Rattle.rules.specs.Bytes.{all}
use Rattle.rules.specs.Statements.{Signal, Step, assign, update, switch, case, low, high, posedge, negedge, edge, global, init, always, step_code}
use Rattle.rules.specs.Judgement.{equal}
use Rattle.rules.specs.Layout.{each_length}
use Rattle.lists.specs.Tests.{by_cond, and-true-right}
use Rattle.lists.specs.Elements.{Each, all_split, all_first, all-later}
use Rattle.netlist.specs.Spans.{Has, has_first, has-second}
use Rattle.netlist.specs.Steps.{step_named, pieces}

pub step_back : (p : Step) → step_named (step_code p) ≡ some p
unfolding step_named step_code
step_back assign = refl
step_back update = refl
step_back switch = refl
step_back case = refl
step_back low = refl
step_back high = refl
step_back posedge = refl
step_back negedge = refl
step_back edge = refl
step_back global = refl
step_back init = refl
step_back always = refl

-- a code that names a step is that step's
pub by-named : (t : ℕ) (P : Option Step → Type 0) → P none → ((p : Step) → step_code p ≡ t → P (some p)) → P (step_named t)
unfolding step_named step_code
by-named t P f g =
    by_cond P (eqb t 19) (λ e. g assign (sym (eqb-true t 19 e)))
    (λ _. by_cond P (eqb t 31) (λ e. g update (sym (eqb-true t 31 e)))
    (λ _. by_cond P (eqb t 20) (λ e. g switch (sym (eqb-true t 20 e)))
    (λ _. by_cond P (eqb t 21) (λ e. g case (sym (eqb-true t 21 e)))
    (λ _. by_cond P (eqb t 26) (λ e. g low (sym (eqb-true t 26 e)))
    (λ _. by_cond P (eqb t 27) (λ e. g high (sym (eqb-true t 27 e)))
    (λ _. by_cond P (eqb t 28) (λ e. g posedge (sym (eqb-true t 28 e)))
    (λ _. by_cond P (eqb t 29) (λ e. g negedge (sym (eqb-true t 29 e)))
    (λ _. by_cond P (eqb t 30) (λ e. g edge (sym (eqb-true t 30 e)))
    (λ _. by_cond P (eqb t 23) (λ e. g global (sym (eqb-true t 23 e)))
    (λ _. by_cond P (eqb t 24) (λ e. g init (sym (eqb-true t 24 e)))
    (λ _. by_cond P (eqb t 25) (λ e. g always (sym (eqb-true t 25 e)))
    (λ _. f))))))))))))

pub has-pieces : (t : List ℕ) (w : ℕ) (xs : List (List ℕ)) → Each (λ x. length x ≡ w) xs → (at : ℕ) → Has t at (flat_map (λ x. x) xs) → pieces w (length xs) (drop at t) ≡ xs
unfolding pieces flat_map Has
has-pieces t w [] e at h = refl
has-pieces t w (x ∷ xs) e at h =
    ap₂ ◌∷◌
    (ap (λ (n : ℕ). take n (drop at t)) (sym e.0) ∙ has_first t at x (flat_map (λ y. y) xs) h)
    (ap (pieces w (length xs)) (drop-drop w at t)
    ∙ has-pieces t w xs e.1 (at + w) (has-second t at x (flat_map (λ y. y) xs) (at + w) (ap (λ (n : ℕ). at + n) (sym e.0)) h))

-- of equal widths the later ones are equal
equal_rest : (v : ℕ) (ws : List ℕ) → all (eqb v) ws ≡ true → equal ws ≡ true
unfolding equal
equal_rest v [] e = refl
equal_rest v (w ∷ ws) e = rw (← eqb-true v w (all_first (eqb v) w ws e)) (all-later (eqb v) w ws e)

pub equal-last : (vs ws : List ℕ) → equal (vs ++ ws) ≡ true → equal ws ≡ true
unfolding equal
equal-last [] ws e = e
equal-last (v ∷ vs) ws e = equal_rest v ws (and-true-right (all (eqb v) vs) _ (rw (all_split (eqb v) vs ws) at e))

-- the signals of a step are as wide as its first
even-rest : (w : ℕ) (xs : List Signal) → all (eqb w) (map length xs) ≡ true → Each (λ x. length x ≡ w) xs
even-rest w [] e = tt
even-rest w (x ∷ xs) e =
    (sym (eqb-true w (length x) (all_first (eqb w) (length x) (map length xs) e)), even-rest w xs (all-later (eqb w) (length x) (map length xs) e))

pub even-widths : (xs : List Signal) → equal (map length xs) ≡ true → Each (λ x. length x ≡ each_length xs) xs
unfolding equal each_length
even-widths [] e = tt
even-widths (x ∷ xs) e = (refl, even-rest (length x) xs e)
