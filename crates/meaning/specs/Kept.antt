-- What a statement that may stand keeps: with its wire, sound wires stay sound.
-- Assumes nothing.
use Rattle.std.specs.Prelude.{◌≤◌, ◌≡◌, refl, false}
use mathlib.Core.List.{List, [], ◌∷◌, map, flat_map, zip}
use Rattle.std.proofs.Math.Option.{none}
use Rattle.rules.specs.Bytes.{same, any}
use Rattle.rules.specs.Tokens.{Name}
use Rattle.rules.specs.Statements.{Constant, Signal, Wire, Memory, Statement, wire-stmt, a_wire, a_memory, a_cell, a_process, contents, own_name, statements_open}
use Rattle.rules.specs.Signals.{Wires, find}
use Rattle.rules.specs.Judgement.{Past, until, only, of_module, wires, among, space, names_in, name_spaces, takes_name}
use Rattle.context.specs.Forms.{by_form}
use Rattle.admitted.specs.Admitted.{own_wire}
use Rattle.lists.specs.Tests.{or-false-left, or-false-right}
use Rattle.lists.specs.Bytes.{same-sym}
use Rattle.lists.specs.Elements.{all_first}
use Rattle.admitted.specs.AdmitLaws.{FineParts, fine-parts, Admits}
use Rattle.meaning.specs.Wires.{Sound, no-wire, one_more}
use Rattle.meaning.specs.Settings.{wire-width}

-- ---- a wire's name is new

-- the names among some statements
abbrev own_names : List Statement → List Name
own_names xs = map (λ s. own_name (contents s).names) (only (among (a_wire ∷ a_memory ∷ a_cell ∷ a_process ∷ [])) xs)

not_found : (n : Name) (xs : List Statement) → any (same n) (own_names xs) ≡ false → find n (flat_map (λ s. zip (contents s).names (contents s).wires) xs) ≡ none
unfolding statements_open any only among flat_map zip find
not_found n [] h = refl
not_found n (s ∷ xs) h =
    by_form (λ s. any (same n) (own_names (s ∷ xs)) ≡ false → find n (flat_map (λ s. zip (contents s).names (contents s).wires) (s ∷ xs)) ≡ none)
    (λ i. not_found n xs) (λ m c. not_found n xs) (λ m. not_found n xs) (λ m c. not_found n xs)
    (λ w m k. rw (same-sym m n, or-false-left (same n m) _ k) (not_found n xs (or-false-right (same n m) _ k)))
    (λ y m k. not_found n xs (or-false-right (same n m) _ k)) (λ t m k. not_found n xs (or-false-right (same n m) _ k))
    (λ o m c. not_found n xs) (λ m g. not_found n xs) (λ x y. not_found n xs) (λ m k. not_found n xs (or-false-right (same n m) _ k)) (λ p gs. not_found n xs) (not_found n xs) s h

wire-new : (ss : Past) (w : Wire) (n : Name) → takes_name {C = Constant} {S = Signal} {M = Memory} ss (wire-stmt w n) ≡ false → find n (wires ss) ≡ none
unfolding takes_name name_spaces names_in space any among statements_open wires
wire-new ss w n h = not_found n (of_module ss) (or-false-left (any (same n) (own_names (of_module ss))) _ h)

wire-narrow : (ws : Wires) (w : Wire) (n : Name) → FineParts ws (wire-stmt w n) → w.width ≤ 2048
unfolding statements_open
wire-narrow ws w n f = wire-width w (all_first own_wire w [] f.wires)

pub sound_more : (ss : Past) (s : Statement) → Admits ss s → Sound (wires ss) → Sound (wires (s ∷ ss))
unfolding wires of_module until flat_map zip statements_open
sound_more ss =
    by_form (λ s. Admits ss s → Sound (wires ss) → Sound (wires (s ∷ ss)))
    (λ i a h. h) (λ m c a h. h) (λ m a h. no-wire) (λ m c a h. h)
    (λ w m a. one_more (wire-new ss w m a.new-name) (wire-narrow (wires ss) w m (fine-parts (wires ss) (wire-stmt w m) a.parts)))
    (λ y m a h. h) (λ t m a h. h) (λ o m c a h. h) (λ m g a h. h) (λ x y a h. h) (λ m a h. h) (λ p gs a h. h) (λ a h. h)

pub no-past : Sound (wires [])
unfolding wires of_module until flat_map
no-past = no-wire
