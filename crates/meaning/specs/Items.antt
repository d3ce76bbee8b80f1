-- Several items of a line, written one behind the other from the last one on, read as those items.
-- Assumes nothing.
use Prim.Native.Nat.{ℕ, suc, ◌+◌, ◌-◌, ◌≤◌}
use Rattle.std.specs.Prelude.{◌≡◌, Bool}
use Rattle.std.proofs.Math.Path.{ap}
use Rattle.std.proofs.Common.{ap₂, ◌∙◌, arith}
use mathlib.Core.List.{List, [], ◌∷◌, ◌++◌, append_assoc, append-nil}
use Rattle.std.proofs.Math.Option.{some}
use Rattle.std.proofs.Math.ListN.{length, length-append}
use Rattle.rules.specs.Tokens.{Token}
use Rattle.rules.specs.Shapes.{Parse, repeat, several}
use Rattle.lists.specs.Elements.{Each}

module _ {A : Type 0} (goes : Token → Bool) (p : Parse A) (text : A → List Token) (Behind : List Token → Type 0) where
  -- an item with a token or more, that is read where what is behind it may stand there, and may itself stand behind another
  pub record Item (x : A) : Type 0 where
    pub long : 1 ≤ length (text x)
    pub taken : (m : ℕ) (as' : List A) (rest : List Token) → Behind rest → repeat goes p (suc m) as' (text x ++ rest) ≡ repeat goes p m (x ∷ as') rest
    pub behind : (rest : List Token) → Behind (text x ++ rest)

  module _ (texts : List A → List Token) (none : texts [] ≡ []) (more : (x : A) (xs : List A) → texts (x ∷ xs) ≡ texts xs ++ text x) where
    items-long : (xs : List A) → Each Item xs → length xs ≤ length (texts xs)
    items-long [] h = omega arith
    items-long (x ∷ xs) h = omega (arith, ap length (more x xs), length-append (texts xs) (text x), h.0.long, items-long xs h.1)

    items-on : (m : ℕ) (as' xs : List A) (rest : List Token) → Each Item xs → Behind rest → repeat goes p (length xs + m) as' (texts xs ++ rest) ≡ repeat goes p m (xs ++ as') rest
    items-on m as' [] rest h b = ap₂ (λ (j : ℕ) (ts : List Token). repeat goes p j as' (ts ++ rest)) (omega arith) none
    items-on m as' (x ∷ xs) rest h b =
        ap₂ (λ (j : ℕ) (ts : List Token). repeat goes p j as' ts) (omega arith) (ap (λ (ts : List Token). ts ++ rest) (more x xs) ∙ append_assoc (texts xs) (text x) rest)
        ∙ items-on (suc m) as' xs (text x ++ rest) h.1 (h.0.behind rest)
        ∙ h.0.taken m (xs ++ as') rest b

    -- up to what is none
    pub items-read :
        (xs : List A) (rest : List Token) → Each Item xs → Behind rest → ((m : ℕ) (as' : List A) → repeat goes p m as' rest ≡ some (as', rest)) →
        several goes p (texts xs ++ rest) ≡ some (xs, rest)
    unfolding several
    items-read xs rest h b stops =
        let m : ℕ = length (texts xs ++ rest) - length xs in
        let e : length (texts xs ++ rest) ≡ length xs + m = omega (arith, items-long xs h, length-append (texts xs) rest) in
        ap (λ j. repeat goes p j [] (texts xs ++ rest)) e ∙ items-on m [] xs rest h b ∙ stops m (xs ++ []) ∙ ap (λ (ys : List A). some (ys, rest)) (append-nil xs)
