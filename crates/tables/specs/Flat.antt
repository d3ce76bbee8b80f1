-- The rows of a table, one behind another.
-- Assumes nothing.
use Rattle.std.specs.Prelude.{◌≡◌, ℕ, ◌+◌, ◌*◌, ◌≤◌, length}
use Rattle.std.proofs.Common.{sym, ap, ◌∙◌, arith}
use mathlib.Core.List.{List, [], ◌∷◌, ◌++◌, flat_map}
use Rattle.rules.specs.Layout.{padded}
use Rattle.lists.specs.Lists.{flat_map-snoc}
use Rattle.lists.specs.Elements.{Each}
use Rattle.lists.specs.Sums.{length-equal}
use Rattle.tables.specs.Store.{store}
use Rattle.tables.specs.Padded.{store-padded}

-- the rows' columns in one list, as the rules write it
abbrev pub flat : List (List ℕ) → List ℕ
flat rs = flat_map (λ r. r) rs

-- every row has eight columns
abbrev pub Eights : List (List ℕ) → Type 0
Eights rs = Each (λ r. length r ≡ 8) rs

pub length-flat : (rs : List (List ℕ)) → Eights rs → length (flat rs) ≡ 8 * length rs
length-flat = length-equal (λ r. r) 8

-- a row stored behind the rows of a padded table
pub store-row : (n : ℕ) (rs : List (List ℕ)) (r l : List ℕ) (at : ℕ) → l ≡ padded n (flat rs) → at ≡ 8 * length rs → Eights rs → length r ≡ 8 → 8 * length rs + 8 ≤ n → store l at r ≡ padded n (flat (rs ++ r ∷ []))
store-row n rs r l at el ea h e room =
    let k : length (flat rs) ≡ 8 * length rs = length-flat rs h in
    store-padded n (flat rs) r l at el (omega arith) (omega arith) ∙ ap (padded n) (sym (flat_map-snoc (λ r. r) rs r))
