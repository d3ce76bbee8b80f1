-- A row of a table: its eight columns as words, and the row that stands at a place.
-- Assumes nothing.
use Rattle.std.specs.Prelude.{◌≡◌, refl, List, [], ◌∷◌, ℕ, zero, suc, ◌+◌, ◌≤◌, length, get_or, take, drop}
use Rattle.std.proofs.Common.{sym, ap, ◌∙◌, arith, drop-cons}
use Rattle.std.proofs.Math.Numerals.{towards_suc}
use Rattle.tables.specs.declared.Row.{Row}

-- a row's columns, in the order in which a table holds them
unfoldable pub words : Row → List ℕ
words r = r.kind ∷ r.a ∷ r.b ∷ r.c ∷ r.d ∷ r.e ∷ r.f ∷ r.g ∷ []

-- the row whose first word stands at a place
unfoldable pub row_at : List ℕ → ℕ → Row
row_at l at =
    record {
      kind = get_or l at 0;
      a = get_or l (at + 1) 0;
      b = get_or l (at + 2) 0;
      c = get_or l (at + 3) 0;
      d = get_or l (at + 4) 0;
      e = get_or l (at + 5) 0;
      f = get_or l (at + 6) 0;
      g = get_or l (at + 7) 0;
    }

-- words read one by one from a place on
abbrev reads : List ℕ → ℕ → ℕ → List ℕ
reads l at zero = []
reads l at (suc n) = get_or l at 0 ∷ reads l (suc at) n

reads-take : (l : List ℕ) (at n : ℕ) → at + n ≤ length l → reads l at n ≡ take n (drop at l)
reads-take l at zero h = refl
reads-take l at (suc n) h =
    ap (λ (x : List ℕ). get_or l at 0 ∷ x) (reads-take l (suc at) n (omega arith)) ∙ ap (take (suc n)) (sym (drop-cons l at 0 (omega arith)))

-- the row that stands at a place has the eight words from there on as its columns
pub words-row_at : (l : List ℕ) (at : ℕ) → at + 8 ≤ length l → words (row_at l at) ≡ take 8 (drop at l)
unfolding words row_at
words-row_at l at h = simp towards_suc (reads-take l at 8 h)
