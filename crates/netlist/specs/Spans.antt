-- What a table begins with, and what it has from a place on.
-- Assumes nothing.
use Rattle.std.specs.Prelude.{ℕ, ◌+◌, ◌-◌, ◌*◌, ◌≤◌, ◌≡◌, refl, replicate}
use Rattle.std.proofs.Math.Path.{sym, ap}
use Rattle.std.proofs.Common.{◌∙◌, arith, take-append-drop}
use mathlib.Core.List.{List, [], ◌∷◌, ◌++◌, append_assoc}
use Rattle.std.proofs.Math.ListN.{length, take, drop, length-append, length-take, length-drop}
use Rattle.std.proofs.Math.Seq.{take-take, drop-drop, take-append_seam, drop-append_seam}
use Rattle.rules.specs.Layout.{padded}
use Rattle.tables.specs.Row.{words, row_at, words-row_at}
use Rattle.tables.specs.Flat.{flat, Eights, length-flat}
use Rattle.wires.specs.RowLaws.{RowIs, row-taken}
use Rattle.lists.specs.Parts.{slice-span}
use Rattle.lists.specs.Lists.{flat_map-snoc}

abbrev pub Starts : List ℕ → List ℕ → Type 0
Starts t xs = (more : List ℕ) × (t ≡ xs ++ more)

unfoldable pub Has : List ℕ → ℕ → List ℕ → Type 0
Has t at xs = take (length xs) (drop at t) ≡ xs

module _ (t xs ys : List ℕ) where
  pub starts_first : Starts t (xs ++ ys) → Starts t xs
  starts_first s = (ys ++ s.0, s.1 ∙ append_assoc xs ys s.0)

  pub starts-long : Starts t (xs ++ ys) → length xs + length ys ≤ length t
  starts-long s = omega (arith, ap length s.1, length-append (xs ++ ys) s.0, length-append xs ys)

  pub starts-has : (at : ℕ) → at ≡ length xs → Starts t (xs ++ ys) → Has t at ys
  unfolding Has
  starts-has at e s =
      rw e
      (ap (λ (x : List ℕ). take (length ys) (drop (length xs) x)) (s.1 ∙ append_assoc xs ys s.0)
      ∙ ap (take (length ys)) (drop-append_seam xs (ys ++ s.0))
      ∙ take-append_seam ys s.0)

  pub starts_more : (at : ℕ) → at ≡ length xs → Starts t xs → Has t at ys → Starts t (xs ++ ys)
  unfolding Has
  starts_more at e s h =
      let m = s.0 in
      let d : drop (length xs) t ≡ m = ap (drop (length xs)) s.1 ∙ drop-append_seam xs m in
      let k : take (length ys) m ≡ ys = ap (take (length ys)) (sym d) ∙ ap (λ (n : ℕ). take (length ys) (drop n t)) (sym e) ∙ h in (
        drop (length ys) m,
        s.1
            ∙ ap (λ (x : List ℕ). xs ++ x) (sym (take-append-drop (length ys) m) ∙ ap (λ (x : List ℕ). x ++ drop (length ys) m) k)
            ∙ sym (append_assoc xs ys (drop (length ys) m)),
      )

pub starts-padded : (n : ℕ) (xs : List ℕ) → Starts (padded n xs) xs
unfolding padded
starts-padded n xs = (replicate (n - length xs) 0, refl)

-- the first and the second of two lists
module _ (t : List ℕ) (at : ℕ) where
  pub has_first : (xs ys : List ℕ) → Has t at (xs ++ ys) → Has t at xs
  unfolding Has
  has_first xs ys h =
      sym (ap (take (length xs)) (sym h) ∙ take-take (length xs) (length (xs ++ ys)) (drop at t) (omega (arith, length-append xs ys))) ∙ take-append_seam xs ys

  pub has-second : (xs ys : List ℕ) (i : ℕ) → i ≡ at + length xs → Has t at (xs ++ ys) → Has t i ys
  unfolding Has
  has-second xs ys i e h =
      let k : length (xs ++ ys) ≡ length xs + length ys = length-append xs ys in
      rw (e, ← drop-drop (length xs) at t)
      (sym (ap (drop (length xs)) (sym h) ∙ ap (λ (n : ℕ). drop (length xs) (take n (drop at t))) k ∙ slice-span (length xs) (length ys) (drop at t)) ∙ drop-append_seam xs ys)

-- a row of eight columns, and the last of the rows that a table begins with
pub has-columns : (t : List ℕ) (k : ℕ) (r : List ℕ) → length r ≡ 8 → Has t (8 * k) r → RowIs t k r
unfolding Has
has-columns t k r e h = row-taken t k r (ap (λ (n : ℕ). take n (drop (8 * k) t)) (sym e) ∙ h)

pub starts-row : (t : List ℕ) (rs : List (List ℕ)) (r : List ℕ) → Eights rs → length r ≡ 8 → Starts t (flat (rs ++ r ∷ [])) → RowIs t (length rs) r
starts-row t rs r h n s = has-columns t (length rs) r n (starts-has t (flat rs) r (8 * length rs) (sym (length-flat rs h)) (rw flat_map-snoc at s))

-- eight values from a row's place on are the row
module _ (t : List ℕ) (k : ℕ) (r : List ℕ) (e : length r ≡ 8) where
  pub row_has : 8 * k + 8 ≤ length t → Has t (8 * k) r → words (row_at t (8 * k)) ≡ r
  unfolding Has
  row_has l h = words-row_at t (8 * k) l ∙ ap (λ (n : ℕ). take n (drop (8 * k) t)) (sym e) ∙ h

  pub has-row : 8 * k + 8 ≤ length t → words (row_at t (8 * k)) ≡ r → Has t (8 * k) r
  unfolding Has
  has-row l h = ap (λ (n : ℕ). take n (drop (8 * k) t)) e ∙ sym (words-row_at t (8 * k) l) ∙ h

  pub has-long : Has t (8 * k) r → 8 * k + 8 ≤ length t
  unfolding Has
  has-long h = omega (arith, ap length h, length-take (length r) (drop (8 * k) t), length-drop (8 * k) t)
