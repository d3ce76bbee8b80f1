-- What the program writes, at the start of the room lent.
-- Assumes nothing.
use Rattle.std.specs.Prelude.{ℕ, ◌≤◌, ◌≡◌, List, length}
use Rattle.std.proofs.Common.{ap, ◌∙◌, arith}
use Rattle.rules.specs.Design.{design}
use Rattle.rules.specs.Session.{now}
use Rattle.rules.specs.Text.{write, printed, refusal}
use Rattle.rules.specs.Layout.{Memory}
use Rattle.tables.specs.Store.{store, length-store}
use Rattle.session.specs.Called.{Called}

-- its length, and the room with the text at its start
unfoldable pub putting : List ℕ → List ℕ → ℕ × List ℕ
putting old t = (length t, store old 0 t)

-- for all memory: the text of the design that it holds, or the number of the refusal with place 0
abbrev pub PrintedAs : Memory → (old new : List ℕ) → ℕ → Type 0
PrintedAs m old new r = Called m (λ n. putting old (refusal n 0)) (λ ss rs. putting old (printed (write (length old) (now (design ss) rs)))) (r, new)

-- the room stays as long as it was, so that the text can be taken from it
pub putting-fits : (old new t : List ℕ) (r : ℕ) → ◌≡◌ {A = ℕ × List ℕ} (r, new) (putting old t) → r ≤ length old → r ≤ length new
unfolding putting
putting-fits old new t r e h = omega (arith, ap (λ (a : ℕ × List ℕ). length a.1) e ∙ length-store old 0 t)
