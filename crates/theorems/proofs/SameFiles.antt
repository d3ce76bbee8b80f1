-- SAME DESIGN, SAME BYTES, of two files as they were read, and of the program's outputs.
-- Assumes nothing.
use Rattle.std.specs.Prelude.{ℕ, ◌≡◌, ◌↔◌}
use Rattle.std.proofs.Common.{sym, ◌∙◌}
use mathlib.Core.List.{List, []}
use Rattle.rules.specs.Limits.{longest_file}
use Rattle.rules.specs.Statements.{Statement}
use Rattle.rules.specs.Judgement.{Verdict}
use Rattle.rules.specs.Reading.{accepted, read}
use Rattle.rules.specs.Design.{design}
use Rattle.rules.specs.Session.{now, plain_session}
use Rattle.rules.specs.Text.{write, program}
use Rattle.theorems.specs.SameBytes.{program-text, same_bytes}

-- "FOR TWO ACCEPTED FILES"
module _ (f g : List ℕ) {ss ts : List Statement} (a : read f ≡ accepted ss) (b : read g ≡ accepted ts) where
  -- as they were read
  module _ {t u : List ℕ} where
    pub same-files : (room more : ℕ) → write room (design ss) ≡ Verdict.accepted t → write more (design ts) ≡ Verdict.accepted u → (design ss ≡ design ts) ↔ (t ≡ u)
    unfolding plain_session now
    same-files room more w v = same_bytes f g a b [] [] room more w v

    -- and by the program's two outputs
    pub same-outputs :
        write longest_file (design ss) ≡ Verdict.accepted t → write longest_file (design ts) ≡ Verdict.accepted u → (design ss ≡ design ts) ↔ (program f ≡ program g)
    same-outputs w v =
        let s = same-files longest_file longest_file w v in
        let p = program-text f a w in
        let q = program-text g b v in
        (λ e. p ∙ s.0 e ∙ sym q, λ e. s.1 (sym p ∙ e ∙ q))
