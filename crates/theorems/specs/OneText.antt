-- THE TEXT IS ONE: designs that are the same with the names they have now are written as one text, whatever room is lent; the text, read and written again, is
-- itself; and different designs in memory have different texts.
-- Assumes nothing.
use Rattle.std.specs.Prelude.{ℕ, ◌≡◌}
use Rattle.std.proofs.Math.Path.{sym, ap}
use Rattle.std.proofs.Common.{◌∙◌}
use mathlib.Core.List.{List}
use Rattle.rules.specs.Statements.{Statement}
use Rattle.rules.specs.Judgement.{Verdict}
use Rattle.rules.specs.Reading.{Answer, accepted, refused, read_any}
use Rattle.rules.specs.Design.{Design, design, flatten}
use Rattle.rules.specs.Session.{Rename, now}
use Rattle.rules.specs.Layout.{Memory}
use Rattle.rules.specs.Text.{text, write_text, write}
use Rattle.admitted.specs.Holds.{Holds}
use Rattle.admitted.specs.JudgeLaws.{no-tests}
use Rattle.theorems.specs.ReadingBack.{text-back, same-design}

pub written-text : (room : ℕ) (d : Design) (t : List ℕ) → write room d ≡ Verdict.accepted t → text d ≡ t
unfolding write write_text
written-text room d t e = (no-tests (text d) t _ e).0

pub one-text : (room more : ℕ) (d e : Design) (t u : List ℕ) → write room d ≡ Verdict.accepted t → write more e ≡ Verdict.accepted u → d ≡ e → t ≡ u
one-text room more d e t u w v q = sym (written-text room d t w) ∙ ap text q ∙ written-text more e u v

-- the statements of an accepted file
unfoldable pub stated : Answer → List Statement → List Statement
stated (accepted ss) d = ss
stated (refused n p) d = d

module _ {m : Memory} {ss : List Statement} {rs : List Rename} (h : Holds m ss rs) where
  -- different designs have different texts
  pub one-design :
      {n : Memory} {ts : List Statement} {qs : List Rename} → Holds n ts qs → text (now (design ss) rs) ≡ text (now (design ts) qs) → now (design ss) rs ≡ now (design ts) qs
  unfolding stated
  one-design {n} {ts} {qs} k e =
      let r : accepted (flatten (now (design ss) rs)) ≡ accepted (flatten (now (design ts) qs)) = sym (text-back h) ∙ ap read_any e ∙ text-back k in
      sym (same-design h) ∙ ap (λ (a : Answer). design (stated a (flatten (now (design ss) rs)))) r ∙ same-design k
