-- "WRITING, READING AND WRITING AGAIN GIVES THE FIRST TEXT".
-- Assumes nothing.
use Rattle.std.specs.Prelude.{ℕ, ◌≡◌}
use Rattle.std.proofs.Common.{sym, ap, ◌∙◌}
use mathlib.Core.List.{List, []}
use Rattle.rules.specs.Limits.{longest_file}
use Rattle.rules.specs.Statements.{Statement}
use Rattle.rules.specs.Judgement.{Verdict}
use Rattle.rules.specs.Reading.{Answer, accepted, read}
use Rattle.rules.specs.Design.{design}
use Rattle.rules.specs.Session.{Rename, Call, now, plain_session}
use Rattle.rules.specs.Layout.{Memory}
use Rattle.rules.specs.Text.{write, program}
use Rattle.admitted.specs.Holds.{Holds}
use Rattle.theorems.specs.ReadingBack.{write_read}
use Rattle.theorems.specs.OneText.{stated}
use Rattle.theorems.specs.SameBytes.{after, after_holds, program-text, Again}

module _ {m : Memory} {ss : List Statement} {rs : List Rename} (h : Holds m ss rs) where
  -- the text of what the text is read as
  pub written-again :
      (room : ℕ) (t : List ℕ) → write room (now (design ss) rs) ≡ Verdict.accepted t → (us : List Statement) → read t ≡ accepted us → write room (design us) ≡ Verdict.accepted t
  unfolding stated
  written-again room t e us r =
      let b = write_read h room t e in
      let q : us ≡ b.statements = ap (λ (a : Answer). stated a us) (sym r ∙ b.reads) in
      ap (λ (l : List Statement). write room (design l)) q ∙ ap (write room) b.defines ∙ e

module _ (f : List ℕ) {ss : List Statement} (a : read f ≡ accepted ss) where
  -- after any calls
  pub again-after : (cs : List Call) (room : ℕ) (t : List ℕ) → write room (after ss cs) ≡ Verdict.accepted t → Again room t
  again-after cs room t w =
      let h = after_holds f a cs in
      let r = write_read h room t w in
      record { statements = r.statements; reads = r.reads; writes = written-again h room t w r.statements r.reads }

  -- of the file as it was read
  pub again : (room : ℕ) (t : List ℕ) → write room (design ss) ≡ Verdict.accepted t → Again room t
  unfolding plain_session now
  again room t w = again-after [] room t w

  -- the program on its own output
  pub program-again : (t : List ℕ) → write longest_file (design ss) ≡ Verdict.accepted t → program (program f) ≡ program f
  program-again t w =
      let k = again longest_file t w in
      let p = program-text f a w in
      ap program p ∙ program-text t k.reads k.writes ∙ sym p
