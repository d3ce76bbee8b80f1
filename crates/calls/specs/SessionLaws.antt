-- Only the standing renames count: what a file and a list of calls leave is what the file and just these renames, oldest first, leave.
-- Assumes nothing.
use Rattle.std.specs.Prelude.{ℕ, ◌≡◌, Bool, cond}
use Rattle.std.proofs.Math.Path.{refl, ap}
use Rattle.std.proofs.Common.{sym}
use mathlib.Core.List.{List, [], map}
use Rattle.std.proofs.Math.Bool.{true, false}
use Rattle.rules.specs.Reading.{Answer, accepted, refused, read}
use Rattle.rules.specs.Design.{design}
use Rattle.rules.specs.Session.{Rename, Call, rename, plain_session}
use Rattle.rules.specs.Layout.{Memory, layout}
use Rattle.admitted.specs.Holds.{no-renames}
use Rattle.netlist.specs.Results.{result}
use Rattle.netlist.specs.Lengths.{right_lengths}
use Rattle.theorems.specs.StandingLaws.{allowed-session, session-allowed}
use Rattle.calls.specs.Calls.{session_on, session}

-- the renames that stand after calls on what a file gives
unfoldable pub standing_on : Answer → List Call → List Rename
standing_on (accepted ss) cs = (plain_session (design ss) [] cs).1
standing_on (refused n p) cs = []

module _ (cs : List Call) (m : Memory) (old : List ℕ) where
  by_answer : (b : Bool) (a : Answer) →
      (cond b (session_on a cs old) (result 1 0 m, old)).0 ≡ (cond b (session_on a (map rename (standing_on a cs)) old) (result 1 0 m, old)).0
  unfolding session_on standing_on
  by_answer true (accepted ss) =
      let d = design ss in
      ap (λ (l : List Rename). result 0 0 (layout ss l)) (sym (session-allowed d (allowed-session d cs [] no-renames)))
  by_answer true (refused n p) = refl
  by_answer false a = refl

  pub standing-only : (file : List ℕ) → (session file cs m old).0 ≡ (session file (map rename (standing_on (read file) cs)) m old).0
  unfolding session
  standing-only file = by_answer (right_lengths m) (read file)
