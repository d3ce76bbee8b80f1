-- What the calls on lent design memory give back, for all memory.
use Rattle.std.specs.Prelude.{ℕ, ◌≡◌, List, true, false}
use Rattle.rules.specs.Statements.{Statement}
use Rattle.rules.specs.Judgement.{Verdict, accepted, refused}
use Rattle.rules.specs.Design.{design}
use Rattle.rules.specs.Session.{Rename, Call, call}
use Rattle.rules.specs.Layout.{Memory, layout}
use Rattle.admitted.specs.Holds.{Holds}
use Rattle.netlist.specs.Results.{Result, result}
use Rattle.netlist.specs.Lengths.{right_lengths}

abbrev pub Damaged : Memory → Type 0
Damaged m = (ss : List Statement) (rs : List Rename) → Holds m ss rs → ⊥

-- 1: a lent table hasn't its exact stated length. 3: memory that no admitted statements and accepted renames leave. Else what is said of the statements and
-- renames that the memory holds
pub data Called {A : Type 0} (m : Memory) (refuse : ℕ → A) (says : List Statement → List Rename → A) (a : A) : Type 0 where
  wrong-lengths : right_lengths m ≡ false → a ≡ refuse 1 → Called m refuse says a
  damaged : right_lengths m ≡ true → Damaged m → a ≡ refuse 3 → Called m refuse says a
  holding : (ss : List Statement) (rs : List Rename) → right_lengths m ≡ true → Holds m ss rs → a ≡ says ss rs → Called m refuse says a

-- Rename and undo: the memory holds the renames listed at the end. A refusal has place 0 and changes nothing
unfoldable pub after : Memory → List Statement → Verdict (List Rename) → Result
after m ss (accepted rs) = result 0 0 (layout ss rs)
after m ss (refused n) = result n 0 m

abbrev pub CalledAs : Memory → Call → Result → Type 0
CalledAs m c r = Called m (λ n. result n 0 m) (λ ss rs. after m ss (call (design ss) rs c)) r

-- A call that asks: a number, 0 if there is an answer, and the answer. A refused one answers z
unfoldable pub answer : {A : Type 0} → A → Verdict A → ℕ × A
answer z (accepted a) = (0, a)
answer z (refused n) = (n, z)
