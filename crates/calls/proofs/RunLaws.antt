-- What reading the file tells of the calls after it.
-- Assumes nothing.
use Prim.Native.Nat.{ℕ}
use mathlib.Core.Path.{◌≡◌, ap}
use mathlib.Core.List.{List, []}
use mathlib.Core.Bool.{Bool, true, false, cond}
use Rattle.rules.specs.Reading.{Answer, accepted, refused, read}
use Rattle.rules.specs.Session.{Call}
use Rattle.rules.specs.Layout.{Memory}
use Rattle.netlist.specs.Results.{Result, result}
use Rattle.netlist.specs.Lengths.{right_lengths}
use Rattle.reader.specs.Fill.{leaves, fill_into}
use Rattle.theorems.specs.DamagedMemory.{Held}
use Rattle.calls.specs.Calls.{session_on, session}
use Rattle.calls.specs.Steps.{MadeAs}
use Rattle.calls.specs.StepLaws.{read-holds, number_read}

module _ (file : List ℕ) (m : Memory) (x : Result) where
  pub run-open : x ≡ fill_into file m → x.number ≡ 0 → Held x.memory
  run-open e z =
      let a = number_read file m x e z in
      record { statements = a.statements; renames = []; holds = read-holds file a.reads a.is }

  module _ (cs : List Call) (old : List ℕ) where
    pub run-done : x ≡ fill_into file m → x.number ≡ 0 → (r : Result) (answers : List ℕ) → MadeAs x.memory old cs r answers → ◌≡◌ {A = Result × List ℕ} (r, answers) (session file cs m old)
    unfolding session session_on
    run-done e z r answers k =
        let a = number_read file m x e z in
        let p = k a.statements [] (read-holds file a.reads a.is) in
        rw (a.lengths, a.reads) (λ i. (p.0 i, p.1 i))

    refused-by : (b : Bool) (a : Answer) → x ≡ cond b (leaves a) (result 1 0 m) → (x.number ≡ 0 → ⊥) → ◌≡◌ {A = Result × List ℕ} (x, old) (cond b (session_on a cs old) (result 1 0 m, old))
    unfolding leaves session_on
    refused-by true (accepted ss) e h = absurd (h (ap (λ (y : Result). y.number) e))
    refused-by true (refused n p) e h = λ i. (e i, old)
    refused-by false a e h = λ i. (e i, old)

    pub run-refused : x ≡ fill_into file m → (x.number ≡ 0 → ⊥) → ◌≡◌ {A = Result × List ℕ} (x, old) (session file cs m old)
    unfolding fill_into session
    run-refused e h = refused-by (right_lengths m) (read file) e h
