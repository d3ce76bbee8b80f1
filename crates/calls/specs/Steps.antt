-- What a list of calls leaves in memory that holds a design.
use Rattle.std.specs.Prelude.{ℕ, ◌≡◌, List}
use Rattle.rules.specs.Statements.{Statement}
use Rattle.rules.specs.Design.{design}
use Rattle.rules.specs.Session.{Rename, Call, plain_session}
use Rattle.rules.specs.Layout.{Memory, layout}
use Rattle.admitted.specs.Holds.{Holds}
use Rattle.netlist.specs.Results.{Result, result}
use Rattle.calls.specs.Calls.{answered}

-- for the statements and renames that the memory holds
abbrev pub MadeAs : Memory → (old : List ℕ) → List Call → Result → (answers : List ℕ) → Type 0
MadeAs m old cs r answers =
    (ss : List Statement) (rs : List Rename) → Holds m ss rs →
    let s = plain_session (design ss) rs cs in
    (r ≡ result 0 0 (layout ss s.1)) × (answers ≡ answered old s.0)
