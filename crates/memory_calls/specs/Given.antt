-- What the exported calls that only ask answer.
use Rattle.std.specs.Prelude.{ℕ, ◌-◌, ◌≤◌, ◌≡◌, Result, Ok, Err}
use Rattle.rules.specs.Layout.{Memory}
use Rattle.card.specs.declared.LengthAnswer.{LengthAnswer}
use Rattle.listing.specs.declared.Listed.{Listed}
use Rattle.look_up.specs.declared.Found.{Found}
use Rattle.look_up.specs.declared.Indexed.{Indexed}
use Rattle.show.specs.Parts.{number_of, bytes_in, InRange, ShownAs, ShownAt}
use Rattle.show.specs.declared.Shown.{Shown}
use Rattle.writer.specs.declared.Written.{Written}
use Rattle.memory_calls.specs.declared.WireAnswer.{WireAnswer}
use Rattle.memory_calls.specs.declared.IndexAnswer.{IndexAnswer}
use Rattle.memory_calls.specs.declared.PartAnswer.{PartAnswer}

-- an exported answer as the call's own
abbrev pub found_by : WireAnswer → Found
found_by a = record { number = a.number; wire = record { 0 = a.wire } }

abbrev pub indexed_by : IndexAnswer → Indexed
indexed_by a = record { number = a.number; index = a.index }

abbrev pub written_by : LengthAnswer → Written
written_by a = record { number = a.number; length = a.length }

abbrev pub listed_by : LengthAnswer → Listed
listed_by a = record { number = a.number; length = a.length }

-- a part by its table, 1 the names and 2 the strings, its start and its length; a refusal is zero but for its number
unfoldable pub part_of : Result Shown ℕ → PartAnswer
part_of (Ok (Shown.Name p)) = record { number = 0; table = 1; start = p.start; length = p.end - p.start }
part_of (Ok (Shown.Text p)) = record { number = 0; table = 2; start = p.start; length = p.end - p.start }
part_of (Err n) = record { number = n; table = 0; start = 0; length = 0 }

-- its end is not before its start
abbrev pub Ordered : Result Shown ℕ → Type 0
Ordered (Ok (Shown.Name p)) = p.start ≤ p.end
Ordered (Ok (Shown.Text p)) = p.start ≤ p.end
Ordered (Err n) = Unit {0}

-- of the one part that show gives
abbrev pub PartGiven : Memory → (k w : ℕ) → PartAnswer → Type 0
PartGiven m k w a =
    (s : Result Shown ℕ) × ShownAt m k w s × InRange m.names m.strings s × ShownAs m k w (number_of s) (bytes_in m.names m.strings s) × (a ≡ part_of s)
