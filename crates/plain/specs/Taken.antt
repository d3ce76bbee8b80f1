-- The bytes of a form, byte by byte of what they stand for.
use Rattle.std.specs.Prelude.{ℕ, ◌≤◌, ◌<◌, ◌≡◌, List, [], ◌∷◌, length, drop}
use Rattle.std.specs.Prelude.{Option as Optional, Some, None}
use Rattle.rules.specs.Plain.{form_bytes}
use Rattle.plain.specs.declared.Taken.{Taken}

-- what the bytes from place i on stand for: a byte and what those from the next place on do, or nothing
abbrev pub TakenIs : (form : List ℕ) (i : ℕ) → Optional Taken → Type 0
TakenIs s i (Some x) = (form_bytes (drop i s) ≡ x.value ∷ form_bytes (drop x.next s)) × (i < x.next) × (x.next ≤ length s)
TakenIs s i None = form_bytes (drop i s) ≡ []
