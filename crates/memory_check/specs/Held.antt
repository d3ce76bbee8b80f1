-- Memory that holds a design, by its tables and its card.
use Rattle.std.specs.Prelude.{ℕ, ◌+◌, ◌*◌, ◌≡◌, List, reverse, Bool, ◌&&◌, eqb, drop, Some, None}
use Rattle.std.specs.Prelude.{Option as Optional}
use Rattle.rules.specs.Bytes.{all}
use Rattle.rules.specs.Statements.{Statement}
use Rattle.rules.specs.Session.{Rename}
use Rattle.rules.specs.Layout.{Memory}
use Rattle.context.specs.Place.{place_of}
use Rattle.context.specs.Sizes.{sums_of}
use Rattle.context.specs.declared.place.Place.{Place}
use Rattle.context.specs.declared.sizes.Sizes.{Sizes}
use Rattle.context.specs.declared.sizes.Standing.{Standing}
use Rattle.admitted.specs.Holds.{Holds}

abbrev pub memory_in : (names strings bits wires rows : List ℕ) → (renames room : ℕ) → Memory
memory_in names strings bits wires rows renames room =
    record { names = names; strings = strings; bits = bits; wires = wires; rows = rows; renames = renames; room = room }

unfoldable pub zero_from : List ℕ → ℕ → Bool
zero_from t at = all (eqb 0) (drop at t)

-- unused room is zero, behind statements with this place and these sums, and renames
unfoldable pub rest_zero : Memory → Place → Sizes → Bool
rest_zero m p u =
    zero_from m.names m.room
    && (zero_from m.strings u.string_bytes
    && (zero_from m.bits (u.value_bits + u.signal_bits)
    && (zero_from m.wires (8 * p.wires) && zero_from m.rows (8 * (p.rows + m.renames)))))

-- the answer, both ways: the memory holds a design, with this place and these sums behind its statements; or it holds none
unfoldable pub HeldIs : Memory → Optional Standing → Type 0
HeldIs m (Some x) =
    (ss : List Statement) × (rs : List Rename) × Holds m ss rs × (place_of (reverse ss) ≡ x.place) × (sums_of (reverse ss) ≡ x.sums)
HeldIs m None = (ss : List Statement) (rs : List Rename) → Holds m ss rs → ⊥
