-- The lengths of the five tables that are lent.
-- Assumes nothing.
use Rattle.std.specs.Prelude.{ℕ, ◌≡◌, [], ◌∷◌, Bool, true, ◌&&◌, eqb, length}
use Rattle.std.proofs.Common.{eqb-true}
use Rattle.rules.specs.Limits.{names_length, strings_length, bits_length, wires_length, rows_length}
use Rattle.rules.specs.Layout.{Memory}
use Rattle.lists.specs.Elements.{test_at}

unfoldable pub right_sizes : (names strings bits wires rows : ℕ) → Bool
right_sizes n s b w r = eqb n names_length && eqb s strings_length && eqb b bits_length && eqb w wires_length && eqb r rows_length

-- of the memory that a call is lent
unfoldable pub right_lengths : Memory → Bool
right_lengths m = right_sizes (length m.names) (length m.strings) (length m.bits) (length m.wires) (length m.rows)

pub sizes-exact : (n s b w r : ℕ) → right_sizes n s b w r ≡ true → (n ≡ names_length) × (s ≡ strings_length) × (b ≡ bits_length) × (w ≡ wires_length) × (r ≡ rows_length)
unfolding right_sizes
sizes-exact n s b w r e =
    let h = test_at (eqb n names_length) (eqb s strings_length ∷ eqb b bits_length ∷ eqb w wires_length ∷ eqb r rows_length ∷ []) e in
    (eqb-true _ _ (h 0), eqb-true _ _ (h 1), eqb-true _ _ (h 2), eqb-true _ _ (h 3), eqb-true _ _ (h 4))

pub lengths-exact :
    (m : Memory) → right_lengths m ≡ true →
    (length m.names ≡ names_length) × (length m.strings ≡ strings_length) × (length m.bits ≡ bits_length) × (length m.wires ≡ wires_length) × (length m.rows ≡ rows_length)
unfolding right_lengths
lengths-exact m e = sizes-exact (length m.names) (length m.strings) (length m.bits) (length m.wires) (length m.rows) e
