-- What opening memory tells.
-- Assumes nothing.
use Prim.Native.Nat.{ℕ}
use mathlib.Core.Path.{◌≡◌, ap, ◌∙◌}
use mathlib.Core.Bool.{true}
use Rattle.std.specs.Prelude.{Some, None, Result, Ok, Err}
use Rattle.std.specs.Prelude.{Option as Optional}
use Rattle.std.specs.Option.{ok_or}
use Rattle.rules.specs.Layout.{Memory}
use Rattle.context.specs.declared.place.Place.{Place}
use Rattle.context.specs.declared.sizes.Standing.{Standing}
use Rattle.netlist.specs.Lengths.{right_lengths}
use Rattle.memory_check.specs.Held.{HeldIs}
use Rattle.session.specs.Steps.{Holding, NotOpen, none-held, OpenedIs}

module _ (m : Memory) (r : Optional Standing) (is : HeldIs m r) (e : right_lengths m ≡ true) where
  pub held-open : (x : Standing) → r ≡ Some x → Holding m x.place
  unfolding HeldIs
  held-open x q =
      let h = rw q at is in
      record { statements = h.0; renames = h.1; lengths = e; holds = h.2; place = h.3 }

err_number : Result Standing ℕ → ℕ
err_number (Ok x) = 0
err_number (Err n) = n

-- where there is none, the number that is given for that
pub err_refused :
    (m : Memory) (r : Optional Standing) → HeldIs m r → right_lengths m ≡ true → r ≡ None → (n : ℕ) → Err n ≡ ok_or r 3 → (k : ℕ) → k ≡ n → NotOpen m k
unfolding HeldIs err_number
err_refused m r is e h n q k z = none-held e (rw h at is) (z ∙ ap err_number (rw h at q))

module _ (m : Memory) (r : Result Place ℕ) (is : OpenedIs m r) where
  pub opened : (p : Place) → r ≡ Ok p → Holding m p
  opened p q = rw q at is

  pub not_opened : (n : ℕ) → r ≡ Err n → NotOpen m n
  not_opened n q = rw q at is
