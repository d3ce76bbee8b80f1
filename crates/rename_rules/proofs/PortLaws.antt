-- What a direction's code says of a port.
-- Assumes nothing.
use Prim.Native.Nat.{ℕ, ◌+◌, ◌*◌, ◌/◌, ◌<◌}
use mathlib.Core.Path.{◌≡◌}
use mathlib.Core.List.{List}
use mathlib.Core.Bool.{true, false}
use mathlib.Core.Option.{Option-elim}
use native.Mathlib.Omega.{arith}
use lib.Dec.{leb}
use borrow.Author.Tests.{leb-true, leb-false}
use Rattle.rules.specs.Session.{is_port}
use Rattle.lists.specs.Tests.{by-test}
use Rattle.wires.specs.RowLaws.{port-by, port-none}
use Rattle.wires.specs.Rows.{word_at, column, port_of, wire_of}

by_code : (d n : ℕ) → 0 < d → Option-elim (port_of d n) false (λ p. true) ≡ leb d 3
unfolding Option-elim
by_code d n h =
    by-test (leb d 3) (λ e. let x = port-by d n h (leb-true d 3 e) in rw (x.1, e))
    (λ e. let k : 3 < d = leb-false d 3 e in rw (port-none d n (λ e. omega arith) (λ e. omega arith) (λ e. omega arith), e))

module _ (t : List ℕ) (row x : ℕ) (e : x ≡ word_at t (8 * row + 5)) where
  pub no-port : x / 4 ≡ 0 → is_port (wire_of t row) ≡ false
  unfolding is_port wire_of column port_of Option-elim
  no-port h = rw (← e, h)

  pub port-code : 0 < x / 4 → is_port (wire_of t row) ≡ leb (x / 4) 3
  unfolding is_port wire_of column
  port-code h = rw (← e) (by_code (x / 4) (word_at t (8 * row + 6)) h)
