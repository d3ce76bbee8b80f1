-- A part that lies in its table is in order.
-- Assumes nothing.
use Prim.Native.Nat.{ℕ}
use mathlib.Core.List.{List}
use Rattle.std.specs.Prelude.{Result, Ok, Err}
use Rattle.show.specs.Parts.{InRange}
use Rattle.show.specs.declared.Shown.{Shown}
use Rattle.memory_calls.specs.Given.{Ordered}

pub in_order : (names strings : List ℕ) (s : Result Shown ℕ) → InRange names strings s → Ordered s
in_order names strings (Ok (Shown.Name p)) h = h.0
in_order names strings (Ok (Shown.Text p)) h = h.0
in_order names strings (Err n) h = tt
