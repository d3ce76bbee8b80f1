-- The beginning of a table where values were stored.
-- Assumes nothing.
use mathlib.Core.Path.{◌≡◌, ap₂, ◌∙◌}
use mathlib.Core.List.{List}
use Prim.Native.Nat.{ℕ, ◌+◌, ◌≤◌}
use native.Mathlib.Omega.{arith}
use lib.ListN.{length}
use lib.Seq.{slice}
use Rattle.tables.specs.Store.{store, store-slice}

pub stored-front : (l t r vs : List ℕ) (n : ℕ) → length vs ≤ length l → t ≡ store l 0 vs → n ≡ 0 + length vs → r ≡ slice 0 n t → r ≡ vs
stored-front l t r vs n h e en er = er ∙ ap₂ (slice 0) en e ∙ store-slice l 0 vs (omega arith)
