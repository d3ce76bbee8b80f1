-- What memory that holds a design has: its lengths, its counts, and how the statements and the renames lie in its tables.
-- Assumes nothing.
use Prim.Native.Nat.{ℕ, suc, ◌+◌, ◌*◌, ◌≤◌, ◌<◌}
use mathlib.Core.Path.{◌≡◌, sym, ap, ◌∙◌}
use mathlib.Core.List.{List, reverse}
use native.Mathlib.Omega.{arith}
use lib.Dec.{ltb}
use lib.ListN.{length, length-reverse}
use Rattle.rules.specs.Statements.{Statement}
use Rattle.rules.specs.Session.{Rename}
use Rattle.rules.specs.Layout.{rooms}
use Rattle.context.specs.declared.place.Place.{Place}
use Rattle.context.proofs.PlaceLaws.{place-rows, bounds}
use Rattle.admitted.specs.AdmitLaws.{admitted-few}
use Rattle.modules.specs.Ranges.{wire_range}
use Rattle.modules.specs.RangeLaws.{where-le, where_next}
use Rattle.modules.specs.declared.Range.{Range}
use Rattle.netlist.specs.Lengths.{lengths-exact}
use Rattle.netlist.specs.Results.{lent}
use Rattle.rename_rules.specs.Judged.{Lies}
use Rattle.memory_check.specs.HeldLaws.{holds-many, holds-room, holds-laid, holds-wired}
use Rattle.memory_check.specs.RenameLaws.{length-file}
use Rattle.session.specs.Steps.{Holding}

-- a row for each statement and each rename
pub rooms-rows : (ss : List Statement) (rs : List Rename) → length (rooms ss rs).rows ≡ length ss + length rs
rooms-rows ss rs = length-file ss rs ∙ ap (λ (n : ℕ). n + length rs) (length-reverse ss)

range-within : (t : List ℕ) (total m : ℕ) → (wire_range t total m).first + (wire_range t total m).count ≤ total
unfolding wire_range
range-within t total m = omega (arith, where_next t m total, where-le (λ c. ltb c (suc m)) t total)

module _ {names strings bits wires rows : List ℕ} {renames room : ℕ} {p : Place} (h : Holding (lent names strings bits wires rows renames room) p) where
  pub long : (length names ≡ 16384) × (length rows ≡ 8 * 6945)
  long = let e = lengths-exact _ h.lengths in (e.0, e.4)

  pub standing : length h.renames ≡ renames
  standing = holds-many h.holds

  pub used : length (rooms h.statements h.renames).names ≡ room
  used = holds-room h.holds

  pub rows_before : length h.statements ≡ p.rows
  rows_before = sym (length-reverse h.statements) ∙ place-rows (reverse h.statements) h.place

  pub few-rows : p.rows ≤ 6881
  few-rows = omega (arith, admitted-few (reverse h.statements) h.holds.admitted, length-reverse h.statements, rows_before)

  pub lies : Lies names wires rows p renames room h.statements h.renames
  lies =
      record {
        admitted = h.holds.admitted;
        closes = h.holds.closes;
        laid = holds-laid h.holds;
        wired = holds-wired h.holds;
        place = h.place;
        standing = standing;
        room = used;
      }

  -- the row of a module's own wire
  pub wire-fits : (m w : ℕ) (own : Range) → own ≡ wire_range wires p.wires m → w < own.count → own.first + w ≤ 6881
  wire-fits m w own eo b =
      let c : w < (wire_range wires p.wires m).count = rw (← eo) b in
      let q : p.wires ≤ p.rows = rw (← h.place) (bounds (reverse h.statements)).wires in
      rw eo (omega (arith, range-within wires p.wires m, few-rows))
