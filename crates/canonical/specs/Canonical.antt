-- An admitted file is admitted in canonical order too, with the renames that stand.
-- Assumes nothing.
use Rattle.std.specs.Prelude.{◌≡◌, List, reverse, true}
use Rattle.rules.specs.Statements.{Statement}
use Rattle.rules.specs.Design.{Design, design, flatten}
use Rattle.rules.specs.Session.{Rename, now}
use Rattle.lists.specs.Elements.{each_map}
use Rattle.admitted.specs.Admitted.{admitted, closes}
use Rattle.admitted.specs.Holds.{Allowed}
use Rattle.canonical.specs.Nesting.{BalancedDesign}
use Rattle.canonical.specs.Fine.{FineProcess, FineModule, FineDesign}
use Rattle.canonical.specs.FineAdmitted.{fine-admitted}
use Rattle.canonical.specs.AdmittedFine.{admitted-fine}
use Rattle.canonical.specs.RenamedFine.{fine-now}

pub record Whole (ss : List Statement) : Type 0 where
  pub admitted : admitted (reverse ss) ≡ true
  pub closes : closes (reverse ss) ≡ true

-- the processes of a fine design close their switches
pub fine-balanced : (d : Design) → FineDesign d → BalancedDesign d
fine-balanced d f =
    each_map FineModule _ (λ o m. each_map FineProcess _ (λ r h. h.balanced) o.body.processes m.processes) d.modules f.modules

-- statements in file order, and the renames that stand behind them
module _ (ss : List Statement) (rs : List Rename) (w : Whole ss) (a : Allowed (design ss) rs) where
  pub now-fine : FineDesign (now (design ss) rs)
  now-fine = fine-now (admitted-fine ss w.admitted w.closes) a

  pub now-balanced : BalancedDesign (now (design ss) rs)
  now-balanced = fine-balanced (now (design ss) rs) now-fine

  pub now-whole : Whole (flatten (now (design ss) rs))
  now-whole = let h = fine-admitted (now (design ss) rs) now-fine in record { admitted = h.0; closes = h.1 }
