-- Tables of zeros are those of the empty memory.
-- Assumes nothing.
use Prim.Native.Nat.{ℕ}
use mathlib.Core.Path.{◌≡◌, sym, ◌∙◌}
use mathlib.Core.List.{List, flat_map}
use lib.ListN.{replicate}
use Rattle.rules.specs.Layout.{empty, memory}
use Rattle.tables.specs.Padded.{padded-nil}
use Rattle.netlist.specs.Tables.{tabled}
use Rattle.layout.specs.Put.{tables_of}

pub zero-tables :
    {n s b w r : List ℕ} → n ≡ replicate 16384 0 → s ≡ replicate 8192 0 → b ≡ replicate 16384 0 → w ≡ replicate 4096 0 → r ≡ replicate 55560 0 →
    tabled n s b w r ≡ tables_of (memory empty 0)
unfolding tables_of memory flat_map
zero-tables en es eb ew er =
    λ i. record {
      names = (en ∙ sym (padded-nil 16384)) i;
      strings = (es ∙ sym (padded-nil 8192)) i;
      bits = (eb ∙ sym (padded-nil 16384)) i;
      wires = (ew ∙ sym (padded-nil 4096)) i;
      rows = (er ∙ sym (padded-nil 55560)) i;
    }
