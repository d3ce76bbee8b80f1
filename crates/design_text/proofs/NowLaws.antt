-- Tables that begin with what the rooms of statements and renames hold: the names of wires as they are now.
-- Assumes nothing.
use Prim.Native.Nat.{ℕ, zero, suc, ◌+◌}
use mathlib.Core.Path.{◌≡◌, refl, sym, ap, ap₂, ◌∙◌}
use mathlib.Core.List.{List, ◌∷◌, reverse_aux}
use Rattle.lists.specs.Lists.{keeps-before}
use lib.ListN.{length}
use Rattle.rules.specs.Tokens.{Name}
use Rattle.rules.specs.Statements.{Statement, Wire}
use Rattle.rules.specs.Signals.{Wires}
use Rattle.rules.specs.Judgement.{Past}
use Rattle.rules.specs.Session.{Rename}
use Rattle.rules.specs.Layout.{Rooms, put_renames}
use Rattle.tables.specs.Flat.{Eights}
use Rattle.wires.specs.Rows.{name_of, wire_of, wires_from}
use Rattle.wires.specs.RowLaws.{length-wires}
use Rattle.netlist.specs.Laid.{rooms_of}
use Rattle.netlist.specs.Tables.{Tables}
use Rattle.netlist.specs.Fronts.{Fronts}
use Rattle.netlist.specs.FrontLaws.{fronts-before, fronts-laid}
use Rattle.modules.specs.Now as design
use Rattle.wire_names.specs.Now.{name_now, wires_now}
use Rattle.module_text.specs.Passes.{declared_now, wires_down}
use Rattle.rename_rules.specs.NowLaws.{name-now-laid}

module _ {t : Tables} where
  pub fronts-past : (qs : List Statement) (ps : Past) → Fronts (rooms_of (reverse_aux qs ps)) t → Fronts (rooms_of ps) t
  fronts-past = keeps-before (λ ps. Fronts (rooms_of ps) t) fronts-before

-- THE NAME NOW of a wire: that of its last rename, else the one read
module _ {t : Tables} (R : Rooms) (h : Eights R.rows) where
  module _ (rs : List Rename) (b : Fronts (put_renames R rs) t) where
    pub name-is : (m n k : ℕ) → name_now t.names t.wires t.rows (length R.rows) (length rs) m n k ≡ design.name_now rs m n (name_of t.names t.wires k)
    name-is m n k = name-now-laid t.wires R h m n k rs (fronts-laid b)

    pub wires-are : (m first many : ℕ) → wires_now t.names t.wires t.rows (length R.rows) (length rs) m first many ≡ wires_down rs m (wires_from t.names t.wires first many)
    unfolding wires_now wires_down wires_from declared_now
    wires-are m first zero = refl
    wires-are m first (suc k) =
        ap₂ (λ (w : Name × Wire) (ws : Wires). w ∷ ws)
        (ap (λ (x : Name). (x, wire_of t.wires (first + k)))
        (name-is m k (first + k) ∙ ap (λ (n : ℕ). design.name_now rs m n (name_of t.names t.wires (first + k))) (sym (length-wires t.names t.wires first k))))
        (wires-are m first k)
