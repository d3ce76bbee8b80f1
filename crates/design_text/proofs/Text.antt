-- The rows of memory that holds a design write the text of the design with its names now.
-- Assumes nothing.
use mathlib.Core.Path.{◌≡◌, refl, sym, ◌∙◌}
use mathlib.Core.List.{List, reverse}
use lib.ListN.{length, length-reverse}
use Rattle.rules.specs.Statements.{Statement}
use Rattle.rules.specs.Design.{design}
use Rattle.rules.specs.Session.{Rename, now}
use Rattle.rules.specs.Text.{text}
use Rattle.rules.specs.Layout.{Memory, put_renames}
use Rattle.context.specs.Place.{wires_in}
use Rattle.netlist.specs.Laid.{rooms_of}
use Rattle.admitted.specs.Holds.{Holds}
use Rattle.canonical.specs.Canonical.{now-fine}
use Rattle.module_text.specs.PassLaws.{fine-leads}
use Rattle.module_text.proofs.FileText.{text-file}
use Rattle.design_text.specs.declared.Counts.{Counts}
use Rattle.design_text.specs.Rows.{text_rows}
use Rattle.netlist.specs.RoomLaws.{rooms-file}
use Rattle.netlist.specs.Tables.{tables_in}
use Rattle.netlist.specs.Fronts.{Fronts}
use Rattle.netlist.specs.FrontLaws.{fronts-layout}
use Rattle.design_text.proofs.Modules.{text_of}

-- THE TEXT
pub text-held :
    (m : Memory) (ss : List Statement) (rs : List Rename) (C : Counts) → Holds m ss rs → C.statements ≡ length ss → C.wires ≡ wires_in (reverse ss) → C.renames ≡ length rs →
    text_rows (tables_in m) C ≡ text (now (design ss) rs)
text-held m ss rs C h statements wires renames =
    let b : Fronts (put_renames (rooms_of (reverse ss)) rs) (tables_in m) = rw (h.is, rooms-file ss rs) at (fronts-layout ss rs) in
    text_of rs C (reverse ss) b h.admitted (statements ∙ sym (length-reverse ss)) wires renames ss refl ∙ sym (text-file ss rs (fine-leads (now (design ss) rs) (now-fine ss rs (record { admitted = h.admitted; closes = h.closes }) h.allowed)))
