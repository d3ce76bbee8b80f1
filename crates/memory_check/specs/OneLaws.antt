-- Memory holds one list of statements and one list of renames only.
-- Assumes nothing.
use Rattle.std.specs.Prelude.{◌≡◌, List, reverse}
use Rattle.std.proofs.Common.{sym, ap, ◌∙◌, subst}
use Rattle.std.proofs.lemmas.List.{reverse-reverse}
use Rattle.rules.specs.Statements.{Statement}
use Rattle.rules.specs.Session.{Rename}
use Rattle.rules.specs.Layout.{Memory, rooms}
use Rattle.netlist.specs.Laid.{Laid}
use Rattle.admitted.specs.Holds.{Holds}
use Rattle.replay.specs.OneLaws.{stored_one}
use Rattle.memory_check.specs.RenameLaws.{file-one}
use Rattle.memory_check.specs.HeldLaws.{holds-many, holds-laid, holds-stored}

pub holds-one : {m : Memory} {ss qs : List Statement} {rs ps : List Rename} → Holds m ss rs → Holds m qs ps → (ss ≡ qs) × (rs ≡ ps)
holds-one {m} {ss} {qs} {rs} {ps} h g =
    let e : reverse ss ≡ reverse qs = stored_one (holds-stored h) (holds-stored g) in
    let s : ss ≡ qs = sym (reverse-reverse ss) ∙ ap reverse e ∙ reverse-reverse qs in
    let l : Laid (rooms ss ps) m.names m.rows = subst (λ (x : List Statement). Laid (rooms x ps) m.names m.rows) (sym s) (holds-laid g) in
    (s, file-one ss rs ps (holds-many h ∙ sym (holds-many g)) (holds-laid h) l)
