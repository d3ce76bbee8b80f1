-- Renames that stand in the tables behind the statements, and one more.
use Rattle.std.specs.Prelude.{ℕ, ◌+◌, ◌≡◌, List, [], ◌∷◌, ◌++◌, Bool, ◌&&◌, eqb, length, Some, None}
use Rattle.std.specs.Prelude.{Option as Optional}
use Rattle.rules.specs.Statements.{Statement}
use Rattle.rules.specs.Judgement.{accepted}
use Rattle.rules.specs.Design.{design}
use Rattle.rules.specs.Session.{Rename, rename_call}
use Rattle.rules.specs.Layout.{rooms, rename_kind}
use Rattle.tables.specs.declared.Row.{Row}
use Rattle.context.specs.declared.place.Place.{Place}
use Rattle.admitted.specs.Holds.{Allowed}
use Rattle.netlist.specs.Laid.{Laid}
use Rattle.rename_rules.specs.Judged.{Lies}

-- whether a row is that of a rename whose name starts at a place
unfoldable pub is_rename : Row → ℕ → Bool
is_rename x at = eqb x.kind rename_kind && (eqb x.a at && (eqb x.e 0 && (eqb x.f 0 && eqb x.g 0)))

-- behind i renames that use so many bytes of names: one more that is accepted, and the bytes used behind it; or none
unfoldable pub RenameIs : (names wires rows : List ℕ) → Place → (i used : ℕ) → Optional ℕ → Type 0
RenameIs names wires rows p i used (Some n) =
    (ss : List Statement) (rs : List Rename) → Lies names wires rows p i used ss rs →
    (r : Rename) × Lies names wires rows p (i + 1) n ss (rs ++ r ∷ []) × (rename_call (design ss) rs r ≡ accepted (rs ++ r ∷ []))
RenameIs names wires rows p i used None =
    (ss : List Statement) (rs : List Rename) → Lies names wires rows p i used ss rs →
    (q : Rename) → Laid (rooms ss (rs ++ q ∷ [])) names rows → rename_call (design ss) rs q ≡ accepted (rs ++ q ∷ []) → ⊥

-- behind the statements: so many renames, each accepted after those before it, and the bytes used behind them; or there are none
unfoldable pub RenamesAre : (names wires rows : List ℕ) → Place → (many used : ℕ) → Optional ℕ → Type 0
RenamesAre names wires rows p many used (Some n) =
    (ss : List Statement) → Lies names wires rows p 0 used ss [] → (rs : List Rename) × Lies names wires rows p many n ss rs × Allowed (design ss) rs
RenamesAre names wires rows p many used None =
    (ss : List Statement) → Lies names wires rows p 0 used ss [] →
    (qs : List Rename) → Allowed (design ss) qs → Laid (rooms ss qs) names rows → length qs ≡ many → ⊥
