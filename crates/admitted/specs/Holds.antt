-- Memory that holds a design: admitted statements, and renames each of which was accepted after those before it.
use Rattle.std.specs.Prelude.{◌≡◌, true, List, [], ◌∷◌, ◌++◌, reverse}
use Rattle.rules.specs.Statements.{Statement}
use Rattle.rules.specs.Judgement.{accepted}
use Rattle.rules.specs.Design.{Design, design}
use Rattle.rules.specs.Session.{Rename, rename_call}
use Rattle.rules.specs.Layout.{Memory, layout}
use Rattle.admitted.specs.Admitted.{admitted, closes}

-- oldest first
pub data Allowed (d : Design) : List Rename → Type 0 where
  no-renames : Allowed d []
  one-rename : {qs : List Rename} (rs : List Rename) (r : Rename) → Allowed d rs → rename_call d rs r ≡ accepted (rs ++ r ∷ []) → qs ≡ rs ++ r ∷ [] → Allowed d qs

pub record Holds (m : Memory) (ss : List Statement) (rs : List Rename) : Type 0 where
  pub admitted : admitted (reverse ss) ≡ true
  pub closes : closes (reverse ss) ≡ true
  pub allowed : Allowed (design ss) rs
  pub is : layout ss rs ≡ m
