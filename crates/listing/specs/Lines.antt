-- The lines of a module's first wires, by the tables.
use Rattle.std.specs.Prelude.{ℕ, zero, suc, ◌+◌, ltb, length}
use mathlib.Core.List.{List, [], ◌∷◌, ◌++◌, flat_map}
use Rattle.rules.specs.Judgement.{Verdict, verdict, lowest}
use Rattle.rules.specs.Plain.{plain_form, low}
use Rattle.wire_names.specs.Now.{name_now}
use Rattle.wire_names.specs.declared.Module.{Module}
use Rattle.show.specs.Rows.{shown_name}
use Rattle.show.specs.Parts.{shown_part}
use Rattle.show.specs.declared.Shown.{Shown}

module _ (names strings wires rows : List ℕ) (m : Module) where
  -- the name now and the name to show of wire w
  unfoldable pub name_at : ℕ → List ℕ
  name_at w = name_now names wires rows m.from m.renames m.number.0 w (m.first + w)

  unfoldable pub shown_at : ℕ → List ℕ
  shown_at w = shown_name names strings wires rows m.from m.renames m.number.0 w (m.first + w)

  -- where that stands
  unfoldable pub place_at : ℕ → Shown
  place_at w = shown_part names strings wires rows m.from m.renames m.number.0 w (m.first + w)

  unfoldable pub line_at : ℕ → List ℕ
  line_at w = plain_form (name_at w) ++ 32 ∷ flat_map low (shown_at w) ++ 10 ∷ []

  unfoldable pub lines_at : ℕ → List ℕ
  lines_at zero = []
  lines_at (suc w) = lines_at w ++ line_at w

-- 12: the room is too short for a text
unfoldable pub fitted : ℕ → List ℕ → Verdict (List ℕ)
fitted room t = verdict t (lowest ((12, ltb room (length t)) ∷ []))
