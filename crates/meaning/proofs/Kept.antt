-- The wires of statements that may stand after one another.
-- Assumes nothing.
use Rattle.std.specs.Prelude.{◌≡◌, true}
use mathlib.Core.List.{[], ◌∷◌}
use Rattle.rules.specs.Judgement.{Past, wires}
use Rattle.admitted.specs.Admitted.{admitted}
use Rattle.admitted.specs.AdmitLaws.{admitted-before, admitted-last}
use Rattle.meaning.specs.Wires.{Sound}
use Rattle.meaning.specs.Kept.{sound_more, no-past}

pub admitted-sound : (ss : Past) → admitted ss ≡ true → Sound (wires ss)
admitted-sound [] h = no-past
admitted-sound (s ∷ ss) h = sound_more ss s (admitted-last s ss h) (admitted-sound ss (admitted-before s ss h))
