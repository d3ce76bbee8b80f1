-- The bytes of names that a design and its renames use are those that lie in the table of names.
-- Assumes nothing.
use Rattle.std.specs.Prelude.{ℕ, ◌≡◌, List, reverse, true, length}
use Rattle.std.proofs.Common.{arith}
use Rattle.rules.specs.Statements.{Statement}
use Rattle.rules.specs.Judgement.{sum, name_size}
use Rattle.rules.specs.Design.{design, flatten}
use Rattle.rules.specs.Session.{Rename, room_used}
use Rattle.rules.specs.Layout.{rooms}
use Rattle.admitted.specs.Admitted.{admitted, closes}
use Rattle.netlist.specs.Laid.{rooms_of}
use Rattle.canonical.specs.DesignLaws.{design-lines}
use Rattle.canonical.specs.BodySums.{canonical-sum}
use Rattle.canonical.specs.AdmittedFine.{file-of}
use Rattle.netlist.specs.UsedLaws.{used-names}
use Rattle.netlist.specs.RoomLaws.{rename-names, rooms-file}
use Rattle.lists.specs.Sums.{sum-reverse}

-- what is summed over a design's statements doesn't depend on their order
pub sum-design : (f : Statement → ℕ) (ss : List Statement) → admitted (reverse ss) ≡ true → closes (reverse ss) ≡ true → sum f (flatten (design ss)) ≡ sum f ss
sum-design f ss e c =
    let y = file-of ss e c in
    rw (y.lines, design-lines y.file y.balanced) (canonical-sum f y.file)

pub room-used :
    (ss : List Statement) (rs : List Rename) → admitted (reverse ss) ≡ true → closes (reverse ss) ≡ true →
    room_used (design ss) rs ≡ length (rooms ss rs).names
unfolding room_used
room-used ss rs e c =
    rw (rooms-file ss rs)
    (omega (arith, sum-design name_size ss e c, sum-reverse name_size ss, used-names (reverse ss), rename-names (rooms_of (reverse ss)) rs))
