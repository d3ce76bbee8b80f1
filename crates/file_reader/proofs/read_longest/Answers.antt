use native.Mathlib.Omega.{arith}
use Rattle.file_lines.proofs.FileLaws.{reached-fits}
use Rattle.file_reader.proofs.read_longest.Goals as goal

pub returns-in-Longer : goal.returns-in-Longer
returns-in-Longer c =
    let x = rw c.in-Longer.is at c.read_lines.ensures in
    let fits = reached-fits x.0.reached _ x.0.is in
    absurd (omega (arith, x.2, fits.high, fits.file))
