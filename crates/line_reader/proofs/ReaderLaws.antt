-- Read one after another, the lines of a reader are those of the rules.
-- Assumes nothing.
use mathlib.Core.Path.{◌≡◌, refl}
use mathlib.Core.Bool.{cond}
use mathlib.Core.List.{List, [], ◌∷◌}
use Prim.Native.Nat.{ℕ}
use lib.ListN.{drop}
use lib.Seq.{slice}
use denote.Ref.{Bor}
use Rattle.rules.specs.Lines.{Line, lines, lines_from}
use Rattle.scanner.proofs.LineLaws.{lines-from}
use Rattle.line_reader.specs.Reader.{opened, line_read, behind}
use Rattle.line_reader.specs.declared.LineReader.{LineReader}

-- the lines from the place reached on
abbrev pub lines_left : LineReader → List Line
lines_left r = lines_from r.at (drop r.at r.file.now)

-- the line read, as the rules have it
abbrev pub as_rule : LineReader → Line
as_rule r = record { start = r.at; text = slice r.at (line_read r).end r.file.now; ended = (line_read r).ended }

pub opened-lines : (file : Bor (List ℕ)) → lines_left (opened file) ≡ lines file.now
unfolding lines
opened-lines file = refl

pub one_line : (r : LineReader) → lines_left r ≡ as_rule r ∷ cond (line_read r).ended (lines_left (behind r)) []
one_line r = lines-from r.file.now r.at
