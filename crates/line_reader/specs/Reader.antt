-- The line reader: the bytes held, and the place reached.
use Rattle.std.specs.Prelude.{ℕ, List}
use Rattle.std.specs.Borrow.{Bor}
use Rattle.scanner.specs.Lines.{line_from}
use Rattle.scanner.specs.declared.lines.Line.{Line}
use Rattle.line_reader.specs.declared.LineReader.{LineReader}

-- a file is read from its first byte on
abbrev pub opened : Bor (List ℕ) → LineReader
opened file = record { file = file; at = 0 }

-- the same bytes, from another place on
abbrev pub moved_to : LineReader → ℕ → LineReader
moved_to r at = record { file = r.file; at = at }

-- the line at the place reached
abbrev pub line_read : LineReader → Line
line_read r = line_from r.file.now r.at

-- the same bytes, from behind that line on
abbrev pub behind : LineReader → LineReader
behind r = moved_to r (line_read r).next
