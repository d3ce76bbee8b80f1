-- The line that starts at a position.
use Rattle.std.specs.Prelude.{ℕ, ◌+◌, List, cond, length, ltb}
use Rattle.scanner.specs.Class.{in_class, no_byte, letter}
use Rattle.scanner.specs.Runs.{end_of}
use Rattle.scanner.specs.declared.lines.Line.{Line}

-- from at to a line end or the file's end; the next line starts behind the line end
unfoldable pub line_from : List ℕ → ℕ → Line
line_from s at =
    let e = end_of (in_class no_byte letter) s at in
    let more = ltb e (length s) in
    record { start = at; end = e; next = cond more (e + 1) e; ended = more }
