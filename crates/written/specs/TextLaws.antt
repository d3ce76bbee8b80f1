-- A written text is read back, line by line.
-- Assumes nothing.
use Rattle.std.specs.Prelude.{◌≡◌, true, ℕ, ◌+◌, ◌≤◌, length}
use Rattle.std.proofs.Common.{ap, ◌∙◌, le-ltb}
use mathlib.Core.List.{List, [], ◌∷◌, reverse_aux, reverse, reverse-reverse}
use Rattle.rules.specs.Limits.{longest_file}
use Rattle.rules.specs.Lines.{lines, lines_from, place}
use Rattle.rules.specs.Statements.{Statement}
use Rattle.rules.specs.Judgement.{Past, scope}
use Rattle.rules.specs.Text.{indent, object, line_text, text_from}
use Rattle.rules.specs.Reading.{states, judged, outcome, accepted, finish, next, read_lines, read_any, read}
use Rattle.admitted.specs.Admitted.{admits, admitted, closes}
use Rattle.meaning.proofs.Judged.{shaped-written}
use Rattle.scanner.proofs.LineLaws.{last_line}
use Rattle.admitted.specs.AdmitLaws.{admits-all, admits-last, admitted-past}
use Rattle.written.specs.LineLaws.{line_at}
use Rattle.written.specs.OutcomeLaws.{wires-legal, outcome-written, first_text, lines-written}

-- a line gives its statement, at any level
pub states-written : (l : ℕ) (ss : Past) (s : Statement) (at : ℕ) → admitted ss ≡ true → admits ss s ≡ true → outcome ss (line_at at (line_text l ss s) true) ≡ states s
unfolding judged
states-written l ss s at a m =
    outcome-written l ss s (wires-legal ss a) (admits-all ss s m).parts at
    ∙ ap (judged (place (line_at at (line_text l ss s) true))) (shaped-written ss s a m)

-- the lines of statements behind others give those statements
pub lines-read : (size at : ℕ) (ss : Past) (more : List Statement) → admitted (reverse_aux more ss) ≡ true → read_lines size (lines_from at (text_from ss more)) ss ≡ finish size (reverse_aux more ss)
unfolding read_lines next text_from
lines-read size at ss [] a = last_line size at ss
lines-read size at ss (s ∷ more) a =
    let m : admits ss s ≡ true = admits-last s ss (admitted-past more (s ∷ ss) a) in
    let p : admitted ss ≡ true = admitted-past (s ∷ more) ss a in
    ap (λ ls. read_lines size ls ss) (lines-written ss s (wires-legal ss p) (admits-all ss s m).parts at more)
    ∙ ap (next (read_lines size (lines_from (at + length (first_text ss s more) + 1) (text_from (s ∷ ss) more))) ss) (states-written (indent (scope ss) (object s more)) ss s at p m)
    ∙ lines-read size (at + length (first_text ss s more) + 1) (s ∷ ss) more a

-- a text of any length, and one that fits
pub any-read : (ss : List Statement) → admitted (reverse ss) ≡ true → closes (reverse ss) ≡ true → read_any (text_from [] ss) ≡ accepted ss
unfolding read_any lines finish closes
any-read ss a c = lines-read (length (text_from [] ss)) 0 [] ss a ∙ rw c (ap accepted (reverse-reverse ss))

pub text-read : (ss : List Statement) → admitted (reverse ss) ≡ true → closes (reverse ss) ≡ true → length (text_from [] ss) ≤ longest_file → read (text_from [] ss) ≡ accepted ss
unfolding read
text-read ss a c h = rw (le-ltb longest_file (length (text_from [] ss)) h) (any-read ss a c)
