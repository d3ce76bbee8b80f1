-- What a written line gives when it is read, and the lines of a written text.
-- Assumes nothing.
use Rattle.std.specs.Prelude.{◌≡◌, refl, true, List, ◌∷◌, ℕ, ◌+◌, ◌*◌, length}
use Rattle.std.proofs.Math.Path.{ap}
use Rattle.std.proofs.Common.{◌∙◌}
use Rattle.rules.specs.Bytes.{all, legal}
use Rattle.rules.specs.Tokens.{good, tokens}
use Rattle.rules.specs.Lines.{Line, lines_from, place}
use Rattle.rules.specs.Statements.{Shape, Statement, contents}
use Rattle.rules.specs.Shapes.{shape}
use Rattle.rules.specs.Judgement.{Past, scope, context, wires}
use Rattle.rules.specs.Text.{written, step_tokens, shape_tokens, indent, object, line_text, text_from}
use Rattle.rules.specs.Reading.{shaped, stated, judged, lexed, outcome}
use Rattle.context.specs.Forms.{by_form}
use Rattle.admitted.specs.Admitted.{fine_parts, admitted}
use Rattle.admitted.specs.AdmitLaws.{admitted-wires}
use Rattle.lists.specs.Elements.{all-zip-first}
use Rattle.meaning.specs.Steps.{by_word}
use Rattle.written.specs.TokenLaws.{tokens-spaced}
use Rattle.scanner.proofs.LineLaws.{in_line}
use Rattle.written.specs.LineLaws.{line-free, line_at, lines-first}
use Rattle.written.specs.WrittenLaws.{legal_names, fine-written}

-- a written line has a token
lexed-shape : (ss : Past) (l : Line) (sh : Shape) → lexed ss l (good (shape_tokens sh)) ≡ judged (place l) (stated ss l.ended (shape_tokens sh))
unfolding shape_tokens step_tokens lexed
lexed-shape ss l =
    by_form _ (λ i. refl) (λ n c. refl) (λ n. refl) (λ n c. refl) (λ w n. refl) (λ m n. refl) (λ t n. refl) (λ o n c. refl) (λ n x. refl) (λ x y. refl) (λ n. refl)
    (by_word _ (λ xs. refl) (λ xs. refl) (λ xs. refl) (λ xs. refl) (λ xs. refl) (λ xs. refl) (λ xs. refl) (λ xs. refl) (λ xs. refl) (λ xs. refl) (λ xs. refl) (λ xs. refl)) refl

-- a line at any level
module _ (l : ℕ) (ss : Past) (s : Statement) (h : legal_names (wires ss) ≡ true) (f : fine_parts (wires ss) s ≡ true) where
  -- its tokens
  pub tokens-written : tokens (line_text l ss s) ≡ good (shape_tokens (written (wires ss) s))
  unfolding line_text
  tokens-written = tokens-spaced (2 * l) (shape_tokens (written (wires ss) s)) (fine-written (wires ss) s h f)

  -- it holds no line end
  pub written-free : all in_line (line_text l ss s) ≡ true
  unfolding line_text
  written-free = line-free (2 * l) (shape_tokens (written (wires ss) s)) (fine-written (wires ss) s h f)

  -- what it gives behind the statements before it
  pub outcome-written : (at : ℕ) → outcome ss (line_at at (line_text l ss s) true) ≡ judged (place (line_at at (line_text l ss s) true)) (shaped ss (shape (context ss) (shape_tokens (written (wires ss) s))))
  unfolding outcome stated
  outcome-written at = ap (lexed ss (line_at at (line_text l ss s) true)) tokens-written ∙ lexed-shape ss (line_at at (line_text l ss s) true) (written (wires ss) s)

-- the first line of a text
abbrev pub first_text : Past → Statement → List Statement → List ℕ
first_text ss s more = line_text (indent (scope ss) (object s more)) ss s

pub lines-written :
    (ss : Past) (s : Statement) → legal_names (wires ss) ≡ true → fine_parts (wires ss) s ≡ true → (at : ℕ) (more : List Statement) →
    lines_from at (text_from ss (s ∷ more)) ≡ line_at at (first_text ss s more) true ∷ lines_from (at + length (first_text ss s more) + 1) (text_from (s ∷ ss) more)
unfolding text_from
lines-written ss s h f at more = lines-first at (first_text ss s more) (text_from (s ∷ ss) more) (written-free (indent (scope ss) (object s more)) ss s h f)

-- the wires of admitted statements have legal names
pub wires-legal : (ss : Past) → admitted ss ≡ true → legal_names (wires ss) ≡ true
unfolding legal_names
wires-legal ss a = admitted-wires (λ w. legal w.0) (λ ws s f. all-zip-first legal (contents s).names (contents s).wires f.names) ss a
