-- A line's first word by its keyword's number.
use Rattle.std.specs.Prelude.{ℕ, ◌≡◌, List, [], ◌∷◌, Bool, true, false, cond, ◌&&◌, eqb}
use Prim.Native.String.{String}
use Rattle.std.proofs.Math.Option.{Option, none}
use Rattle.rules.specs.Bytes.{bytes, any}
use Rattle.rules.specs.Tokens.{Token, is_keyword}
use Rattle.rules.specs.Statements.{Shape}
use Rattle.rules.specs.Shapes.{is_word, Form}
use Rattle.scanner.specs.Words.{keyword_number}
use Rattle.tokens.specs.Rows.{line}

-- the first token is this word
unfoldable pub starts : String → List Token → Bool
starts w [] = false
starts w (t ∷ ts) = is_word w t

-- row i holds the keyword c and no other, over every file
abbrev pub WordIs : List ℕ → ℕ → ℕ → Type 0
WordIs t i c = (f : List ℕ) (w : String) → is_keyword (bytes w) ≡ true → starts w (line f t i) ≡ eqb c (keyword_number (bytes w))

-- what the keyword with a number announces, read from the tokens behind it
unfoldable pub announced : List Form → ℕ → List Token → Option (Shape × List Token)
announced [] c ts = none
announced (p ∷ ps) c ts = cond (eqb c (keyword_number (bytes p.0))) (p.1 ts) (announced ps c ts)

-- every word that announces a form is a keyword
unfoldable pub numbered : List Form → Bool
numbered [] = true
numbered (p ∷ ps) = is_keyword (bytes p.0) && numbered ps

-- whether the keyword with a number announces one of the forms
unfoldable pub begins : List Form → ℕ → Bool
begins ps c = any (λ p. eqb c (keyword_number (bytes p.0))) ps
