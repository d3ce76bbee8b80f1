-- The tokens of options, the last of which stands first.
-- Assumes nothing.
use Rattle.std.specs.Prelude.{◌≡◌, refl, false, ℕ, ℤ}
use Rattle.std.proofs.Common.{sym, ap, ◌∙◌, arith}
use mathlib.Core.List.{List, [], ◌∷◌, ◌++◌, map, append_assoc, append-nil, Option-to_list}
use Rattle.std.proofs.Math.Option.{Option, none, some}
use Rattle.rules.specs.Tokens.{Token, word}
use Rattle.rules.specs.Statements.{Opt}
use Rattle.rules.specs.Numbers.{in_range}
use Rattle.rules.specs.Text.{number_token, option_tokens}
use Rattle.lists.specs.Bytes.{within-above}
use Rattle.numbers.specs.Signed.{signed_of}
use Rattle.numbers.specs.SignedLaws.{by-half}
use Rattle.signal_text.specs.Pieces.{spread, Piece, piece-none, piece-word, piece-literal, piece-append, spread-append}

option-piece : (w : List ℕ) (o : Option ℤ) → Piece (word w ∷ map number_token (Option-to_list o))
unfolding Option-to_list number_token
option-piece w none = piece-word w
option-piece w (some i) = piece-append (piece-word w) (piece-literal _)

pub piece-options : (os : List Opt) → Piece (option_tokens os)
unfolding option_tokens
piece-options [] = piece-none
piece-options (o ∷ os) = piece-append (piece-options os) (option-piece o.0 o.1)

options-append : (os ps : List Opt) → option_tokens (os ++ ps) ≡ option_tokens ps ++ option_tokens os
unfolding option_tokens
options-append [] ps = sym (append-nil (option_tokens ps))
options-append (o ∷ os) ps =
    ap (λ (l : List Token). l ++ word o.0 ∷ map number_token (Option-to_list o.1)) (options-append os ps)
    ∙ append_assoc (option_tokens ps) (option_tokens os) (word o.0 ∷ map number_token (Option-to_list o.1))

pub spread-options : (os ps : List Opt) → spread (option_tokens (os ++ ps)) ≡ spread (option_tokens ps) ++ spread (option_tokens os)
spread-options os ps = ap spread (options-append os ps) ∙ spread-append (piece-options ps) (piece-options os)

-- an offset is 0 just where its word is
pub offset-there : (w : ℕ) → (w ≡ 0 → ⊥) → in_range 0 0 (signed_of w) ≡ false
unfolding in_range
offset-there w h = by-half (λ z. in_range 0 0 z ≡ false) w (λ b. within-above 0 0 w (omega (arith, h))) (λ b. refl)
