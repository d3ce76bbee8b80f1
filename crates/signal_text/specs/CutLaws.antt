-- The text of bounds, and of some bits of a wire.
-- Assumes nothing.
use Rattle.std.specs.Prelude.{◌≡◌, cond, ℕ, ◌+◌, ◌-◌, eqb, pos}
use Rattle.std.proofs.Common.{sym, ◌∙◌}
use Rattle.std.proofs.Math.Path.{ap}
use mathlib.Core.List.{List, [], ◌∷◌, ◌++◌}
use Rattle.std.proofs.Math.Option.{none, some}
use borrow.Author.Tests.{eq-eqb, ne_eqb}
use Rattle.rules.specs.Tokens.{Name, mark}
use Rattle.rules.specs.Statements.{Wire}
use Rattle.rules.specs.Shapes.{is_mark}
use Rattle.rules.specs.Signals.{Wires}
use Rattle.rules.specs.Text.{cut, number_token, low_tokens, sig_tokens, decimal_text, integer_text, literal_text, token_text, tight, behind}
use Rattle.signal_text.specs.Pieces.{spread, piece-name, piece-bounds, spread-name, spread-append}

-- `[i]` or `[h:l]`; the whole wire or a part of it
module _ (low count h : ℕ) (eh : h ≡ low + count - 1) where
  pub bounds-one : count ≡ 1 → (32 ∷ 91 ∷ []) ++ (decimal_text h ++ 93 ∷ []) ≡ spread (mark 91 ∷ number_token (pos (low + count - 1)) ∷ low_tokens (cond (eqb count 1) none (some (pos low))) ++ mark 93 ∷ [])
  unfolding spread behind tight token_text is_mark low_tokens number_token literal_text integer_text
  bounds-one e = rw (← eh, eq-eqb count 1 e)

  pub bounds-two : (count ≡ 1 → ⊥) → (32 ∷ 91 ∷ []) ++ (decimal_text h ++ ((58 ∷ []) ++ (decimal_text low ++ 93 ∷ []))) ≡ spread (mark 91 ∷ number_token (pos (low + count - 1)) ∷ low_tokens (cond (eqb count 1) none (some (pos low))) ++ mark 93 ∷ [])
  unfolding spread behind tight token_text is_mark low_tokens number_token literal_text integer_text
  bounds-two e = rw (← eh, ne_eqb count 1 e)

pub cut-none : (l : Wires) (low count : ℕ) → l ≡ [] → 32 ∷ 123 ∷ 32 ∷ 125 ∷ [] ≡ spread (sig_tokens (cut l low count))
unfolding cut sig_tokens spread behind tight token_text is_mark
cut-none l low count e = rw e

module _ (l : Wires) (n n' : Name) (en : n ≡ n') (w : Wire) (ws : Wires) (low count : ℕ) (e : l ≡ (n', w) ∷ ws) where
  pub cut-whole : count ≡ w.width → 32 ∷ n ≡ spread (sig_tokens (cut l low count))
  unfolding cut sig_tokens
  cut-whole h = rw (e, ← en, eq-eqb count w.width h) (sym (spread-name n))

  pub cut-part : (count ≡ w.width → ⊥) → (32 ∷ n) ++ spread (mark 91 ∷ number_token (pos (low + count - 1)) ∷ low_tokens (cond (eqb count 1) none (some (pos low))) ++ mark 93 ∷ []) ≡ spread (sig_tokens (cut l low count))
  unfolding cut sig_tokens
  cut-part h =
      rw (e, ← en, ne_eqb count w.width h)
      (sym (spread-append (piece-name n) (piece-bounds (pos (low + count - 1)) (cond (eqb count 1) none (some (pos low))))
      ∙ ap (λ (x : List ℕ). x ++ spread (mark 91 ∷ number_token (pos (low + count - 1)) ∷ low_tokens (cond (eqb count 1) none (some (pos low))) ++ mark 93 ∷ [])) (spread-name n)))
