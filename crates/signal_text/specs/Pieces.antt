-- Pieces of a line: tokens that stand behind a space and after which a space stands.
-- Assumes nothing.
use Rattle.std.specs.Prelude.{◌≡◌, Bool, false, cond, ◌||◌, ℕ, ℤ, length}
use Rattle.std.proofs.Math.Path.{refl, ap}
use Rattle.std.proofs.Common.{sym, ◌∙◌}
use mathlib.Core.List.{List, [], ◌∷◌, ◌++◌, map, reverse, append_assoc, append-nil}
use Rattle.std.proofs.Math.Option.{Option, none, some}
use Rattle.std.proofs.lemmas.List.{length-map}
use Rattle.rules.specs.Tokens.{Literal, value, Token, name, word, literal, mark}
use Rattle.rules.specs.Statements.{Sig, Sigs, constant, wire, slice, bundle, nothing, ◌below◌}
use Rattle.rules.specs.Shapes.{is_mark}
use Rattle.rules.specs.Text.{tight, behind, spaced, literal_text, token_text, number_token, low_tokens, sig_tokens, sigs_tokens}
use Rattle.numbers.specs.Kinds.{digit_of}

-- tokens behind a word
unfoldable pub spread : List Token → List ℕ
spread ts = behind (word []) ts

-- a mark with no space behind it
unfoldable opens : Token → Bool
opens (name n) = false
opens (word w) = false
opens (literal c) = false
opens (mark m) = is_mark "[" (mark m) || is_mark ":" (mark m)

unfoldable last_of : Token → List Token → Token
last_of t [] = t
last_of t (u ∷ us) = last_of u us

behind-append : (t : Token) (us vs : List Token) → behind t (us ++ vs) ≡ behind t us ++ behind (last_of t us) vs
unfolding behind last_of
behind-append t [] vs = refl
behind-append t (u ∷ us) vs =
    rw (behind-append u us vs) (sym (append_assoc (cond (tight t u) [] (32 ∷ []) ++ token_text u) (behind u us) (behind (last_of u us) vs)))

-- tokens with a space before them and behind them, whatever stands there that is not inside of `[ ]`
pub record Piece (ts : List Token) : Type 0 where
  starts : (t : Token) → opens t ≡ false → behind t ts ≡ spread ts
  ends : (t : Token) → opens t ≡ false → opens (last_of t ts) ≡ false

pub piece-none : Piece []
unfolding behind spread last_of
piece-none = record { starts = λ t e. refl; ends = λ t e. e }

-- a token that is no mark but `{` or `}`
loose : (t u : Token) → is_mark ":" u || is_mark "]" u ≡ false → opens t ≡ false → tight t u ≡ false
unfolding opens tight
loose (name n) u h e = refl
loose (word w) u h e = refl
loose (literal c) u h e = h
loose (mark m) u h e = e

piece-first : (u : Token) (us : List Token) → is_mark ":" u || is_mark "]" u ≡ false → (t : Token) → opens t ≡ false → behind t (u ∷ us) ≡ spread (u ∷ us)
unfolding behind spread tight
piece-first u us h t e = rw (loose t u h e)

pub piece-name : (n : List ℕ) → Piece (name n ∷ [])
unfolding last_of opens is_mark
piece-name n = record { starts = piece-first (name n) [] refl; ends = λ t e. refl }

pub piece-word : (w : List ℕ) → Piece (word w ∷ [])
unfolding last_of opens is_mark
piece-word w = record { starts = piece-first (word w) [] refl; ends = λ t e. refl }

pub piece-literal : (c : Literal) → Piece (literal c ∷ [])
unfolding last_of opens is_mark
piece-literal c = record { starts = piece-first (literal c) [] refl; ends = λ t e. refl }

pub piece-open : Piece (mark 123 ∷ [])
unfolding last_of opens is_mark
piece-open = record { starts = piece-first (mark 123) [] refl; ends = λ t e. refl }

pub piece-close : Piece (mark 125 ∷ [])
unfolding last_of opens is_mark
piece-close = record { starts = piece-first (mark 125) [] refl; ends = λ t e. refl }

pub piece-comma : Piece (mark 44 ∷ [])
unfolding last_of opens is_mark
piece-comma = record { starts = piece-first (mark 44) [] refl; ends = λ t e. refl }

module _ {ts us : List Token} (p : Piece ts) (q : Piece us) where
  pub spread-append : spread (ts ++ us) ≡ spread ts ++ spread us
  unfolding spread opens
  spread-append = behind-append (word []) ts us ∙ ap (λ (l : List ℕ). behind (word []) ts ++ l) (q.starts (last_of (word []) ts) (p.ends (word []) refl))

  pub piece-append : Piece (ts ++ us)
  unfolding last_of
  piece-append =
      record {
        starts = λ t e. behind-append t ts us ∙ rw (p.starts t e, q.starts (last_of t ts) (p.ends t e)) (sym spread-append);
        ends = λ t e. rw (last-append t ts) (q.ends (last_of t ts) (p.ends t e));
      }
    where
      last-append : (t : Token) (vs : List Token) → last_of t (vs ++ us) ≡ last_of (last_of t vs) us
      last-append t [] = refl
      last-append t (v ∷ vs) = last-append v vs

-- a token behind a space
pub spread-name : (n : List ℕ) → spread (name n ∷ []) ≡ 32 ∷ n
unfolding spread behind tight token_text
spread-name n = append-nil (32 ∷ n)

pub spread-literal : (c : Literal) → spread (literal c ∷ []) ≡ 32 ∷ literal_text c
unfolding spread behind tight token_text
spread-literal c = append-nil (32 ∷ literal_text c)

pub spread-digits : (w : List ℕ) → 32 ∷ literal_text (value (length w) (reverse (map digit_of w))) ≡ spread (literal (value (length (map digit_of w)) (reverse (map digit_of w))) ∷ [])
spread-digits w = sym (spread-literal _ ∙ ap (λ (n : ℕ). 32 ∷ literal_text (value n (reverse (map digit_of w)))) (length-map w digit_of))

-- a line's first word, and the pieces behind it
pub spaced-word : (w : List ℕ) {ts : List Token} → Piece ts → spaced (word w ∷ ts) ≡ w ++ spread ts
unfolding spaced token_text opens
spaced-word w p = ap (λ (l : List ℕ). w ++ l) (p.starts (word w) refl)

pub spaced-two : (w : List ℕ) {ts us : List Token} → Piece ts → Piece us → spaced (word w ∷ (ts ++ us)) ≡ w ++ (spread ts ++ spread us)
spaced-two w p q = spaced-word w (piece-append p q) ∙ ap (λ (l : List ℕ). w ++ l) (spread-append p q)

pub spaced-three : (w : List ℕ) {ts us vs : List Token} → Piece ts → Piece us → Piece vs → spaced (word w ∷ (ts ++ (us ++ vs))) ≡ w ++ (spread ts ++ (spread us ++ spread vs))
spaced-three w {ts} p q r = spaced-two w p (piece-append q r) ∙ ap (λ (l : List ℕ). w ++ (spread ts ++ l)) (spread-append q r)

-- `[h]` and `[h:l]`
pub piece-bounds : (h : ℤ) (l : Option ℤ) → Piece (mark 91 ∷ number_token h ∷ low_tokens l ++ mark 93 ∷ [])
unfolding last_of opens is_mark low_tokens number_token
piece-bounds h none = record { starts = piece-first (mark 91) _ refl; ends = λ t e. refl }
piece-bounds h (some l) = record { starts = piece-first (mark 91) _ refl; ends = λ t e. refl }

-- every signal is a piece
mutual
  unfolding sig_tokens

  pub piece-sig : (s : Sig) → Piece (sig_tokens s)
  piece-sig (constant c) = piece-literal c
  piece-sig (wire n) = piece-name n
  piece-sig (slice s h l) = rw append_assoc (piece-append (piece-sig s) (piece-bounds h l))
  piece-sig (bundle ss) = piece-append piece-open (piece-append (piece-sigs ss) piece-close)

  pub piece-sigs : (ss : Sigs) → Piece (sigs_tokens ss)
  piece-sigs nothing = piece-none
  piece-sigs (s below ss) = piece-append (piece-sigs ss) (piece-sig s)
