-- The text of a step's words and signals, piece by piece.
-- Assumes nothing.
use Rattle.std.specs.Prelude.{ℕ, zero, suc, ◌+◌, ◌-◌, ◌≤◌, ◌<◌, ◌≡◌, refl, Bool, true, false, cond, ◌&&◌, eqb, ltb, length, take, drop}
use Rattle.std.proofs.Math.Path.{sym}
use Rattle.std.proofs.Common.{ap, ◌∙◌, arith, drop-drop, eqb-true, lt-ltb}
use mathlib.Core.List.{List, [], ◌∷◌, ◌++◌, map, append_assoc, append-nil}
use Rattle.std.proofs.Math.Option.{Option, none, some}
use Rattle.std.proofs.lemmas.Bool.{false≢true}
use Rattle.std.proofs.Math.Seq.{slice}
use Rattle.rules.specs.Tokens.{Token, word}
use Rattle.rules.specs.Statements.{Sig, Signal, Step, assign, update, switch, case, low, high, posedge, negedge, edge, global, init, always, step_code}
use Rattle.rules.specs.Shapes.{is_mark}
use Rattle.rules.specs.Signals.{Wires}
use Rattle.rules.specs.Text.{sig, sig_tokens, word_token, step_tokens, between, list_tokens, shape_tokens, behind, tight, token_text, spaced}
use Rattle.lists.specs.Tests.{by-test}
use Rattle.lists.specs.Parts.{slice-span, slice-le}
use Rattle.numbers.specs.Kinds.{signal_of}
use Rattle.wires.specs.Rows.{column}
use Rattle.netlist.specs.Steps.{step_named, pieces, signals_at}
use Rattle.signal_text.specs.Pieces.{spread, Piece, piece-none, piece-word, piece-comma, piece-sig, piece-append, spread-append, spaced-word}
use Rattle.step_text.specs.Steps.{names_step, step_words, comma_if, signals_text, step_text}

-- a code is that of a step, or of none
pub by_code : (P : ℕ → Option Step → Type 0) → ((p : Step) → P (step_code p) (some p)) → ((t : ℕ) → names_step t ≡ false → P t none) → (t : ℕ) → P t (step_named t)
unfolding step_named step_code names_step
by_code P f g t =
    by-test (eqb t 19) (λ e. rw (eqb-true t 19 e) (f assign)) (λ a.
    by-test (eqb t 31) (λ e. rw (eqb-true t 31 e) (f update)) (λ b.
    by-test (eqb t 20) (λ e. rw (eqb-true t 20 e) (f switch)) (λ c.
    by-test (eqb t 21) (λ e. rw (eqb-true t 21 e) (f case)) (λ d.
    by-test (eqb t 26) (λ e. rw (eqb-true t 26 e) (f low)) (λ h.
    by-test (eqb t 27) (λ e. rw (eqb-true t 27 e) (f high)) (λ i.
    by-test (eqb t 28) (λ e. rw (eqb-true t 28 e) (f posedge)) (λ j.
    by-test (eqb t 29) (λ e. rw (eqb-true t 29 e) (f negedge)) (λ k.
    by-test (eqb t 30) (λ e. rw (eqb-true t 30 e) (f edge)) (λ l.
    by-test (eqb t 23) (λ e. rw (eqb-true t 23 e) (f global)) (λ m.
    by-test (eqb t 24) (λ e. rw (eqb-true t 24 e) (f init)) (λ n.
    by-test (eqb t 25) (λ e. rw (eqb-true t 25 e) (f always)) (λ o.
    rw (a, b, c, d, h, i, j, k, l, m, n, o) (g t (rw (a, b, c, d, h, i, j, k, l, m, n, o) refl))))))))))))))

named : (p : Step) → names_step (step_code p) ≡ true
unfolding names_step step_code
named assign = refl
named update = refl
named switch = refl
named case = refl
named low = refl
named high = refl
named posedge = refl
named negedge = refl
named edge = refl
named global = refl
named init = refl
named always = refl

step-none : (ws : Wires) (xs : List Signal) (t : ℕ) → names_step t ≡ false → [] ≡ step_text ws (step_named t) xs
unfolding step_text
step-none ws xs t =
    by_code (λ t o. names_step t ≡ false → [] ≡ step_text ws o xs) (λ p e. absurd (false≢true (sym e ∙ named p))) (λ t e f. refl) t

-- SIGNALS ONE BEHIND ANOTHER
unfoldable gap : List Token → List Sig → List Token
gap c [] = []
gap c (s ∷ ss) = c

module _ {c : List Token} (q : Piece c) where
  piece-gap : (ss : List Sig) → Piece (gap c ss)
  unfolding gap
  piece-gap [] = piece-none
  piece-gap (s ∷ ss) = q

  list-next : (s : Sig) (ss : List Sig) → list_tokens c (s ∷ ss) ≡ sig_tokens s ++ (gap c ss ++ list_tokens c ss)
  unfolding list_tokens gap
  list-next s [] = sym (append-nil (sig_tokens s))
  list-next s (t ∷ ss) = append_assoc (sig_tokens s) c (list_tokens c (t ∷ ss))

  piece-list : (ss : List Sig) → Piece (list_tokens c ss)
  unfolding list_tokens
  piece-list [] = piece-none
  piece-list (s ∷ ss) = rw (list-next s ss) (piece-append (piece-sig s) (piece-append (piece-gap ss) (piece-list ss)))

  spread-next : (s : Sig) (ss : List Sig) → spread (list_tokens c (s ∷ ss)) ≡ (spread (sig_tokens s) ++ spread (gap c ss)) ++ spread (list_tokens c ss)
  spread-next s ss =
      ap spread (list-next s ss)
      ∙ spread-append (piece-sig s) (piece-append (piece-gap ss) (piece-list ss))
      ∙ ap (λ (l : List ℕ). spread (sig_tokens s) ++ l) (spread-append (piece-gap ss) (piece-list ss))
      ∙ sym (append_assoc (spread (sig_tokens s)) (spread (gap c ss)) (spread (list_tokens c ss)))

piece-if : (b : Bool) → Piece (comma_if b)
unfolding comma_if
piece-if true = piece-comma
piece-if false = piece-none

-- in words: ` ,` between two signals of a case
unfoldable pub gap_text : Bool → List ℕ
gap_text b = cond b (32 ∷ 44 ∷ []) []

-- n signals, each of width w, from word a of the bits on
unfoldable pub pieces_text : Wires → Bool → (bits : List ℕ) → (width start count : ℕ) → List ℕ
pieces_text ws b bits w a n = signals_text ws b (map signal_of (pieces w n (drop a bits)))

gap-text : (b : Bool) (ws : Wires) (n w : ℕ) (xs : List ℕ) → spread (gap (comma_if b) (map (sig ws) (map signal_of (pieces w n xs)))) ≡ gap_text (b && ltb 1 (suc n))
unfolding gap comma_if gap_text spread behind tight token_text is_mark pieces
gap-text true ws zero w xs = refl
gap-text false ws zero w xs = refl
gap-text true ws (suc n) w xs = rw (lt-ltb 1 (suc (suc n)) (omega arith))
gap-text false ws (suc n) w xs = refl

pub pieces-next :
    (ws : Wires) (b : Bool) (bits s : List ℕ) (w a n : ℕ) → 0 < n → s ≡ slice a (a + w) bits →
    pieces_text ws b bits w a n ≡ (spread (sig_tokens (sig ws (signal_of s))) ++ gap_text (b && ltb 1 n)) ++ pieces_text ws b bits w (a + w) (n - 1)
unfolding pieces_text signals_text pieces
pieces-next ws b bits s w a zero h e = absurd (omega arith)
pieces-next ws b bits s w a (suc n) h e =
    let q : take w (drop a bits) ≡ s = sym (e ∙ slice-span a w bits) in
    let r : pieces w n (drop w (drop a bits)) ≡ pieces w n (drop (a + w) bits) = ap (pieces w n) (drop-drop w a bits) in
    let j : suc n - 1 ≡ n = omega arith in
    rw (j, q)
    (spread-next (piece-if b) (sig ws (signal_of s)) (map (sig ws) (map signal_of (pieces w n (drop w (drop a bits)))))
    ∙ rw (gap-text b ws n w (drop w (drop a bits)), r))

-- the same by how many are left behind the first
gap-left : (b : Bool) (ws : Wires) (n w : ℕ) (xs : List ℕ) → spread (gap (comma_if b) (map (sig ws) (map signal_of (pieces w n xs)))) ≡ gap_text (b && ltb 0 n)
unfolding gap comma_if gap_text spread behind tight token_text is_mark pieces
gap-left true ws zero w xs = refl
gap-left false ws zero w xs = refl
gap-left true ws (suc n) w xs = rw (lt-ltb 0 (suc n) (omega arith))
gap-left false ws (suc n) w xs = refl

pub pieces-left :
    (ws : Wires) (b : Bool) (bits s : List ℕ) (w a n : ℕ) → 0 < n → s ≡ slice a (a + w) bits →
    pieces_text ws b bits w a n ≡ (spread (sig_tokens (sig ws (signal_of s))) ++ gap_text (b && ltb 0 (n - 1))) ++ pieces_text ws b bits w (a + w) (n - 1)
unfolding pieces_text signals_text pieces
pieces-left ws b bits s w a zero h e = absurd (omega arith)
pieces-left ws b bits s w a (suc n) h e =
    let q : take w (drop a bits) ≡ s = sym (e ∙ slice-span a w bits) in
    let r : pieces w n (drop w (drop a bits)) ≡ pieces w n (drop (a + w) bits) = ap (pieces w n) (drop-drop w a bits) in
    let j : suc n - 1 ≡ n = omega arith in
    rw (j, q)
    (spread-next (piece-if b) (sig ws (signal_of s)) (map (sig ws) (map signal_of (pieces w n (drop w (drop a bits)))))
    ∙ rw (gap-left b ws n w (drop w (drop a bits)), r))

pub pieces_end : (ws : Wires) (b : Bool) (bits : List ℕ) (w a n : ℕ) → n ≤ 0 → pieces_text ws b bits w a n ≡ []
unfolding pieces_text signals_text pieces list_tokens spread behind
pieces_end ws b bits w a zero h = refl
pieces_end ws b bits w a (suc n) h = absurd (omega arith)

pub words-le : (t w : List ℕ) (a b : ℕ) → w ≡ slice a b t → length w ≤ length t
words-le t w a b e = rw e (slice-le a b t)

-- of a step's row
pub row-signals :
    (ws : Wires) (b : Bool) (bits rows : List ℕ) (k w a n : ℕ) → w ≡ column rows k 3 → a ≡ column rows k 2 → n ≡ column rows k 4 →
    pieces_text ws b bits w a n ≡ signals_text ws b (signals_at bits rows k)
unfolding pieces_text signals_at
row-signals ws b bits rows k w a n ew ea en = rw (← ew, ← ea, ← en)

-- A STEP: its words, then its signals
one_word : (w : List ℕ) {ts : List Token} → Piece ts → spaced (word w ∷ ts) ≡ spaced (word w ∷ []) ++ spread ts
unfolding spaced behind token_text
one_word w {ts} q = spaced-word w q ∙ ap (λ (l : List ℕ). l ++ spread ts) (sym (append-nil w))

two-words : (w v : List ℕ) {ts : List Token} → Piece ts → spaced (word w ∷ word v ∷ ts) ≡ spaced (word w ∷ word v ∷ []) ++ spread ts
two-words w v {ts} q =
    spaced-word w (piece-append (piece-word v) q)
    ∙ ap (λ (l : List ℕ). w ++ l) (spread-append (piece-word v) q)
    ∙ sym (append_assoc w (spread (word v ∷ [])) (spread ts))
    ∙ ap (λ (l : List ℕ). l ++ spread ts) (sym (spaced-word w (piece-word v)))

step_then : (p : Step) {ts : List Token} → Piece ts → spaced (step_tokens p ++ ts) ≡ spaced (step_tokens p) ++ spread ts
unfolding step_tokens word_token
step_then assign q = one_word _ q
step_then update q = one_word _ q
step_then switch q = one_word _ q
step_then case q = one_word _ q
step_then low q = two-words _ _ q
step_then high q = two-words _ _ q
step_then posedge q = two-words _ _ q
step_then negedge q = two-words _ _ q
step_then edge q = two-words _ _ q
step_then global q = two-words _ _ q
step_then init q = two-words _ _ q
step_then always q = two-words _ _ q

between_is : (p : Step) → between p ≡ comma_if (eqb (step_code p) 21)
unfolding between comma_if step_code
between_is assign = refl
between_is update = refl
between_is switch = refl
between_is case = refl
between_is low = refl
between_is high = refl
between_is posedge = refl
between_is negedge = refl
between_is edge = refl
between_is global = refl
between_is init = refl
between_is always = refl

step-written : (ws : Wires) (xs : List Signal) (t : ℕ) → names_step t ≡ true → step_words (step_named t) ++ signals_text ws (eqb t 21) xs ≡ step_text ws (step_named t) xs
unfolding step_words signals_text step_text shape_tokens
step-written ws xs t =
    by_code (λ t o. names_step t ≡ true → step_words o ++ signals_text ws (eqb t 21) xs ≡ step_text ws o xs)
    (λ p e. rw (between_is p) (sym (step_then p (piece-list (piece-if (eqb (step_code p) 21)) (map (sig ws) xs)))))
    (λ t e f. absurd (false≢true (sym e ∙ f)))
    t

-- the step of a row, whose code is t
module _ (ws : Wires) (xs : List Signal) (rows : List ℕ) (k t : ℕ) (e : t ≡ column rows k 1) where
  pub row-none : names_step t ≡ false → [] ≡ step_text ws (step_named (column rows k 1)) xs
  row-none h = rw (← e) (step-none ws xs t h)

  pub row_step : names_step t ≡ true → step_words (step_named t) ++ signals_text ws (eqb t 21) xs ≡ step_text ws (step_named (column rows k 1)) xs
  row_step h = rw (← e) (step-written ws xs t h)
