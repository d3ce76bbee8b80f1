-- The text of the runs of a signal, from its highest bit down.
-- Assumes nothing.
use Rattle.std.specs.Prelude.{◌≡◌, refl, List, [], ◌∷◌, ◌++◌, map, reverse, ℕ, ◌+◌, ◌-◌, ◌≤◌, ◌<◌, length, get_or, take, drop}
use Rattle.std.proofs.Common.{sym, ap, ◌∙◌, arith, get_or-drop}
use Rattle.std.proofs.Math.Seq.{drop-length}
use Rattle.rules.specs.Statements.{bundle}
use Rattle.rules.specs.Tokens.{value, mark}
use Rattle.rules.specs.Shapes.{is_mark, sigs}
use Rattle.rules.specs.Signals.{Wires}
use Rattle.rules.specs.Text.{Run, runs, cut, run_sig, runs_sig, sig, sig_tokens, sigs_tokens, behind, tight, token_text, literal_text}
use Rattle.numbers.specs.Kinds.{digit_of, bit_at, signal_of}
use Rattle.numbers.specs.declared.kinds.SignalBit.{SignalBit}
use Rattle.numbers.specs.declared.kinds.WireNumber.{WireNumber}
use Rattle.signal_runs.specs.Runs.{run_by, first_run, Lowest}
use Rattle.signal_runs.specs.RunLaws.{runs-several}
use Rattle.signal_text.specs.Pieces.{spread, spread-digits, spread-append, piece-append, piece-sigs, piece-sig, piece-open, piece-close}
use Rattle.signal_text.specs.Runs.{runs_text}

-- the highest runs written, and the one below them
pub runs-below : (ws : Wires) (s : List ℕ) (i j : ℕ) → Lowest s i j → runs_text ws (drop i s) ++ spread (sig_tokens (run_sig ws (first_run (drop j s) (i - j)))) ≡ runs_text ws (drop j s)
unfolding runs_text sigs sig_tokens
runs-below ws s i j w = sym (rw w.run (spread-append (piece-sigs (sigs (map (run_sig ws) (runs (signal_of (drop i s)))))) (piece-sig (run_sig ws (first_run (drop j s) (i - j))))))

pub runs_none : (ws : Wires) (s : List ℕ) → runs_text ws (drop (length s) s) ≡ []
unfolding runs_text signal_of runs sigs sig_tokens spread behind
runs_none ws s = rw (drop-length s)

-- no bit
pub signal-none : (ws : Wires) (s : List ℕ) → length s ≡ 0 → spread (sig_tokens (sig ws (signal_of s))) ≡ 32 ∷ 123 ∷ 32 ∷ 125 ∷ []
unfolding signal_of sig runs runs_sig sig_tokens spread behind tight token_text is_mark
signal-none ws [] e = refl
signal-none ws (x ∷ s) e = absurd (omega arith)

-- one run
pub signal-one : (ws : Wires) (s : List ℕ) → Lowest s (length s) 0 → sig_tokens (run_sig ws (first_run s (length s - 0))) ≡ sig_tokens (sig ws (signal_of s))
unfolding sig runs_sig signal_of runs
signal-one ws s w = ap sig_tokens (sym (rw whole))
  where
    whole : runs (signal_of s) ≡ first_run s (length s - 0) ∷ []
    whole = w.run ∙ ap (λ (l : List Run). first_run s (length s - 0) ∷ l) nothing_above
      where
        nothing_above : runs (signal_of (drop (length s) s)) ≡ []
        nothing_above = rw (drop-length s)

-- several
bundled : (ws : Wires) (rs : List Run) → 2 ≤ length rs → runs_sig (map (run_sig ws) rs) ≡ bundle (sigs (map (run_sig ws) rs))
unfolding runs_sig
bundled ws [] h = absurd (omega arith)
bundled ws (r ∷ []) h = absurd (omega arith)
bundled ws (r ∷ q ∷ rs) h = refl

pub signal-several : (ws : Wires) (s : List ℕ) (j : ℕ) → 0 < j → Lowest s (length s) j → (32 ∷ 123 ∷ []) ++ (runs_text ws s ++ 32 ∷ 125 ∷ []) ≡ spread (sig_tokens (sig ws (signal_of s)))
unfolding sig sig_tokens runs_text spread behind tight token_text is_mark
signal-several ws s j h w =
    let ss = sigs (map (run_sig ws) (runs (signal_of s))) in
    sym (ap (λ b. spread (sig_tokens b)) (bundled ws (runs (signal_of s)) (runs-several s j h w))
    ∙ spread-append piece-open (piece-append (piece-sigs ss) piece-close)
    ∙ ap (λ (l : List ℕ). spread (mark 123 ∷ []) ++ l) (spread-append (piece-sigs ss) piece-close)
    ∙ marks)
  where
    marks : spread (mark 123 ∷ []) ++ (spread (sigs_tokens (sigs (map (run_sig ws) (runs (signal_of s))))) ++ spread (mark 125 ∷ [])) ≡ (32 ∷ 123 ∷ []) ++ (spread (sigs_tokens (sigs (map (run_sig ws) (runs (signal_of s))))) ++ 32 ∷ 125 ∷ [])
    marks = refl

-- ---- one run
module _ (s : List ℕ) (i j : ℕ) where
  first_code : get_or (drop j s) 0 0 ≡ get_or s j 0
  first_code = let z : j + 0 ≡ j = omega arith in get_or-drop j s 0 0 ∙ ap (λ (k : ℕ). get_or s k 0) z

  module _ (ws : Wires) (b : SignalBit) (e : b ≡ bit_at (get_or s j 0)) where
    pub run-digits : (d : ℕ) → b ≡ SignalBit.Digit d → 32 ∷ literal_text (value (length (take (i - j) (drop j s))) (reverse (map digit_of (take (i - j) (drop j s))))) ≡ spread (sig_tokens (run_sig ws (first_run (drop j s) (i - j))))
    unfolding first_run run_by run_sig sig_tokens
    run-digits d q = rw (first_code, ← e, q) (spread-digits (take (i - j) (drop j s)))

    pub run-wire : (wire : WireNumber) (low many : ℕ) → b ≡ SignalBit.Wire wire low → length ws ≡ many → cut (drop (many - (wire.0 + 1)) ws) low (i - j) ≡ run_sig ws (first_run (drop j s) (i - j))
    unfolding first_run run_by run_sig
    run-wire wire low many q h = rw (first_code, ← e, q, h)
