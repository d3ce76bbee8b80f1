-- What is read is admitted: the statements of a file that is accepted may stand after one another, and the file may end behind them.
-- Assumes nothing.
use Rattle.std.specs.Prelude.{ℕ, ◌≡◌, Bool, not, ◌&&◌, leb, ltb, length}
use Rattle.std.proofs.Math.Path.{refl}
use Rattle.std.proofs.Common.{ap, ◌∙◌}
use mathlib.Core.List.{List, [], ◌∷◌, reverse, reverse-reverse}
use Rattle.std.proofs.Math.Bool.{true}
use Rattle.rules.specs.Limits.{longest_file}
use Rattle.rules.specs.Bytes.{all}
use Rattle.rules.specs.Tokens.{Token, Lexed, good}
use Rattle.rules.specs.Lines.{Line, lines, place}
use Rattle.rules.specs.Statements.{Statement}
use Rattle.rules.specs.Judgement.{Past, context, Verdict}
use Rattle.rules.specs.Reading.{Outcome, skipped, states, stated, judged, lexed, outcome, Answer, accepted, refused, is_top, finish, next, read_lines, read_any, read}
use Rattle.lists.specs.Tests.{by_cond}
use Rattle.admitted.specs.Admitted.{admits, admitted, closes}
use Rattle.written.specs.TokenLaws.{fine_token}
use Rattle.soundness.specs.LexedLaws.{FineLexed, fine-good, fine-bad, tokens-fine}
use Rattle.soundness.specs.PartLaws.{both}
use Rattle.soundness.specs.JudgedLaws.{FineVerdict, admitted-line, refused-line, shaped-fine}

-- ---- one line

module _ (ss : Past) where
  pub data FineOutcome : Outcome → Type 0 where
    fine-skipped : FineOutcome skipped
    fine-states : {s : Statement} → admits ss s ≡ true → FineOutcome (states s)
    fine-refused : {n p : ℕ} → leb 1 n ≡ true → FineOutcome (Outcome.refused n p)

  judged-fine : (p : ℕ) {v : Verdict Statement} → FineVerdict ss v → FineOutcome (judged p v)
  unfolding judged
  judged-fine p (admitted-line h) = fine-states h
  judged-fine p (refused-line h) = fine-refused h

  stated-fine : (ended : Bool) (ts : List Token) → all fine_token ts ≡ true → FineVerdict ss (stated ss ended ts)
  unfolding stated
  stated-fine ended ts h = by_cond (FineVerdict ss) ended (λ e. shaped-fine ss ts h) (λ e. refused-line refl)

  lexed-fine : (l : Line) {x : Lexed} → FineLexed x → FineOutcome (lexed ss l x)
  unfolding lexed
  lexed-fine l (fine-good {ts} h) = by-tokens ts h
    where
      by-tokens : (ts : List Token) → all fine_token ts ≡ true → FineOutcome (lexed ss l (good ts))
      by-tokens [] h = fine-skipped
      by-tokens (t ∷ ts) h = judged-fine (place l) (stated-fine l.ended (t ∷ ts) h)
  lexed-fine l fine-bad = fine-refused refl

  pub outcome-fine : (l : Line) → FineOutcome (outcome ss l)
  unfolding outcome
  outcome-fine l = lexed-fine l (tokens-fine l.text)

  -- a statement more
  states-fine : {s : Statement} → admitted ss ≡ true → FineOutcome (states s) → admitted (s ∷ ss) ≡ true
  unfolding admitted
  states-fine {s} h (fine-states k) = both (admitted ss) (admits ss s) h k

  pub states-admitted : (l : Line) (s : Statement) → outcome ss l ≡ states s → admitted ss ≡ true → admitted (s ∷ ss) ≡ true
  states-admitted l s e h = states-fine h (rw e at (outcome-fine l))

-- ---- a file

pub data FineAnswer : Answer → Type 0 where
  fine-accepted : {ss : List Statement} → admitted (reverse ss) ≡ true → closes (reverse ss) ≡ true → FineAnswer (accepted ss)
  fine-refused : {n p : ℕ} → leb 1 n ≡ true → FineAnswer (refused n p)

accepted-fine : (ss : Past) → admitted ss ≡ true → closes ss ≡ true → FineAnswer (accepted (reverse ss))
accepted-fine ss h k = fine-accepted (ap admitted (reverse-reverse ss) ∙ h) (ap closes (reverse-reverse ss) ∙ k)

finish-fine : (size : ℕ) (ss : Past) → admitted ss ≡ true → FineAnswer (finish size ss)
unfolding finish closes
finish-fine size ss h =
    by_cond FineAnswer (is_top (context ss).scope && not (context ss).attributed) (λ e. accepted-fine ss h e) (λ e. FineAnswer.fine-refused refl)

next-fine : (more : Past → Answer) (ss : Past) {o : Outcome} → ((ss : Past) → admitted ss ≡ true → FineAnswer (more ss)) → admitted ss ≡ true → FineOutcome ss o → FineAnswer (next more ss o)
unfolding next
next-fine more ss i h fine-skipped = i ss h
next-fine more ss i h (fine-states {s} k) = i (s ∷ ss) (states-fine ss h (fine-states k))
next-fine more ss i h (FineOutcome.fine-refused k) = FineAnswer.fine-refused k

lines-fine : (size : ℕ) (ls : List Line) (ss : Past) → admitted ss ≡ true → FineAnswer (read_lines size ls ss)
unfolding read_lines
lines-fine size [] ss h = finish-fine size ss h
lines-fine size (l ∷ ls) ss h = next-fine (read_lines size ls) ss (lines-fine size ls) h (outcome-fine ss l)

pub read-fine : (file : List ℕ) → FineAnswer (read_any file)
unfolding read_any admitted
read-fine file = lines-fine (length file) (lines file) [] refl

fine-both : {ss : List Statement} → FineAnswer (accepted ss) → (admitted (reverse ss) ≡ true) × (closes (reverse ss) ≡ true)
fine-both (fine-accepted h k) = (h, k)

pub read-admitted : (file : List ℕ) (ss : List Statement) → read_any file ≡ accepted ss → (admitted (reverse ss) ≡ true) × (closes (reverse ss) ≡ true)
read-admitted file ss e = fine-both (rw e at (read-fine file))

-- a refused file's number is not 0
unfoldable pub numbered : Answer → Bool
numbered (accepted ss) = true
numbered (refused n p) = leb 1 n

fine-numbered : {a : Answer} → FineAnswer a → numbered a ≡ true
unfolding numbered
fine-numbered (fine-accepted h k) = refl
fine-numbered (FineAnswer.fine-refused h) = h

pub read-numbered : (file : List ℕ) → numbered (read file) ≡ true
unfolding read numbered
read-numbered file = by_cond (λ (a : Answer). numbered a ≡ true) (ltb longest_file (length file)) (λ e. refl) (λ e. fine-numbered (read-fine file))
