-- The loop over a line's tokens: what the rules say from here on, behind the tokens so far, is what they say of the line.
-- Assumes nothing.
use mathlib.Core.Path.{◌≡◌, refl, sym, ap, ◌∙◌}
use mathlib.Core.List.{List, [], ◌∷◌, ◌++◌, append-nil}
use Prim.Native.Nat.{ℕ, zero, suc, ◌+◌, ◌-◌, ◌*◌, ◌≤◌, ◌<◌}
use native.Mathlib.Nat.{zero-add}
use native.Mathlib.Omega.{arith}
use lib.Dec.{ltb}
use lib.ListN.{length, get_or, take, drop}
use lib.Seq.{slice, length-slice, append_snoc}
use borrow.Author.Tests.{ltb-true, ltb-false}
use Rattle.std.specs.Prelude.{Option, Some, None, Result, Ok, Err}
use Rattle.rules.specs.Tokens as rules
use Rattle.lists.specs.Tests.{by-test}
use Rattle.lists.specs.Parts.{slice-part}
use Rattle.tables.specs.Store.{store, length-store, store-before, store-inside}
use Rattle.tokens.specs.Rows.{token_in, token_of, row_of, row_words, rows_from, line, Small}
use Rattle.tokens.specs.declared.Token.{Token}
use Rattle.tokens.proofs.TokenLaws.{words_back, length-row_words, row_same, put-token-line}
use Rattle.lexer.specs.Lexemes.{Held, step_of, StepIs}
use Rattle.lexer.specs.Lines.{lexed_of, LexedIs}
use Rattle.lexer.specs.declared.Lexeme.{Lexeme}
use Rattle.lexer.specs.declared.BadToken.{BadToken}
use Rattle.lexer.proofs.Prefix.{length-prefix, held-file, token-file, held_small, held-present}

-- tokens in front of what the rules say of the rest
unfoldable pub behind : List rules.Token → rules.Lexed → rules.Lexed
behind ts (rules.good us) = rules.good (ts ++ us)
behind ts (rules.bad l) = rules.bad l

behind-none : (q : rules.Lexed) → behind [] q ≡ q
unfolding behind
behind-none (rules.good us) = refl
behind-none (rules.bad l) = refl

behind-onto : (ts : List rules.Token) (x : rules.Token) (q : rules.Lexed) → behind ts (rules.tokens_onto x q) ≡ behind (ts ++ x ∷ []) q
unfolding behind rules.tokens_onto
behind-onto ts x (rules.good us) = ap rules.good (sym (append_snoc ts x us))
behind-onto ts x (rules.bad l) = refl

-- ---- the rows of a table with a row put

module _ (t ws : List ℕ) (n : ℕ) (long : length ws ≡ 4) (room : 4 * n + 4 ≤ length t) where
  row_before : (k : ℕ) → k < n → row_of (store t (4 * n) ws) k ≡ row_of t k
  unfolding row_of
  row_before k h = row_same (store t (4 * n) ws) t (4 * k) (4 * k) (λ j l. store-before t (4 * n) ws (4 * k + j) (omega arith) (omega arith))

  row_at : row_of (store t (4 * n) ws) n ≡ token_of (get_or ws 0 0) (get_or ws 1 0) (get_or ws 2 0) (get_or ws 3 0)
  unfolding row_of
  row_at = row_same (store t (4 * n) ws) ws (4 * n) 0 (λ j l. rw (zero-add j) (store-inside t (4 * n) ws j (omega arith) (omega arith)))

-- ---- the loop

pub record Reached (f old t : List ℕ) (start end i n : ℕ) : Type 0 where
  pub fuel : ℕ
  pub enough : end - i ≤ fuel
  pub from : n + start ≤ i
  pub to : i ≤ end
  pub kept : length t ≡ length old
  pub held : (k : ℕ) → k < n → Held f (row_of t k)
  pub same : rules.tokens (slice start end f) ≡ behind (line f (take (4 * n) t) 0) (rules.tokens_from fuel (slice i end f))

pub start : (f t : List ℕ) (from end : ℕ) → from ≤ end → end ≤ length f → Reached f t t from end from 0
unfolding rules.tokens line rows_from
start f t from end h k =
    record {
      fuel = length (slice from end f);
      enough = rw (length-slice from end f k) (omega arith);
      from = omega arith;
      to = h;
      kept = refl;
      held = λ j l. absurd (omega arith);
      same = sym (behind-none (rules.tokens (slice from end f)));
    }

-- the line as a part of the file's first bytes, and what stands there
pub told : (f : List ℕ) (end i : ℕ) (r q : Result (Option Lexeme) BadToken) → StepIs (take (end - 0) (drop 0 f)) i r → r ≡ q → StepIs (take end f) i q
told f end i r q S e = let T : StepIs (take end f) i r = rw (sym (slice-part 0 end f)) at S in rw e at T

module _ (f old t : List ℕ) (from end i n : ℕ) (k : end ≤ length f) (R : Reached f old t from end i n) where
  -- one turn, by what stands at i
  turn : (x : rules.Step) → rules.step (slice i end f) ≡ x → (j : ℕ) → R.fuel ≡ suc j → rules.tokens (slice from end f) ≡ behind (line f (take (4 * n) t) 0) (rules.tokens_by (rules.tokens_from j) x)
  unfolding rules.tokens_from
  turn x e j q = R.same ∙ rw (q, e)

  -- fuel for one turn more
  more : i < end → R.fuel ≡ suc (R.fuel - 1)
  more h = omega (arith, R.enough)

  ends_by : (m : ℕ) → rules.step (slice i end f) ≡ rules.done → rules.tokens_from m (slice i end f) ≡ rules.good []
  unfolding rules.tokens_from rules.tokens_by
  ends_by zero e = refl
  ends_by (suc m) e = rw e

  pub ended : StepIs (take end f) i (Ok None) → LexedIs f from end old t (Ok n)
  unfolding step_of lexed_of behind
  ended S =
      record {
        is = R.same ∙ rw (ends_by R.fuel S.is) (ap rules.good (append-nil (line f (take (4 * n) t) 0)));
        among = (omega (arith, R.from, R.to), R.held);
        kept = R.kept;
      }

  pub broke : (p : ℕ) → StepIs (take end f) i (Err (record { at = p })) → LexedIs f from end old t (Err (record { at = p }))
  unfolding step_of lexed_of behind rules.tokens_by
  broke p S =
      let l : p < end = omega (arith, S.lies.1, length-prefix f end k) in
      record {
        is = turn (rules.wrong (slice p end f)) S.is (R.fuel - 1) (more (omega (arith, S.lies.0)));
        among = (omega (arith, R.from, S.lies.0), l);
        kept = R.kept;
      }

  module _ (x : Token) (next : ℕ) (S : StepIs (take end f) i (Ok (Some (record { token = x; next = next })))) where
    pub within : (i < next) × (next ≤ end) × Held (take end f) x
    within = (S.lies.0, omega (arith, S.lies.1, length-prefix f end k), S.lies.2)

    module _ (sized : 4 * (end - from) ≤ length old) where
      room : 4 * n + 4 ≤ length t
      room = omega (arith, within.0, within.1, R.from, R.kept)

      -- the token can be put
      pub fits : length f ≤ 32768 → (4 * n + 4 ≤ length t) × Small x
      fits h = (room, held_small (take end f) x (omega (arith, length-prefix f end k)) within.2)

      held_by : (new : List ℕ) → new ≡ store t (4 * n) (row_words x) → (m : ℕ) → m < n + 1 → Held f (row_of new m)
      held_by new e m h =
          let w : length (row_words x) ≡ 4 = length-row_words x in
          by-test (ltb m n)
          (λ b. let l : m < n = ltb-true m n b in rw (e, row_before t (row_words x) n w room m l) (R.held m l))
          (λ b.
          let l : m ≡ n = omega (arith, ltb-false m n b) in
          rw (e, l, row_at t (row_words x) n w room, words_back x (held-present (take end f) x within.2)) (held-file f end k x within.2))

      pub step-on : (new : List ℕ) → new ≡ store t (4 * n) (row_words x) → Reached f old new from end next (n + 1)
      unfolding step_of rules.tokens_by
      step-on new e =
          let y : rules.Token = token_in (take end f) x in
          let rows : line f (take (4 * (n + 1)) new) 0 ≡ line f (take (4 * n) t) 0 ++ token_in f x ∷ [] =
          rw e (put-token-line f t n x (held-present (take end f) x within.2) room) in
          record {
            fuel = R.fuel - 1;
            enough = omega (arith, R.enough, within.0);
            from = omega (arith, R.from, within.0);
            to = within.1;
            kept = rw e (length-store t (4 * n) (row_words x) ∙ R.kept);
            held = held_by new e;
            same =
                turn (rules.token y (slice next end f)) S.is (R.fuel - 1) (more (omega (arith, within.0, within.1)))
                ∙ behind-onto (line f (take (4 * n) t) 0) y (rules.tokens_from (R.fuel - 1) (slice next end f))
                ∙ ap (λ (ts : List rules.Token). behind ts (rules.tokens_from (R.fuel - 1) (slice next end f)))
                (ap (λ (z : rules.Token). line f (take (4 * n) t) 0 ++ z ∷ []) (token-file f end k x within.2) ∙ sym rows);
          }
