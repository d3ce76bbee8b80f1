-- What a line gives, by the rows that the lexer leaves and the verdict on them.
-- Assumes nothing.
use Prim.Native.Nat.{ℕ, suc, ◌+◌, ◌-◌, ◌*◌, ◌/◌, ◌<◌, ◌≤◌}
use mathlib.Core.Path.{◌≡◌, refl, sym, ap, ◌∙◌, subst}
use mathlib.Core.Bool.{Bool, true, false}
use mathlib.Core.List.{List, [], ◌∷◌}
use native.Mathlib.Omega.{arith}
use lib.Dec.{ltb}
use Rattle.std.specs.Prelude.{Some, Ok, Err, Result, MatchResult, IsOkAnd, IsErrAnd, Option as Optional}
use lib.ListN.{length, take, drop, take-append-drop}
use lib.Seq.{slice, length-slice, length-take-le}
use borrow.Author.Tests.{ltb-true}
use Rattle.rules.specs.Lines as rules
use Rattle.rules.specs.Lines.{place}
use Rattle.rules.specs.Tokens.{Token, good}
use Rattle.rules.specs.Shapes.{shape}
use Rattle.rules.specs.Judgement.{Past, context}
use Rattle.rules.specs.Reading as reading
use Rattle.rules.specs.Reading.{shaped, stated, judged, lexed, outcome, skipped}
use Rattle.scanner.specs.Class.{in_class}
use Rattle.scanner.specs.Runs.{end_of}
use Rattle.lists.specs.Tests.{by-test}
use Rattle.scanner.specs.declared.lines.Line.{Line}
use Rattle.scanner.proofs.ClassLaws.{class-blank}
use Rattle.scanner.proofs.RunLaws.{end_of-high}
use Rattle.tokens.specs.Rows.{row_of, token_at, rows_from, line}
use Rattle.tokens.specs.declared.ConstantSpan.TheVariants as constant
use Rattle.tokens.specs.declared.Token as row
use Rattle.tokens.specs.declared.Token.TheVariants.{Name, Word, Constant as Constantly, Mark, End}
use Rattle.tokens.proofs.TokenLaws.{present, row_before, front-token}
use Rattle.lexer.specs.Lexemes.{Held}
use Rattle.lexer.specs.Lines.{lexed_of, Among, LexedIs}
use Rattle.lexer.specs.declared.BadToken.{BadToken}
use Rattle.signals.specs.Reads.{WholeToken, Closed}
use Rattle.syntax.specs.Statements.{Ready}
use Rattle.judgement.specs.Judged.{Verdicts}
use Rattle.judgement.specs.declared.Stated.{Stated}
use Rattle.netlist.specs.declared.results.Refused.{Refused}
use Rattle.reading_step.specs.Steps.{line_of, refused_as, AnswerIs}

-- ---- the rows of a line

whole : (f : List ℕ) (x : row.Token) → Held f x → WholeToken f x
whole f (Name a b) h = tt
whole f (Word c) h = tt
whole f (Constantly (constant.Integer z)) h = tt
whole f (Constantly (constant.Value a b c)) h = tt
whole f (Constantly (constant.Text a)) h = h.1
whole f (Mark b) h = tt
whole f End h = tt

module _ (f t : List ℕ) (n : ℕ) (room : 4 * n ≤ length t) where
  abbrev rows : List ℕ
  rows = take (4 * n) t

  long : length rows ≡ 4 * n
  long = length-take-le (4 * n) t room

  row-taken : (i : ℕ) → i < n → row_of rows i ≡ row_of t i
  row-taken i h = sym (row_before rows (drop (4 * n) t) n long i h) ∙ ap (λ (u : List ℕ). row_of u i) (take-append-drop (4 * n) t)

  closed : ((k : ℕ) → k < n → Held f (row_of t k)) → Closed f rows
  unfolding token_at
  closed held =
      record {
        whole = λ i.
            by-test (ltb i (length rows / 4))
            (λ e. let k : i < n = omega (arith, long, ltb-true i (length rows / 4) e) in rw (e, row-taken i k) (whole f (row_of t i) (held i k)))
            (λ e. rw e tt);
      }

-- a row gives a token
rows-some : (f t : List ℕ) (k : ℕ) → rows_from f t (suc k) 0 ≡ [] → ⊥
unfolding rows_from
rows-some f t k e = let z : ◌≡◌ {A = ℕ} 0 1 = cc (front-token f (row_of t 0) (rows_from f t k (0 + 1)) (present t 0)) in omega arith

line-some : (f t : List ℕ) (n : ℕ) → length t ≡ 4 * n → (n ≡ 0 → ⊥) → line f t 0 ≡ [] → ⊥
unfolding line
line-some f t n e h q =
    let k : length t / 4 - 0 ≡ suc (n - 1) = omega (arith, h) in rows-some f t (n - 1) (rw k at q)

-- ---- the rows are ready for the verdict

module _ (f old new : List ℕ) (l : Line) (x : Result ℕ BadToken) (L : LexedIs f l.start l.end old new x) (n : ℕ) (e : x ≡ Ok n)
    (inside : l.end ≤ length f) (file : length f ≤ 32768) (old-long : 4 * (l.end - l.start) ≤ length old) where
  among : Among f l.start l.end new (Ok n)
  among = subst (Among f l.start l.end new) e L.among

  pub rows_few : 4 * n ≤ 131072
  rows_few = omega (arith, among.0)

  pub rows_fit : 4 * n ≤ length new
  rows_fit = omega (arith, among.0, L.kept)

  pub rows-ready : (s : List ℕ) (count : ℕ) → length s ≡ 43008 → count ≤ 512 → (n ≡ 0 → ⊥) → Ready f (take (4 * n - 0) (drop 0 new)) s count
  rows-ready s count scratch c first =
      let q : 4 * n ≡ 4 * n - 0 = omega arith in
      let k : length (take (4 * n) new) ≡ 4 * n = long f new n rows_fit in
      subst (λ (m : ℕ). Ready f (take m new) s count) q
      (record {
        rows = record {
          file = file;
          rows = omega (arith, k, rows_few);
          here = omega (arith, k, first);
          closed = closed f new n rows_fit among.1;
        };
        room = omega arith;
        few = c;
      })

-- ---- a bad token: it lies in the file, and what is left of the line from it on tells its place

module _ (f old new : List ℕ) (l : Line) (x : Result ℕ BadToken) (L : LexedIs f l.start l.end old new x) (p : BadToken) (e : x ≡ Err p) (inside : l.end ≤ length f) where
  among-bad : Among f l.start l.end new (Err p)
  among-bad = subst (Among f l.start l.end new) e L.among

  pub bad-low : p.at < length f
  bad-low = omega (arith, among-bad.1)

  left-from : l.start + (length (slice l.start l.end f) - length (slice p.at l.end f)) ≡ p.at
  left-from = rw (length-slice l.start l.end f inside, length-slice p.at l.end f inside) (omega (arith, among-bad.0, among-bad.1))

-- ---- the outcome

lexed-some : (ss : Past) (l : rules.Line) (ts : List Token) → (ts ≡ [] → ⊥) → lexed ss l (good ts) ≡ judged (place l) (stated ss l.ended ts)
unfolding lexed
lexed-some ss l [] h = absurd (h refl)
lexed-some ss l (t ∷ ts) h = refl

module _ (ss : Past) (f old new : List ℕ) (l : Line) (x : Result ℕ BadToken) (L : LexedIs f l.start l.end old new x) where
  by-lexed : (y : Result ℕ BadToken) → x ≡ y → outcome ss (line_of f l) ≡ lexed ss (line_of f l) (lexed_of f l.end new y)
  unfolding outcome line_of
  by-lexed y e = ap (lexed ss (line_of f l)) (L.is ∙ ap (lexed_of f l.end new) e)

  pub outcome-bad : (p : BadToken) → x ≡ Err p → l.end ≤ length f → outcome ss (line_of f l) ≡ reading.Outcome.refused 4 p.at
  unfolding lexed_of lexed line_of
  outcome-bad p e inside = by-lexed (Err p) e ∙ ap (reading.Outcome.refused 4) (left-from f old new l x L p e inside)

  pub outcome-none : (n : ℕ) → x ≡ Ok n → n ≡ 0 → outcome ss (line_of f l) ≡ skipped
  unfolding lexed_of lexed line rows_from
  outcome-none n e z = by-lexed (Ok 0) (e ∙ ap (λ (k : ℕ). Ok k) z)

  module _ (n : ℕ) (e : x ≡ Ok n) (inside : l.end ≤ length f) (file : length f ≤ 32768) (old-long : 4 * (l.end - l.start) ≤ length old) where
    some-tokens : (n ≡ 0 → ⊥) → (b : Bool) → l.ended ≡ b → outcome ss (line_of f l) ≡ judged (place (line_of f l)) (stated ss b (line f (take (4 * n) new) 0))
    unfolding lexed_of line_of
    some-tokens h b k =
        rw (← k) (by-lexed (Ok n) e ∙ lexed-some ss (line_of f l) _ (line-some f (take (4 * n) new) n (long f new n (rows_fit f old new l x L n e inside file old-long)) h))

    pub outcome-open : (n ≡ 0 → ⊥) → l.ended ≡ false → outcome ss (line_of f l) ≡ reading.Outcome.refused 5 (place (line_of f l))
    unfolding stated judged
    outcome-open h k = some-tokens h false k

    pub outcome-shaped :
        (n ≡ 0 → ⊥) → l.ended ≡ true →
        outcome ss (line_of f l) ≡ judged (place (line_of f l)) (shaped ss (shape (context ss) (line f (take (4 * n - 0) (drop 0 new)) 0)))
    unfolding stated
    outcome-shaped h k =
        let q : 4 * n ≡ 4 * n - 0 = omega arith in
        some-tokens h true k ∙ ap (λ (m : ℕ). judged (place (line_of f l)) (shaped ss (shape (context ss) (line f (take m new) 0)))) q

-- ---- the verdict

-- the place of a line is where its blanks end
place_end : (f : List ℕ) (l : Line) → place (line_of f l) ≡ end_of (in_class 3 3) (take (l.end - 0) (drop 0 f)) l.start
unfolding place line_of end_of
place_end f l = let q : l.end - 0 ≡ l.end = omega arith in rw (q, class-blank)

pub end-small :
    (f : List ℕ) (l : Line) (lo hi r : ℕ) → r ≡ end_of (in_class lo hi) (take (l.end - 0) (drop 0 f)) l.start → l.start ≤ l.end → l.end ≤ length f → length f ≤ 32768 → r ≤ 32768
end-small f l lo hi r e low high file =
    let q : length (take (l.end - 0) f) ≡ l.end - 0 = length-take-le (l.end - 0) f (omega arith) in
    omega (arith, end_of-high (in_class lo hi) (take (l.end - 0) f) l.start (omega arith))

pub refused-is :
    (f : List ℕ) (l : Line) (n p : ℕ) → p ≡ end_of (in_class 3 3) (take (l.end - 0) (drop 0 f)) l.start → ◌≡◌ {A = Refused} (record { number = n; place = p }) (refused_as f l n)
unfolding refused_as
refused-is f l n p q = rw (place_end f l, ← q) refl

-- an accepted one is what it was before its refusals were told otherwise
pub mapped-ok :
    {T E D : Type 0} (Q : E → D → Type 0) (x : Result T E) (m : Result T D) (n : T) → MatchResult x (λ k. m ≡ Ok k) (λ e. IsErrAnd m (Q e)) → m ≡ Ok n → x ≡ Ok n
mapped-ok Q (Ok k) m n h e = cc
mapped-ok Q (Err b) m n h e = absurd (rw e at h)

module _ (ss : Past) (f old new : List ℕ) (l : Line) (x : Result ℕ BadToken) (L : LexedIs f l.start l.end old new x) (inside : l.end ≤ length f)
    (Q : BadToken → Refused → Type 0) (told : (b : BadToken) (r : Refused) → Q b r → r ≡ record { number = 4; place = b.at }) where
  told-bad :
      (z : Result ℕ BadToken) (m : Result ℕ Refused) (y : Refused) → x ≡ z → MatchResult z (λ n. m ≡ Ok n) (λ b. IsErrAnd m (Q b)) → m ≡ Err y →
      outcome ss (line_of f l) ≡ reading.Outcome.refused y.number y.place
  told-bad (Ok n) m y ex h e = cc
  told-bad (Err b) m y ex h e = rw (told b y (rw e at h)) (outcome-bad ss f old new l x L b ex inside)

  pub answer-bad :
      (m : Result ℕ Refused) (y : Refused) → MatchResult x (λ n. m ≡ Ok n) (λ b. IsErrAnd m (Q b)) → m ≡ Err y →
      outcome ss (line_of f l) ≡ reading.Outcome.refused y.number y.place
  answer-bad m y h e = told-bad x m y refl h e

-- the verdict as an answer, where a refusal is at the line
module _ (ss : Past) (f t s : List ℕ) (l : Line) (P : Stated → Optional Stated → Type 0) (Q : ℕ → Refused → Type 0)
    (given : (x : Stated) (o : Optional Stated) → P x o → o ≡ Some x) (told : (n : ℕ) (r : Refused) → Q n r → r ≡ refused_as f l n) where
  pub answer-judged :
      (j : Result Stated ℕ) (m : Result (Optional Stated) ℕ) (r : Result (Optional Stated) Refused) →
      MatchResult j (λ x. IsOkAnd m (P x)) (λ n. m ≡ Err n) → MatchResult m (λ o. r ≡ Ok o) (λ n. IsErrAnd r (Q n)) →
      outcome ss (line_of f l) ≡ judged (place (line_of f l)) (shaped ss (shape (context ss) (line f t 0))) → Verdicts ss f t s j → AnswerIs ss (line_of f l) f s r
  unfolding judged refused_as
  answer-judged (Ok x) (Ok o) r a b e v =
      rw (b ∙ ap (λ (z : Optional Stated). Ok z) (given x o a)) (record { statement = v.statement; is = e ∙ ap (judged (place (line_of f l))) v.accepts; stated = v.stated; sums-are = v.sums-are })
  answer-judged (Ok x) (Err n) r a b e v = absurd a
  answer-judged (Err n) (Ok o) r a b e v = cc
  answer-judged (Err n) (Err k) (Ok o) a b e v = absurd b
  answer-judged (Err n) (Err k) (Err y) a b e v =
      let q : k ≡ n = cc in rw (told k y b, q) (e ∙ ap (judged (place (line_of f l))) v)

pub answer-refused : (ss : Past) (f : List ℕ) (l : Line) (n : ℕ) (r : Refused) → r ≡ refused_as f l n →
    outcome ss (line_of f l) ≡ reading.Outcome.refused n (place (line_of f l)) → outcome ss (line_of f l) ≡ reading.Outcome.refused r.number r.place
unfolding refused_as
answer-refused ss f l n r q e = rw q e
