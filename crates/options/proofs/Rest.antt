-- A line's parse, one token at a time.
-- Assumes nothing.
use mathlib.Core.Path.{◌≡◌, refl, ◌∙◌}
use mathlib.Core.Bool.{Bool, true, false, cond}
use mathlib.Core.List.{List, [], ◌∷◌}
use mathlib.Core.Option.{Option, none, some}
use Prim.Native.Nat.{ℕ, zero, suc, ◌+◌, ◌-◌, ◌/◌, ◌<◌, ◌≤◌}
use native.Mathlib.Omega.{arith}
use lib.IntN.{ℤ}
use lib.Dec.{eqb}
use lib.ListN.{length}
use lib.Seq.{slice}
use Rattle.rules.specs.Bytes.{any}
use Rattle.rules.specs.Tokens.{Name, Literal, Token, name, word, literal, mark}
use Rattle.rules.specs.Statements.{Opt, Shape}
use Rattle.rules.specs.Shapes.{whole, whole_by, of₁, of₂, id, int, one, is_id, is_word, give, after, repeat, offers, choice, options, several}
use Rattle.scanner.specs.Words.{keyword_at}
use Rattle.tokens.specs.Rows.{integer_in, Present, front, token_at, line}
use Rattle.tokens.specs.declared.Integer.{Integer}
use Rattle.tokens.specs.declared.Token.{Token as Row}
use Rattle.tokens.specs.declared.Token.TheVariants as row
use Rattle.tokens.proofs.TokenLaws.{line-end, line_row, line_read, line-long, below}
use Rattle.options.specs.Forms.{forms, statement, accepted, is_flag, number_codes}
use Rattle.options.specs.Holds.{fits, Holds, no_options, Took}
use Rattle.options.specs.Lines.{rest, Next}
use Rattle.options.specs.declared.Options.{Options}
use Rattle.options.proofs.Held.{holds-none, holds_more}
use Rattle.options.proofs.Words.{accepted-option, offers-word, offers-not, choice-word, parsed}

module _ (m : Bool) (k : ℕ) (os : List Opt) (ts : List Token) where
  -- an option, with its number, and without
  module _ (c : ℕ) (h : accepted m c ≡ true) where
    rest-option : rest m (suc k) os (word (keyword_at c) ∷ ts) ≡ whole (after (after (parsed c ts) (λ o. repeat (offers (forms m)) (choice (forms m)) k (o ∷ os))) (λ os. of₁ (statement m os) id))
    unfolding rest repeat
    rest-option = rw (offers-word m c, h, choice-word m ts c h)

    pub rest-flag : is_flag c ≡ true → rest m (suc k) os (word (keyword_at c) ∷ ts) ≡ rest m k ((keyword_at c, none) ∷ os) ts
    unfolding rest parsed after
    rest-flag g = rest-option ∙ rw g

    pub rest-number : is_flag c ≡ false → (z : ℤ) (us : List Token) → int ts ≡ some (z, us) → rest m (suc k) os (word (keyword_at c) ∷ ts) ≡ rest m k ((keyword_at c, some z) ∷ os) us
    unfolding rest parsed after of₁ give
    rest-number g z us e = rest-option ∙ rw (g, e)

    pub rest-short : is_flag c ≡ false → int ts ≡ none → rest m (suc k) os (word (keyword_at c) ∷ ts) ≡ none
    unfolding parsed after of₁ whole
    rest-short g e = rest-option ∙ rw (g, e)

  -- another token ends the options
  rest-by : (t : Token) → offers (forms m) t ≡ false → rest m (suc k) os (t ∷ ts) ≡ whole (of₁ (statement m os) id (t ∷ ts))
  unfolding rest repeat after
  rest-by t e = rw e

  pub rest-other : (c : ℕ) → accepted m c ≡ false → rest m (suc k) os (word (keyword_at c) ∷ ts) ≡ none
  unfolding of₁ id one is_id after whole
  rest-other c h = rest-by (word (keyword_at c)) (offers-word m c ∙ h)

  pub rest-literal : (v : Literal) → rest m (suc k) os (literal v ∷ ts) ≡ none
  unfolding of₁ id one is_id is_word after whole
  rest-literal v = rest-by (literal v) (offers-not m (literal v) (λ w. refl))

  pub rest-mark : (b : ℕ) → rest m (suc k) os (mark b ∷ ts) ≡ none
  unfolding of₁ id one is_id is_word after whole
  rest-mark b = rest-by (mark b) (offers-not m (mark b) (λ w. refl))

  pub rest-name : (n : Name) → rest m (suc k) os (name n ∷ ts) ≡ whole_by (statement m os n) ts
  unfolding of₁ id one is_id is_word after whole give
  rest-name n = rest-by (name n) (offers-not m (name n) (λ w. refl))

rest-nothing : (m : Bool) (k : ℕ) (os : List Opt) → rest m k os [] ≡ none
unfolding rest repeat of₁ after whole id one
rest-nothing m zero os = refl
rest-nothing m (suc k) os = refl

-- ---- over the rows from i on, with enough turns

grow : (P : ℕ → Type 0) (k : ℕ) → 1 ≤ k → ((j : ℕ) → P (suc j)) → P k
grow P zero h f = absurd (omega arith)
grow P (suc j) h f = f j

module _ (m : Bool) (t : List ℕ) (i : ℕ) where
  pub decides : (x : Row) → x ≡ token_at t i → Present x → (r : List ℕ → List Opt → Option Shape) → ((f : List ℕ) (j : ℕ) (os : List Opt) → rest m (suc j) os (front f x (line f t (i + 1))) ≡ r f os) → (f : List ℕ) (k : ℕ) (os : List Opt) → length t / 4 - i ≤ k → rest m k os (line f t i) ≡ r f os
  decides x e p r q f k os h =
      let b : i < length t / 4 = below t i x e p in
      rw (line_read f t i x e) (grow (λ k. rest m k os (front f x (line f t (i + 1))) ≡ r f os) k (omega arith) (λ j. q f j os))

  -- a token that is neither a name nor a word, and the end
  pub refuses : (x : Row) → x ≡ token_at t i → ((a b : ℕ) → x ≡ row.Name a b → ⊥) → ((c : ℕ) → x ≡ row.Word c → ⊥) → (f : List ℕ) (k : ℕ) (os : List Opt) → length t / 4 - i ≤ k → rest m k os (line f t i) ≡ none
  unfolding front
  refuses (row.Name a b) e n w = absurd (n a b refl)
  refuses (row.Word c) e n w = absurd (w c refl)
  refuses (row.Constant c) e n w = decides (row.Constant c) e tt (λ f os. none) (λ f j os. rest-literal m j os _ _)
  refuses (row.Mark b) e n w = decides (row.Mark b) e tt (λ f os. none) (λ f j os. rest-mark m j os _ b)
  refuses row.End e n w = λ f k os h. rw (line_read f t i row.End e) (rest-nothing m k os)

  module _ (a b : ℕ) (e : row.Name a b ≡ token_at t i) where
    pub ends : length t / 4 ≤ i + 1 → (f : List ℕ) (k : ℕ) (os : List Opt) → length t / 4 - i ≤ k → rest m k os (line f t i) ≡ some (statement m os (slice a b f))
    unfolding front whole_by
    ends l =
        decides (row.Name a b) e tt (λ f os. some (statement m os (slice a b f)))
        (λ f j os. rest-name m j os (line f t (i + 1)) (slice a b f) ∙ rw (line-end f t (i + 1) l))

    pub goes_on : i + 1 < length t / 4 → (f : List ℕ) (k : ℕ) (os : List Opt) → length t / 4 - i ≤ k → rest m k os (line f t i) ≡ none
    unfolding front whole_by
    goes_on l =
        decides (row.Name a b) e tt (λ f os. none)
        (λ f j os.
        rest-name m j os (line f t (i + 1)) (slice a b f)
        ∙ rw (line_row f t (i + 1) l))

  -- an option in row i
  module _ (c : ℕ) (e : row.Word c ≡ token_at t i) (h : accepted m c ≡ true) where
    pub flag-next : is_flag c ≡ true → Next m t i c (λ f. none) (i + 1)
    unfolding front
    flag-next g =
        record {
          inside = below t i (row.Word c) e tt;
          option = accepted-option m c h;
          more = λ f k os. rw (line_read f t i (row.Word c) e) (rest-flag m k os (line f t (i + 1)) c h g);
        }

    pub number-next :
        (z : Integer) →
        is_flag c ≡ false →
        ((f : List ℕ) → int (line f t (i + 1)) ≡ some (integer_in f z, line f t (i + 1 + 1))) →
        Next m t i c (λ f. some (integer_in f z)) (i + 2)
    unfolding front
    number-next z g s =
        let two : i + 1 + 1 ≡ i + 2 = omega arith in
        record {
          inside = below t i (row.Word c) e tt;
          option = accepted-option m c h;
          more = λ f k os. rw (line_read f t i (row.Word c) e, ← two) (rest-number m k os (line f t (i + 1)) c h g (integer_in f z) (line f t (i + 1 + 1)) (s f));
        }

-- ---- the loop: turns enough for the rest, the options so far, and that the rest decides

pub record Reached (f : List ℕ) (m : Bool) (t : List ℕ) (at i : ℕ) (o : Options) : Type 0 where
  pub turns : ℕ
  pub so_far : List Opt
  pub enough : length t / 4 - i ≤ turns
  pub holds : Holds f o so_far
  pub same : whole (of₂ (statement m) (options (forms m)) id (line f t at)) ≡ rest m turns so_far (line f t i)

module _ (f : List ℕ) (m : Bool) (t : List ℕ) (at : ℕ) where
  pub start : (o : Options) → o ≡ no_options → Reached f m t at at o
  unfolding rest of₂ options several
  start o e =
      record { turns = length (line f t at); so_far = []; enough = omega (arith, line-long f t at); holds = rw e (holds-none f); same = refl }

  -- one option more, held by o'
  module _ (i j c : ℕ) (v : List ℕ → Option ℤ) (o o' : Options) (N : Next m t i c v j) (less : i < j) where
    next-by : (k : ℕ) (os : List Opt) → length t / 4 - i ≤ k → Holds f o' ((keyword_at c, v f) ∷ os) → whole (of₂ (statement m) (options (forms m)) id (line f t at)) ≡ rest m k os (line f t i) → Reached f m t at j o'
    next-by zero os h H e = absurd (omega (arith, N.inside))
    next-by (suc k) os h H e =
        record { turns = k; so_far = (keyword_at c, v f) ∷ os; enough = omega (arith, N.inside); holds = H; same = e ∙ N.more f k os }

    pub next : Reached f m t at i o → cond (any (eqb c) number_codes) (fits (v f)) true ≡ fits (v f) → Took f o c (v f) o' → Reached f m t at j o'
    next R n T = next-by R.turns R.so_far R.enough (holds_more f o o' R.so_far c (v f) R.holds N.option n T) R.same
