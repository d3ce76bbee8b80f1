-- Which words begin a line of a process, and what they announce.
-- Assumes nothing.
use Prim.Native.Nat.{ℕ, ◌+◌, ◌/◌, ◌<◌, ◌≤◌}
use native.Mathlib.Omega.{arith}
use mathlib.Core.Path.{◌≡◌, refl, sym, ◌∙◌}
use mathlib.Core.Bool.{Bool, true, false, not, cond, ◌&&◌, ◌||◌, false≢true, or-false}
use mathlib.Core.List.{List, [], ◌∷◌}
use mathlib.Core.Option.{Option, none}
use Rattle.std.specs.Prelude.{Option as Optional, None, MatchOption, IsSomeAnd, IfSome}
use lib.Dec.{eqb, ltb}
use lib.ListN.{length}
use borrow.Author.Tests.{ne_eqb, eqb-true, eqb-false, lt-ltb, le-ltb, ltb-true, ltb-false}
use Rattle.rules.specs.Limits.{most_switches}
use Rattle.rules.specs.Bytes.{bytes, any}
use Rattle.rules.specs.Tokens as rules
use Rattle.rules.specs.Statements.{Shape, Step, assign, update, switch, case, low, high, posedge, negedge, edge, global, init, always, step_code}
use Rattle.rules.specs.Shapes as shapes
use Rattle.rules.specs.Shapes.{Scope, in_process, in_tail, in_sync, in_switch, in_case, forms, sync_forms, choice, whole, shape}
use Rattle.context.specs.Place.{scope_of}
use Rattle.scanner.specs.Words.{keyword_number}
use Rattle.lists.specs.Tests.{by_cond, by-test, by_order, or-false-left, or-false-right, and-true-left, and-true-right}
use Rattle.tokens.specs.Rows.{line}
use Rattle.line_forms.specs.Words.{WordIs, announced, numbered, begins}
use Rattle.line_forms.specs.Processes.{root_words, Inside, process_forms, step_forms, process_kind_of, StepFrom, ProcessKindFrom, step_parse}
use Rattle.line_forms.specs.Forms.{form_of, shape_of, FormFrom}
use Rattle.line_forms.specs.declared.Form.{Form}
use Rattle.line_forms.specs.declared.ProcessKind.{ProcessKind}
use Rattle.line_forms.specs.declared.ProcessKind.TheVariants as process_kind
use Rattle.line_forms.proofs.LineLaws.{word_below, choice-word, shape-word, forms_in_case, words_open, mapped}

unfoldable pub process_open : Unit {0}
unfolding words_open begins process_forms step_forms step_code
process_open = tt

-- ---- a word among those of forms

-- what holds of the numbers of all their words
abbrev pub Each : (ℕ → Type 0) → List shapes.Form → Type 0
Each P [] = Unit {0}
Each P (p ∷ ps) = P (keyword_number (bytes p.0)) × Each P ps

-- holds of a word that begins one of them
pub by_word : (P : ℕ → Type 0) (ps : List shapes.Form) (c : ℕ) → begins ps c ≡ true → Each P ps → P c
unfolding begins any
by_word P [] c h e = absurd (false≢true h)
by_word P (p ∷ ps) c h e =
    by-test (eqb c (keyword_number (bytes p.0)))
    (λ q. rw (eqb-true c _ q) e.0)
    (λ q. by_word P ps c (rw q at h) e.1)

-- a word that begins none is none of them, and announces nothing
pub no_word : (ps : List shapes.Form) (c : ℕ) → begins ps c ≡ false → Each (λ n. c ≡ n → ⊥) ps
unfolding begins any
no_word [] c h = tt
no_word (p ∷ ps) c h = (eqb-false c _ (or-false-left _ _ h), no_word ps c (or-false-right (eqb c (keyword_number (bytes p.0))) _ h))

pub none-announced : (ps : List shapes.Form) (c : ℕ) (ts : List rules.Token) → begins ps c ≡ false → announced ps c ts ≡ none
unfolding begins any announced
none-announced [] c ts h = refl
none-announced (p ∷ ps) c ts h =
    rw (or-false-left (eqb c (keyword_number (bytes p.0))) _ h) (none-announced ps c ts (or-false-right (eqb c (keyword_number (bytes p.0))) _ h))

-- a row stands where a word begins a form
pub begun-below : (ps : List shapes.Form) (t : List ℕ) (i c : ℕ) → numbered ps ≡ true → WordIs t i c → begins ps c ≡ true → i < length t / 4
unfolding begins any numbered
begun-below [] t i c k h e = absurd (false≢true e)
begun-below (p ∷ ps) t i c k h e =
    by-test (eqb c (keyword_number (bytes p.0)))
    (λ q. word_below p.0 t i c h (and-true-left _ _ k) (eqb-true c _ q))
    (λ q. begun-below ps t i c (and-true-right (rules.is_keyword (bytes p.0)) _ k) h (rw q at e))

-- ---- the words that begin a line in each scope

case-words : (deeper attributed : Bool) (c : ℕ) → begins (forms_in_case deeper attributed) c ≡ (eqb c 4 || (eqb c 21 || (cond (eqb c 20) deeper (not attributed && (eqb c 19 || eqb c 2)))))
unfolding process_open forms_in_case
case-words true true c = by-test (eqb c 20) (λ e. rw (eqb-true c 20 e)) (λ e. rw e)
case-words true false c = by-test (eqb c 20) (λ e. rw (eqb-true c 20 e)) (λ e. rw (e, or-false (eqb c 2)))
case-words false true c = by-test (eqb c 20) (λ e. rw (eqb-true c 20 e)) (λ e. rw e)
case-words false false c = by-test (eqb c 20) (λ e. rw (eqb-true c 20 e)) (λ e. rw (e, or-false (eqb c 2)))

one_deeper : (k : ℕ) → ltb (k + 1) most_switches ≡ ltb k 15
one_deeper k = by-test (ltb k 15) (λ e. lt-ltb (k + 1) 16 (let h = ltb-true k 15 e in omega arith) ∙ sym e) (λ e. le-ltb (k + 1) 16 (let h = ltb-false k 15 e in omega arith) ∙ sym e)

module _ (first : Bool) where
  pub body_begins : (attributed : Bool) (c : ℕ) → begins (forms in_process first attributed) c ≡ (eqb c 4 || (eqb c 20 || (not attributed && any (eqb c) (root_words 19))))
  unfolding process_open root_words
  body_begins true c = refl
  body_begins false c = refl

  pub switch_begins : (k : ℕ) (attributed : Bool) (c : ℕ) → begins (forms (in_switch k) first attributed) c ≡ (eqb c 4 || (eqb c 21 || (not attributed && eqb c 2)))
  unfolding process_open
  switch_begins k true c = refl
  switch_begins k false c = rw (or-false (eqb c 2))

  pub case_begins : (k : ℕ) (attributed : Bool) (c : ℕ) → begins (forms (in_case k) first attributed) c ≡ (eqb c 4 || (eqb c 21 || (cond (eqb c 20) (ltb k 15) (not attributed && (eqb c 19 || eqb c 2)))))
  unfolding process_open forms_in_case
  case_begins k attributed c = case-words (ltb (k + 1) most_switches) attributed c ∙ rw (one_deeper k)

-- ---- what they announce: the same in every scope

-- what holds of each scope of a process holds of the scope with a number
by-scope : (P : Scope → Type 0) → P in_process → P in_tail → P in_sync → ((k : ℕ) → P (in_switch k)) → ((k : ℕ) → P (in_case k)) → (n k : ℕ) → Inside n → P (scope_of n k)
unfolding scope_of
by-scope P a b c d e n k h =
    rw (ne_eqb n 0 (λ q. omega arith), ne_eqb n 1 (λ q. omega arith), ne_eqb n 2 (λ q. omega arith))
    (by_cond P (eqb n 3) (λ _. a)
    (λ _. by_cond P (eqb n 4) (λ _. b) (λ _. by_cond P (eqb n 5) (λ _. c) (λ _. by_cond P (eqb n 6) (λ _. d k) (λ _. e k)))))

module _ (ts : List rules.Token) where
  abbrev Same : List shapes.Form → ℕ → Type 0
  Same ps c = (announced ps c ts ≡ announced process_forms c ts) × (begins process_forms c ≡ true)

  abbrev AllSame : List shapes.Form → Type 0
  AllSame ps = (c : ℕ) → begins ps c ≡ true → Same ps c

  among : (ps : List shapes.Form) → Each (Same ps) ps → AllSame ps
  among ps e c h = by_word (Same ps) ps c h e

  case_same : (deeper attributed : Bool) → AllSame (forms_in_case deeper attributed)
  unfolding process_open forms_in_case
  case_same true true = among (forms_in_case true true) ((refl, refl), ((refl, refl), ((refl, refl), tt)))
  case_same true false = among (forms_in_case true false) ((refl, refl), ((refl, refl), ((refl, refl), ((refl, refl), ((refl, refl), tt)))))
  case_same false true = among (forms_in_case false true) ((refl, refl), ((refl, refl), tt))
  case_same false false = among (forms_in_case false false) ((refl, refl), ((refl, refl), ((refl, refl), ((refl, refl), tt))))

  body_same : (first attributed : Bool) → AllSame (forms in_process first attributed)
  unfolding process_open
  body_same first true = among (forms in_process first true) ((refl, refl), ((refl, refl), tt))
  body_same first false = among (forms in_process first false) ((refl, refl), ((refl, refl), ((refl, refl), ((refl, refl), ((refl, refl), tt)))))

  switch-same : (k : ℕ) (first attributed : Bool) → AllSame (forms (in_switch k) first attributed)
  unfolding process_open
  switch-same k first true = among (forms (in_switch k) first true) ((refl, refl), ((refl, refl), tt))
  switch-same k first false = among (forms (in_switch k) first false) ((refl, refl), ((refl, refl), ((refl, refl), tt)))

  all_same : (n k : ℕ) (first attributed : Bool) → Inside n → AllSame (forms (scope_of n k) first attributed)
  unfolding process_open forms_in_case
  all_same n k first attributed i =
      by-scope (λ z. AllSame (forms z first attributed))
      (body_same first attributed)
      (among (forms in_tail first attributed) ((refl, refl), ((refl, refl), ((refl, refl), tt))))
      (among (forms in_sync first attributed) ((refl, refl), ((refl, refl), ((refl, refl), tt))))
      (λ k. switch-same k first attributed)
      (λ k. case_same (ltb (k + 1) most_switches) attributed)
      n
      k
      i

-- a line whose first word begins one in this scope, and one whose word doesn't
module _ (n k : ℕ) (first attributed : Bool) (c : ℕ) (i : Inside n) where
  pub begins-some : begins (forms (scope_of n k) first attributed) c ≡ true → begins process_forms c ≡ true
  begins-some e = (all_same [] n k first attributed i c e).1

  module _ (f t : List ℕ) (h : WordIs t 0 c) where
    pub begun-shape :
        begins (forms (scope_of n k) first attributed) c ≡ true →
        shape (record { scope = scope_of n k; first = first; attributed = attributed }) (line f t 0) ≡ whole (announced process_forms c (line f t 1))
    begun-shape e = shape-word _ f t c h ∙ rw (all_same (line f t 1) n k first attributed i c e).0

    pub no-shape :
        begins (forms (scope_of n k) first attributed) c ≡ false →
        shape (record { scope = scope_of n k; first = first; attributed = attributed }) (line f t 0) ≡ none
    unfolding whole
    no-shape e = shape-word _ f t c h ∙ rw (none-announced (forms (scope_of n k) first attributed) c (line f t 1) e)

-- ---- steps

-- what the forms say of a step's number: how it is read on, and that it is one
abbrev StepAt : List shapes.Form → List rules.Token → ℕ → Type 0
StepAt ps ts c = (announced ps c ts ≡ announced step_forms c ts) × ((s : Step) × (step_code s ≡ c)) × (c < 32)

-- the eight words behind `sync` have the numbers from 23 to 30
pub sync-among : (c : ℕ) → 23 ≤ c → c ≤ 30 → begins sync_forms c ≡ true
unfolding process_open
sync-among c h k =
    by-test (begins sync_forms c) (λ e. e)
    (λ e. let n = no_word sync_forms c e in
    by_order c 26
    (λ q. absurd (omega (arith, n.0, n.1.1.1.1.1.0, n.1.1.1.1.1.1.0, n.1.1.1.1.1.1.1.0)))
    (λ q. absurd (omega (arith, n.1.0, n.1.1.0, n.1.1.1.0, n.1.1.1.1.0))))

sync-within : (c : ℕ) → begins sync_forms c ≡ true → (23 ≤ c) × (c ≤ 30)
unfolding process_open
sync-within c e =
    by_word (λ c. (23 ≤ c) × (c ≤ 30)) sync_forms c e
    ((omega arith, omega arith), ((omega arith, omega arith), ((omega arith, omega arith), ((omega arith, omega arith), ((omega arith, omega arith), ((omega arith, omega arith), ((omega arith, omega arith), ((omega arith, omega arith), tt))))))))

sync-step : (ts : List rules.Token) (c : ℕ) → begins sync_forms c ≡ true → StepAt sync_forms ts c
unfolding process_open
sync-step ts c e =
    by_word (StepAt sync_forms ts) sync_forms c e
    ((refl, (low, refl), omega arith), ((refl, (high, refl), omega arith), ((refl, (posedge, refl), omega arith), ((refl, (negedge, refl), omega arith), ((refl, (edge, refl), omega arith), ((refl, (global, refl), omega arith), ((refl, (init, refl), omega arith), ((refl, (always, refl), omega arith), tt))))))))

-- behind `sync`
module _ (t : List ℕ) (c : ℕ) (h : WordIs t 1 c) where
  sync-word : (f : List ℕ) → choice sync_forms (line f t 1) ≡ announced sync_forms c (line f t 2)
  unfolding process_open
  sync-word f = choice-word sync_forms f t 1 c refl h

  pub no-sync : (23 ≤ c → c ≤ 30 → ⊥) → (f : List ℕ) → whole (choice sync_forms (line f t 1)) ≡ none
  unfolding whole
  no-sync q f =
      by-test (begins sync_forms c) (λ e. let w = sync-within c e in absurd (q w.0 w.1))
      (λ e. rw (sync-word f, none-announced sync_forms c (line f t 2) e))

  pub synced : 23 ≤ c → c ≤ 30 → (f : List ℕ) → whole (choice sync_forms (line f t 1)) ≡ whole (announced step_forms c (line f t 2))
  synced a b f = rw (sync-word f, (sync-step (line f t 2) c (sync-among c a b)).0)

  pub sync-from : 23 ≤ c → c ≤ 30 → StepFrom t c 2
  unfolding process_open
  sync-from a b =
      let e = sync-among c a b in
      ((sync-step [] c e).1, let q = begun-below sync_forms t 1 c refl h e in omega arith)

-- a first word that is none of `attribute`, `end` and `sync`
module _ (c : ℕ) (e : begins process_forms c ≡ true) (a : c ≡ 4 → ⊥) (b : c ≡ 2 → ⊥) (d : c ≡ 22 → ⊥) where
  plain_step : (ts : List rules.Token) → StepAt process_forms ts c
  unfolding process_open
  plain_step ts =
      by_word (λ c. (c ≡ 4 → ⊥) → (c ≡ 2 → ⊥) → (c ≡ 22 → ⊥) → StepAt process_forms ts c) process_forms c e (
        λ a _ _. absurd (a refl),
        (
          λ _ b _. absurd (b refl),
          (
            λ _ _ d. absurd (d refl),
            (
              λ _ _ _. (refl, (assign, refl), omega arith),
              (
                λ _ _ _. (refl, (switch, refl), omega arith),
                (λ _ _ _. (refl, (case, refl), omega arith), (λ _ _ _. (refl, (update, refl), omega arith), tt)),
              ),
            ),
          ),
        ),
      )
      a b d

  pub step_small : c < 32
  step_small = (plain_step []).2

  pub stepped : (f t : List ℕ) → whole (announced process_forms c (line f t 1)) ≡ whole (announced step_forms c (line f t 1))
  stepped f t = rw (plain_step (line f t 1)).0

  pub step_from : (t : List ℕ) → WordIs t 0 c → StepFrom t c 1
  unfolding process_open
  step_from t h = ((plain_step []).1, let q = begun-below process_forms t 0 c refl h e in omega arith)

-- how the step with a number is read on
step-read : (s : Step) (ts : List rules.Token) → announced step_forms (step_code s) ts ≡ step_parse (step_code s) s ts
unfolding process_open step_parse
step-read assign ts = refl
step-read update ts = refl
step-read switch ts = refl
step-read case ts = refl
step-read low ts = refl
step-read high ts = refl
step-read posedge ts = refl
step-read negedge ts = refl
step-read edge ts = refl
step-read global ts = refl
step-read init ts = refl
step-read always ts = refl

pub step-kind : (f t : List ℕ) (p i : ℕ) (s : Step) → step_code s ≡ p → process_kind_of f t (process_kind.Step p i) ≡ whole (step_parse p s (line f t i))
unfolding process_kind_of
step-kind f t p i s e = rw (sym e, step-read s (line f t i))

-- a form that is read, as a kind of line in a process
pub form-process_kind :
    (t : List ℕ) (o : Optional Form) (r : Optional ProcessKind) → MatchOption o (r ≡ None) (λ x. IsSomeAnd r (λ y. y ≡ process_kind.Form x)) →
    (P : List ℕ → Option Shape) → ((f : List ℕ) → P f ≡ shape_of (form_of f) o) → IfSome o (FormFrom t) → ((f : List ℕ) → P f ≡ shape_of (process_kind_of f t) r) × IfSome r (ProcessKindFrom t)
unfolding process_kind_of
form-process_kind t = mapped t process_kind.Form (λ f. process_kind_of f t) (ProcessKindFrom t) (λ f x. refl) (λ x h. h)
