-- The shape of fine tokens has legal names, and strings without byte 0 in its attributes and parameters; and it is of a kind that stands
-- where it was found. A step is one that goes there, with its signals.
-- Assumes nothing.
use Prim.Native.Nat.{ℕ, zero, suc, ◌+◌}
use Prim.Native.Char.{Char}
use Prim.Native.String.{String}
use Rattle.std.specs.Prelude.{◌≡◌, Bool, true, false, not, cond, ◌||◌, eqb, ltb, ℤ, length}
use Rattle.std.proofs.Math.Path.{refl}
use mathlib.Core.List.{List, [], ◌∷◌, ◌++◌, Option-to_list}
use Rattle.std.proofs.Math.Option.{Option, none, some, map}
use Rattle.rules.specs.Limits.{most_switches}
use Rattle.rules.specs.Bytes.{bytes, any, all, legal}
use Rattle.rules.specs.Tokens.{Name, Literal, Token, name, word, literal, mark}
use Rattle.rules.specs.Statements.{Sig, bundle, Opt, Shape, autoidx-stmt, attr-stmt, module-stmt, param-stmt, wire-stmt, memory-stmt, cell-stmt, cell-param-stmt, cell-conn-stmt, conn-stmt, proc-stmt, step-stmt, end-stmt, Step, assign, update, switch, case, low, high, posedge, negedge, edge, global, init, always, Kind, an_autoidx, an_attribute, a_module, a_parameter, a_wire, a_memory, a_cell, a_cell_parameter, a_cell_connection, a_connection, a_process, an_end, a_step, code, contents, is, statements_open}
use Rattle.rules.specs.Shapes.{Parse, Scope, top, in_module, in_cell, in_process, in_tail, in_sync, in_switch, in_case, Context, is_word, is_mark, nowhere, give, one, after, of₁, of₂, of₃, either, choice, offers, closed_by, repeat, several, or_end, is_id, is_constant, is_integer, is_atom, id, const, int, atom, low_bound, bounds, sliced, with_slices, sigs, members, signal, sigspec, numbered, flag, wire_option_forms, memory_option_forms, options, sort, autoidx_form, attribute_form, top_forms, object_forms, body_forms, cell_forms, compare, compares, of0, of1, of2, end_form, assign_form, switch_form, case_form, update_form, sync_forms, sync_form, nested_forms, forms, whole_by, whole, shape}
use Rattle.rules.specs.Judgement.{among}
use Rattle.lists.specs.Tests.{by_cond}
use Rattle.lists.specs.Elements.{all_cons, all_first, all-later, Each, ◌then◌, each_append, each_of, all_one}
use Rattle.admitted.specs.Admitted.{kinds, syncs, nested_steps, steps_in, same_step, arity}
use Rattle.written.specs.TokenLaws.{fine_literal, fine_token, Fine}

first_fine : (t : Token) (ts : List Token) → Fine (t ∷ ts) → fine_token t ≡ true
unfolding Fine
first_fine t ts h = all_first fine_token t ts h

later-fine : (t : Token) (ts : List Token) → Fine (t ∷ ts) → Fine ts
unfolding Fine
later-fine t ts h = all-later fine_token t ts h

-- what is found in fine tokens, if anything, keeps P, and fine tokens are left
data Gives {A : Type 0} (P : A → Type 0) : Option (A × List Token) → Type 0 where
  gives_none : Gives P none
  gives : {a : A} {ts : List Token} → P a → Fine ts → Gives P (some (a, ts))

abbrev Finds : {A : Type 0} → (A → Type 0) → Parse A → Type 0
Finds P p = (ts : List Token) → Fine ts → Gives P (p ts)

-- nothing is asked of a number, an option, a signal
abbrev Any : {A : Type 0} → A → Type 0
Any a = Unit {0}

-- ---- what parses are made of

module _ {A : Type 0} (P : A → Type 0) where
  nowhere-finds : Finds P nowhere
  unfolding nowhere
  nowhere-finds ts h = gives_none

  give-finds : (a : A) → P a → Finds P (give a)
  unfolding give
  give-finds a p ts h = gives p h

  either-finds : (f : Token → Bool) (p q : Parse A) → Finds P p → Finds P q → Finds P (either f p q)
  unfolding either
  either-finds f p q h k [] t = k [] t
  either-finds f p q h k (x ∷ xs) t = by_cond (Gives P) (f x) (λ e. h xs (later-fine x xs t)) (λ e. k (x ∷ xs) t)

module _ {A B : Type 0} (P : A → Type 0) (Q : B → Type 0) where
  after-gives : {o : Option (A × List Token)} (f : A → Parse B) → Gives P o → ((a : A) → P a → Finds Q (f a)) → Gives Q (after o f)
  unfolding after
  after-gives f gives_none h = gives_none
  after-gives f (gives {a} {ts} p t) h = h a p ts t

  one-finds : (f : A → B) (p : Parse A) → ((a : A) → P a → Q (f a)) → Finds P p → Finds Q (of₁ f p)
  unfolding of₁
  one-finds f p h k ts t = after-gives (λ a. give (f a)) (k ts t) (λ a x. give-finds Q (f a) (h a x))

module _ {A B C : Type 0} (P : A → Type 0) (Q : B → Type 0) (R : C → Type 0) where
  two-finds : (f : A → B → C) (p : Parse A) (q : Parse B) → ((a : A) → P a → (b : B) → Q b → R (f a b)) → Finds P p → Finds Q q → Finds R (of₂ f p q)
  unfolding of₂
  two-finds f p q h k l ts t = after-gives P R (λ a. of₁ (f a) q) (k ts t) (λ a x. one-finds Q R (f a) q (h a x) l)

module _ {A B C D : Type 0} (P : A → Type 0) (Q : B → Type 0) (R : C → Type 0) (S : D → Type 0) where
  three-finds :
      (f : A → B → C → D) (p : Parse A) (q : Parse B) (r : Parse C) → ((a : A) → P a → (b : B) → Q b → (c : C) → R c → S (f a b c)) →
      Finds P p → Finds Q q → Finds R r → Finds S (of₃ f p q r)
  unfolding of₃
  three-finds f p q r h k l m ts t = after-gives P S (λ a. of₂ (f a) q r) (k ts t) (λ a x. two-finds Q R S (f a) q r (h a x) l m)

abbrev AllFind : {A : Type 0} → (A → Type 0) → List (String × Parse A) → Type 0
AllFind P cs = Each (λ c. Finds P c.1) cs

module _ {A : Type 0} (P : A → Type 0) where
  choice-finds : (cs : List (String × Parse A)) → AllFind P cs → Finds P (choice cs)
  unfolding choice
  choice-finds [] hs ts t = gives_none
  choice-finds (c ∷ cs) (h, hs) ts t = either-finds P (is_word c.0) c.1 (choice cs) h (choice-finds cs hs) ts t

  closed-finds : (c : Char) (p : Parse A) → Finds P p → Finds P (closed_by c p)
  unfolding closed_by
  closed-finds c p h ts t =
      after-gives P P (λ a. either (is_mark c) (give a) nowhere) (h ts t)
      (λ a x. either-finds P (is_mark c) (give a) nowhere (give-finds P a x) (nowhere-finds P))

  repeat-finds : (f : Token → Bool) (p : Parse A) → Finds P p → (k : ℕ) (as' : List A) → Finds Any (repeat f p k as')
  unfolding repeat
  repeat-finds f p h zero as' ts t = gives tt t
  repeat-finds f p h (suc k) as' [] t = gives tt t
  repeat-finds f p h (suc k) as' (x ∷ xs) t =
      by_cond (Gives Any) (f x) (λ e. after-gives P Any (λ a. repeat f p k (a ∷ as')) (h (x ∷ xs) t) (λ a y. repeat-finds f p h k (a ∷ as'))) (λ e. gives tt t)

  several-finds : (f : Token → Bool) (p : Parse A) → Finds P p → Finds Any (several f p)
  unfolding several
  several-finds f p h ts t = repeat-finds f p h (length ts) [] ts t

-- ---- one token

data Got {A : Type 0} (P : A → Type 0) : Option A → Type 0 where
  got-none : Got P none
  got : {a : A} → P a → Got P (some a)

token-finds : {A : Type 0} (P : A → Type 0) (f : Token → Option A) → ((t : Token) → fine_token t ≡ true → Got P (f t)) → Finds P (one f)
unfolding one
token-finds P f h [] t = gives_none
token-finds {A = A} P f h (x ∷ xs) t = by-got (h x (first_fine x xs t))
  where
    by-got : {o : Option A} → Got P o → Gives P (map (λ a. (a, xs)) o)
    by-got got-none = gives_none
    by-got (got p) = gives p (later-fine x xs t)

abbrev Legal : Name → Type 0
Legal n = legal n ≡ true

abbrev Raw : Literal → Type 0
Raw c = fine_literal c ≡ true

id-finds : Finds Legal id
unfolding id is_id fine_token
id-finds = token-finds Legal is_id (elim [ name n ↦ λ h. got h | word w ↦ λ h. got-none | literal c ↦ λ h. got-none | mark m ↦ λ h. got-none ])

const-finds : Finds Raw const
unfolding const is_constant fine_token
const-finds = token-finds Raw is_constant (elim [ name n ↦ λ h. got-none | word w ↦ λ h. got-none | literal c ↦ λ h. got h | mark m ↦ λ h. got-none ])

-- what is asked of nothing
any-got : {A : Type 0} (o : Option A) → Got Any o
any-got none = got-none
any-got (some a) = got tt

int-finds : Finds Any int
unfolding int
int-finds = token-finds Any is_integer (λ t h. any-got (is_integer t))

atom-finds : Finds Any atom
unfolding atom
atom-finds = token-finds Any is_atom (λ t h. any-got (is_atom t))

-- ---- signals

low-finds : Finds Any low_bound
unfolding low_bound
low-finds = either-finds Any (is_mark ":") (of₁ some int) (give none) (one-finds Any Any some int (λ a x. tt) int-finds) (give-finds Any none tt)

bounds-finds : Finds Any bounds
unfolding bounds
bounds-finds =
    either-finds Any (is_mark "[") (closed_by "]" (of₂ (λ h l. (h, l)) int low_bound)) nowhere
    (closed-finds Any "]" (of₂ (λ h l. (h, l)) int low_bound) (two-finds Any Any Any (λ h l. (h, l)) int low_bound (λ a x b y. tt) int-finds low-finds))
    (nowhere-finds Any)

slices-finds : (p : Parse Sig) → Finds Any p → Finds Any (with_slices p)
unfolding with_slices
slices-finds p h = two-finds Any Any Any sliced p (several (is_mark "[") bounds) (λ a x b y. tt) h (several-finds Any (is_mark "[") bounds bounds-finds)

members-finds : (p : Parse Sig) → Finds Any p → Finds Any (members p)
unfolding members
members-finds p h = closed-finds Any "}" _ (one-finds Any Any (λ ss. bundle (sigs ss)) _ (λ a x. tt) (several-finds Any (λ t. not (is_mark "}" t)) p h))

signal-finds : (k : ℕ) → Finds Any (signal k)
unfolding signal
signal-finds zero = slices-finds atom atom-finds
signal-finds (suc k) = slices-finds _ (either-finds Any (is_mark "{") (members (signal k)) atom (members-finds (signal k) (signal-finds k)) atom-finds)

sigspec-finds : Finds Any sigspec
unfolding sigspec
sigspec-finds = signal-finds 16

-- ---- options

numbered-finds : (w : String) → Finds Any (numbered w).1
unfolding numbered
numbered-finds w = one-finds Any Any (λ (i : ℤ). (bytes w, some i)) int (λ a x. tt) int-finds

flag-finds : (w : String) → Finds Any (flag w).1
unfolding flag
flag-finds w = give-finds Any (bytes w, none) tt

options-finds : (os : List (String × Parse Opt)) → AllFind Any os → Finds Any (options os)
unfolding options
options-finds os h = several-finds Any (offers os) (choice os) (choice-finds Any os h)

wire-finds : Finds Any (options wire_option_forms)
unfolding wire_option_forms
wire-finds =
    options-finds wire_option_forms
    (numbered-finds "width"
    then numbered-finds "offset"
    then numbered-finds "input"
    then numbered-finds "output"
    then numbered-finds "inout"
    then flag-finds "upto"
    then flag-finds "signed"
    then tt)

memory-finds : Finds Any (options memory_option_forms)
unfolding memory_option_forms
memory-finds = options-finds memory_option_forms (numbered-finds "width" then numbered-finds "size" then numbered-finds "offset" then tt)

sort-finds : Finds Any sort
unfolding sort
sort-finds =
    either-finds Any (is_word "signed") _ _ (give-finds Any _ tt) (either-finds Any (is_word "real") _ _ (give-finds Any _ tt) (give-finds Any _ tt))

-- ---- compare values

end-finds : {A : Type 0} (P : A → Type 0) (Q : Option A → Type 0) (p : Parse A) → Q none → ((a : A) → P a → Q (some a)) → Finds P p → Finds Q (or_end p)
unfolding or_end
end-finds P Q p n h k [] t = gives n t
end-finds P Q p n h k (x ∷ xs) t = one-finds P Q some p h k (x ∷ xs) t

compare-finds : Finds Any compare
unfolding compare
compare-finds =
    two-finds Any Any Any _ sigspec _ (λ a x b y. tt) sigspec-finds
    (several-finds Any (is_mark ",") _ (either-finds Any (is_mark ",") sigspec nowhere sigspec-finds (nowhere-finds Any)))

-- ---- statements

-- legal names, strings without byte 0; one of these kinds, and one of these steps with the signals that it has
pub record FineShape (ks : List Kind) (ps : List Step) (sh : Shape) : Type 0 where
  pub names : all legal (contents sh).names ≡ true
  pub constants : all fine_literal (contents sh).constants ≡ true
  pub stands : among ks sh ≡ true
  pub steps : all (λ p. any (same_step p) ps) (contents sh).steps ≡ true
  pub arities : all (λ p. arity p (length (contents sh).signals)) (contents sh).steps ≡ true

abbrev RawOption : Option Literal → Type 0
RawOption c = all fine_literal (Option-to_list c) ≡ true

raw-finds : Finds RawOption (or_end const)
unfolding Option-to_list all
raw-finds = end-finds Raw RawOption const refl (λ c h. all_one fine_literal c h) const-finds

module _ (ks : List Kind) (ps : List Step) where
  -- a kind is one of these, and a step
  abbrev Stands : Kind → Type 0
  Stands k = any (λ l. eqb (code l) (code k)) ks ≡ true

  abbrev Goes : Step → Type 0
  Goes p = any (same_step p) ps ≡ true

  abbrev Good : Shape → Type 0
  Good sh = FineShape ks ps sh

  -- one that is no step
  module _ (sh : Shape) (s : among ks sh ≡ true) (e : (contents sh).steps ≡ []) where
    plain : all legal (contents sh).names ≡ true → all fine_literal (contents sh).constants ≡ true → Good sh
    unfolding all
    plain n c = record { names = n; constants = c; stands = s; steps = rw e; arities = rw e }

    named : (n : Name) → (contents sh).names ≡ n ∷ [] → (contents sh).constants ≡ [] → legal n ≡ true → Good sh
    unfolding all
    named n i k h = plain (rw i (all_one legal n h)) (rw k)

    set : (n : Name) (c : Literal) → (contents sh).names ≡ n ∷ [] → (contents sh).constants ≡ c ∷ [] → legal n ≡ true → fine_literal c ≡ true → Good sh
    set n c i k h l = plain (rw i (all_one legal n h)) (rw k (all_one fine_literal c l))

    bare : (contents sh).names ≡ [] → (contents sh).constants ≡ [] → Good sh
    unfolding all
    bare i k = plain (rw i) (rw k)

  attribute-finds : Stands an_attribute → Finds Good attribute_form.1
  unfolding attribute_form among statements_open
  attribute-finds s = two-finds Legal Raw Good attr-stmt id const (λ n h c k. set (attr-stmt n c) s refl n c refl refl h k) id-finds const-finds

  autoidx-finds : Stands an_autoidx → Finds Good autoidx_form.1
  unfolding autoidx_form among statements_open
  autoidx-finds s = one-finds Any Good autoidx-stmt int (λ i x. bare (autoidx-stmt i) s refl refl refl) int-finds

  top-finds : Stands an_attribute → Stands a_module → AllFind Good top_forms
  unfolding top_forms among statements_open
  top-finds a m = attribute-finds a then one-finds Legal Good module-stmt id (λ n h. named (module-stmt n) m refl n refl refl h) id-finds then tt

  object-finds : Stands an_attribute → Stands a_wire → Stands a_memory → Stands a_cell → Stands a_process → AllFind Good object_forms
  unfolding object_forms among statements_open all
  object-finds a w m c p =
      attribute-finds a
      then two-finds Any Legal Good wire-stmt (options wire_option_forms) id (λ os x n h. named (wire-stmt os n) w refl n refl refl h) wire-finds id-finds
      then two-finds Any Legal Good memory-stmt (options memory_option_forms) id (λ os x n h. named (memory-stmt os n) m refl n refl refl h) memory-finds id-finds
      then two-finds Legal Legal Good cell-stmt id id (λ t h n k. plain (cell-stmt t n) c refl (all_cons legal t (n ∷ []) h (all_one legal n k)) refl) id-finds id-finds
      then one-finds Legal Good proc-stmt id (λ n h. named (proc-stmt n) p refl n refl refl h) id-finds
      then tt

  body-finds : Stands a_parameter → Stands a_connection → Stands an_end → AllFind Good body_forms
  unfolding body_forms among statements_open
  body-finds p c e =
      two-finds Legal RawOption Good param-stmt id (or_end const) (λ n h c k. plain (param-stmt n c) p refl (all_one legal n h) k) id-finds raw-finds
      then two-finds Any Any Good conn-stmt sigspec sigspec (λ s x t y. bare (conn-stmt s t) c refl refl refl) sigspec-finds sigspec-finds
      then give-finds Good end-stmt (bare end-stmt e refl refl refl)
      then tt

  cell-finds : Stands a_cell_parameter → Stands a_cell_connection → Stands an_end → AllFind Good cell_forms
  unfolding cell_forms among statements_open
  cell-finds p c e =
      three-finds Any Legal Raw Good cell-param-stmt sort id const (λ o x n h c k. set (cell-param-stmt o n c) p refl n c refl refl h k) sort-finds id-finds const-finds
      then two-finds Legal Any Good cell-conn-stmt id sigspec (λ n h s x. named (cell-conn-stmt n s) c refl n refl refl h) id-finds sigspec-finds
      then give-finds Good end-stmt (bare end-stmt e refl refl refl)
      then tt

  -- ---- the lines of a process

  last-finds : Stands an_end → Finds Good end_form.1
  unfolding end_form among statements_open
  last-finds e = give-finds Good end-stmt (bare end-stmt e refl refl refl)

  module _ (s : Stands a_step) where
    step-good : (p : Step) (xs : List Sig) → Goes p → arity p (length xs) ≡ true → Good (step-stmt p xs)
    unfolding among statements_open all
    step-good p xs g h = record { names = refl; constants = refl; stands = s; steps = all_one (λ p. any (same_step p) ps) p g; arities = all_one (λ p. arity p (length xs)) p h }

    none-finds : (p : Step) → Goes p → arity p 0 ≡ true → Finds Good (of0 p)
    unfolding of0
    none-finds p g h = give-finds Good (step-stmt p []) (step-good p [] g h)

    signal-step : (p : Step) → Goes p → arity p 1 ≡ true → Finds Good (of1 p)
    unfolding of1
    signal-step p g h = one-finds Any Good (λ x. step-stmt p (x ∷ [])) sigspec (λ x a. step-good p (x ∷ []) g h) sigspec-finds

    signals-step : (p : Step) → Goes p → arity p 2 ≡ true → Finds Good (of2 p)
    unfolding of2
    signals-step p g h = two-finds Any Any Good (λ x y. step-stmt p (x ∷ y ∷ [])) sigspec sigspec (λ x a y b. step-good p (x ∷ y ∷ []) g h) sigspec-finds sigspec-finds

    assign-finds : Goes assign → Finds Good assign_form.1
    unfolding assign_form arity
    assign-finds g = signals-step assign g refl

    update-finds : Goes update → Finds Good update_form.1
    unfolding update_form arity
    update-finds g = signals-step update g refl

    switch-finds : Goes switch → Finds Good switch_form.1
    unfolding switch_form arity
    switch-finds g = signal-step switch g refl

    case-finds : Goes case → Finds Good case_form.1
    unfolding case_form arity
    case-finds g =
        one-finds Any Good (λ xs. step-stmt case (compares xs)) (or_end compare) (λ xs a. step-good case (compares xs) g refl)
        (end-finds Any Any compare tt (λ a x. tt) compare-finds)

    sync-finds : all (λ p. any (same_step p) ps) syncs ≡ true → Finds Good sync_form.1
    unfolding sync_form sync_forms syncs arity
    sync-finds h = choice-finds Good sync_forms (each-sync (each_of Goes (λ p. any (same_step p) ps) (λ p g. g) syncs h))
      where
        each-sync : Each Goes syncs → AllFind Good sync_forms
        each-sync (l, (h, (p, (n, (e, (g, (i, (a, u)))))))) =
            signal-step low l refl
            then signal-step high h refl
            then signal-step posedge p refl
            then signal-step negedge n refl
            then signal-step edge e refl
            then none-finds global g refl
            then none-finds init i refl
            then none-finds always a refl
            then tt

-- in a case, by whether another switch may be opened there
nested-find : (b : Bool) → AllFind (FineShape (an_attribute ∷ a_step ∷ []) (cond b (switch ∷ case ∷ []) (case ∷ [])))
    (cond b (attribute_form ∷ switch_form ∷ case_form ∷ []) (attribute_form ∷ case_form ∷ []))
unfolding any same_step statements_open
nested-find true = attribute-finds _ _ refl then switch-finds _ _ refl refl then case-finds _ _ refl refl then tt
nested-find false = attribute-finds _ _ refl then case-finds _ _ refl refl then tt

nested-plain : (b : Bool) → AllFind (FineShape (an_attribute ∷ a_step ∷ an_end ∷ []) (cond b (switch ∷ case ∷ []) (case ∷ []) ++ assign ∷ []))
    (cond b (attribute_form ∷ switch_form ∷ case_form ∷ []) (attribute_form ∷ case_form ∷ []) ++ assign_form ∷ end_form ∷ [])
unfolding any same_step statements_open
nested-plain true =
    attribute-finds _ _ refl then switch-finds _ _ refl refl then case-finds _ _ refl refl then assign-finds _ _ refl refl then last-finds _ _ refl then tt
nested-plain false = attribute-finds _ _ refl then case-finds _ _ refl refl then assign-finds _ _ refl refl then last-finds _ _ refl then tt

-- the kinds and the steps that stand in a place are those of its forms
forms-find : (z : Scope) (first attributed : Bool) → AllFind (FineShape (kinds z first attributed) (steps_in z attributed)) (forms z first attributed)
unfolding forms nested_forms kinds steps_in syncs nested_steps same_step any all statements_open
forms-find top true attributed = autoidx-finds _ _ refl then top-finds _ _ refl refl
forms-find top false attributed = top-finds _ _ refl refl
forms-find in_module first true = object-finds _ _ refl refl refl refl refl
forms-find in_module first false = each_append _ body_forms object_forms (body-finds _ _ refl refl refl) (object-finds _ _ refl refl refl refl refl)
forms-find in_cell first attributed = cell-finds _ _ refl refl refl
forms-find in_process first true = attribute-finds _ _ refl then switch-finds _ _ refl refl then tt
forms-find in_process first false =
    attribute-finds _ _ refl then switch-finds _ _ refl refl then assign-finds _ _ refl refl then sync-finds _ _ refl refl then last-finds _ _ refl then tt
forms-find in_tail first attributed = assign-finds _ _ refl refl then sync-finds _ _ refl refl then last-finds _ _ refl then tt
forms-find in_sync first attributed = update-finds _ _ refl refl then sync-finds _ _ refl refl then last-finds _ _ refl then tt
forms-find (in_switch k) first true = attribute-finds _ _ refl then case-finds _ _ refl refl then tt
forms-find (in_switch k) first false = attribute-finds _ _ refl then case-finds _ _ refl refl then last-finds _ _ refl then tt
forms-find (in_case k) first true = nested-find (ltb (k + 1) most_switches)
forms-find (in_case k) first false = nested-plain (ltb (k + 1) most_switches)

module _ (ks : List Kind) (ps : List Step) where
  pub data FineShaped : Option Shape → Type 0 where
    no-shape : FineShaped none
    fine-shape : {sh : Shape} → FineShape ks ps sh → FineShaped (some sh)

  whole-fine : {o : Option (Shape × List Token)} → Gives (FineShape ks ps) o → FineShaped (whole o)
  unfolding whole whole_by
  whole-fine gives_none = no-shape
  whole-fine (gives {a = sh} {ts} h t) = by-rest ts
    where
      by-rest : (ts : List Token) → FineShaped (whole_by sh ts)
      by-rest [] = fine-shape h
      by-rest (t ∷ ts) = no-shape

pub shape-fine :
    (c : Context) (ts : List Token) → all fine_token ts ≡ true →
    FineShaped (kinds c.scope c.first c.attributed) (steps_in c.scope c.attributed) (shape c ts)
unfolding shape Fine
shape-fine c ts h = whole-fine _ _ (choice-finds (FineShape _ _) _ (forms-find c.scope c.first c.attributed) ts h)
