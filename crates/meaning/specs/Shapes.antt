-- The tokens of a written statement have its shape, where a line of its kind may stand.
-- Assumes nothing.
use Rattle.std.specs.Prelude.{ℕ, ◌+◌, ◌≡◌, Bool, cond, ◌||◌, eqb, ltb, length}
use Rattle.std.proofs.Math.Path.{refl}
use mathlib.Core.List.{List, [], ◌∷◌, ◌++◌, map, Option-to_list}
use Rattle.std.proofs.Math.Option
use Rattle.std.proofs.Math.Option.{Option, none, some}
use Rattle.std.proofs.Math.Bool.{true, false}
use Rattle.rules.specs.Limits.{most_switches}
use Rattle.rules.specs.Bytes.{any, all, bytes_open}
use Rattle.rules.specs.Tokens.{Name, Literal, name, literal}
use Rattle.rules.specs.Statements.{Sort, plain, signed, real, Constant, Signal, Wire, Memory, Statement, attribute_kind, step_kind, end_kind, code, contents, Step, attr-stmt, param-stmt, wire-stmt, memory-stmt, cell-param-stmt, cell-conn-stmt, conn-stmt, step-stmt, end-stmt, statements_open}
use Rattle.rules.specs.Shapes.{Scope, top, in_module, in_cell, in_process, in_tail, in_sync, in_switch, in_case, Context, one, of₁, of₂, of₃, after, is_id, give, id, const, sort, or_end, options, wire_option_forms, memory_option_forms, sigspec, attribute_form, switch_form, case_form, assign_form, end_form, forms, choice, whole, whole_by, shape, shapes_open}
use Rattle.rules.specs.Signals.{Wires}
use Rattle.rules.specs.Judgement.{among}
use Rattle.rules.specs.Text.{sig, literal_of, wire_options, memory_options, written, sig_tokens, option_tokens, sort_tokens, word_token, number_token, shape_tokens}
use Rattle.lists.specs.Elements.{all_first}
use Rattle.context.specs.Forms.{by_form, no}
use Rattle.admitted.specs.Admitted.{kinds, steps_in, same_step, stands_in, arity}
use Rattle.admitted.specs.CountLaws.{among-test, stands-kind, stands-step}
use Rattle.meaning.specs.Options.{options-read, wire-options-read, memory-options-read}
use Rattle.meaning.specs.Sigs.{sig-reads}
use Rattle.meaning.specs.Steps.{last-reads, last-no-slice, step-reads}

-- ---- behind the first word

param-reads : (n : Name) (c : Option Constant) → whole (of₂ param-stmt id (or_end const) (name n ∷ map literal (Option-to_list (Option.map literal_of c)))) ≡ some (param-stmt n (Option.map literal_of c))
unfolding shapes_open Option-to_list
param-reads n none = refl
param-reads n (some c) = refl

wire-reads : (w : Wire) (n : Name) → whole (of₂ wire-stmt (options wire_option_forms) id (option_tokens (wire_options w) ++ name n ∷ [])) ≡ some (wire-stmt (wire_options w) n)
unfolding of₂ of₁ after whole whole_by give id one is_id
wire-reads w n = rw (options-read wire_option_forms (wire_options w) n [] (wire-options-read w))

memory-reads : (m : Memory) (n : Name) → whole (of₂ memory-stmt (options memory_option_forms) id (option_tokens (memory_options m) ++ name n ∷ [])) ≡ some (memory-stmt (memory_options m) n)
unfolding of₂ of₁ after whole whole_by give id one is_id
memory-reads m n = rw (options-read memory_option_forms (memory_options m) n [] (memory-options-read m))

cell-param-reads : (o : Sort) (n : Name) (c : Constant) → whole (of₃ cell-param-stmt sort id const (sort_tokens o ++ name n ∷ literal (literal_of c) ∷ [])) ≡ some (cell-param-stmt o n (literal_of c))
unfolding shapes_open sort_tokens word_token bytes_open
cell-param-reads plain n c = refl
cell-param-reads signed n c = refl
cell-param-reads real n c = refl

module _ (ws : Wires) where
  cell-conn-reads : (n : Name) (g : Signal) → whole (of₂ cell-conn-stmt id sigspec (name n ∷ sig_tokens (sig ws g))) ≡ some (cell-conn-stmt n (sig ws g))
  unfolding of₂ of₁ after whole whole_by give id one is_id
  cell-conn-reads n g = rw (last-reads ws g)

  conn-reads : (g h : Signal) → whole (of₂ conn-stmt sigspec sigspec (sig_tokens (sig ws g) ++ sig_tokens (sig ws h))) ≡ some (conn-stmt (sig ws g) (sig ws h))
  unfolding of₂ of₁ after whole whole_by give
  conn-reads g h = rw (sig-reads ws g (sig_tokens (sig ws h)) (last-no-slice ws h), last-reads ws h)

-- ---- a line where one of its kind may stand

-- by the code of its kind: an attribute, a step or an end
unfoldable of_process : ℕ → Bool
of_process n = eqb n attribute_kind || eqb n step_kind || eqb n end_kind

by-few : (P : Statement → Type 0) → ((n : Name) (c : Constant) → P (attr-stmt n c)) → ((p : Step) (gs : List Signal) → P (step-stmt p gs)) → P end-stmt
    → (s : Statement) → of_process (code (contents s).kind) ≡ true → P s
unfolding of_process statements_open
by-few P f g e =
    by_form (λ s. of_process (code (contents s).kind) ≡ true → P s) (λ i. no) (λ n c h. f n c) (λ n. no) (λ n c. no) (λ w n. no) (λ m n. no)
    (λ t n. no) (λ o n c. no) (λ n x. no) (λ x y. no) (λ n. no) (λ p gs h. g p gs) (λ h. e)

module _ (ws : Wires) where
  -- it reads as itself, if it stands there and each step in it has its signals
  abbrev ReadAt : Scope → (first attributed : Bool) → Statement → Type 0
  ReadAt z f a s =
      stands_in z f a s ≡ true → all (λ p. arity p (length (contents s).signals)) (contents s).steps ≡ true →
      whole (choice (forms z f a) (shape_tokens (written ws s))) ≡ some (written ws s)

  step-at : (z : Scope) (f a : Bool) (p : Step) (gs : List Signal) → ReadAt z f a (step-stmt p gs)
  unfolding stands_in statements_open written shape_tokens
  step-at z f a p gs h k =
      step-reads z f a ws p gs (all_first (λ p. any (same_step p) (steps_in z a)) p [] (stands-step z f a (step-stmt p gs) h)) (all_first (λ p. arity p (length gs)) p [] k)

  -- in a process stand attributes, steps and ends
  in-process : (z : Scope) (f a : Bool) → all (λ k. of_process (code k)) (kinds z f a) ≡ true → ((n : Name) (c : Constant) → ReadAt z f a (attr-stmt n c)) → ReadAt z f a end-stmt
      → (s : Statement) → ReadAt z f a s
  in-process z f a t g e s h k = by-few (ReadAt z f a) g (step-at z f a) e s (among-test of_process (kinds z f a) s t (stands-kind z f a s h)) h k

  -- in a case, by whether another switch may be opened there
  nested-attribute : (b : Bool) (n : Name) (c : Literal) → let fs = cond b (attribute_form ∷ switch_form ∷ case_form ∷ []) (attribute_form ∷ case_form ∷ []) in
      (whole (choice fs (word_token "attribute" ∷ name n ∷ literal c ∷ [])) ≡ some (attr-stmt n c))
      × (whole (choice (fs ++ assign_form ∷ end_form ∷ []) (word_token "attribute" ∷ name n ∷ literal c ∷ [])) ≡ some (attr-stmt n c))
  unfolding bytes_open shapes_open word_token
  nested-attribute true n c = (refl, refl)
  nested-attribute false n c = (refl, refl)

  nested-end : (b : Bool) → whole (choice (cond b (attribute_form ∷ switch_form ∷ case_form ∷ []) (attribute_form ∷ case_form ∷ []) ++ assign_form ∷ end_form ∷ []) (word_token "end" ∷ [])) ≡ some end-stmt
  unfolding bytes_open shapes_open word_token
  nested-end true = refl
  nested-end false = refl

  at_place : (z : Scope) (f a : Bool) (s : Statement) → ReadAt z f a s
  unfolding bytes_open statements_open shapes_open stands_in kinds among all written shape_tokens word_token number_token of_process
  at_place top true a =
      by_form _ (λ i h k. refl) (λ n c h k. refl) (λ n h k. refl) (λ n c h. no h) (λ w n h. no h) (λ m n h. no h)
      (λ t n h. no h) (λ o n c h. no h) (λ n x h. no h) (λ x y h. no h) (λ n h. no h) (step-at top true a) (λ h. no h)
  at_place top false a =
      by_form _ (λ i h. no h) (λ n c h k. refl) (λ n h k. refl) (λ n c h. no h) (λ w n h. no h) (λ m n h. no h)
      (λ t n h. no h) (λ o n c h. no h) (λ n x h. no h) (λ x y h. no h) (λ n h. no h) (step-at top false a) (λ h. no h)
  at_place in_module f true =
      by_form _ (λ i h. no h) (λ n c h k. refl) (λ n h. no h) (λ n c h. no h) (λ w n h k. wire-reads w n) (λ m n h k. memory-reads m n)
      (λ t n h k. refl) (λ o n c h. no h) (λ n x h. no h) (λ x y h. no h) (λ n h k. refl) (step-at in_module f true) (λ h. no h)
  at_place in_module f false =
      by_form _ (λ i h. no h) (λ n c h k. refl) (λ n h. no h) (λ n c h k. param-reads n c) (λ w n h k. wire-reads w n) (λ m n h k. memory-reads m n)
      (λ t n h k. refl) (λ o n c h. no h) (λ n x h. no h) (λ x y h k. conn-reads ws x y) (λ n h k. refl) (step-at in_module f false) (λ h k. refl)
  at_place in_cell f a =
      by_form _ (λ i h. no h) (λ n c h. no h) (λ n h. no h) (λ n c h. no h) (λ w n h. no h) (λ m n h. no h)
      (λ t n h. no h) (λ o n c h k. cell-param-reads o n c) (λ n x h k. cell-conn-reads ws n x) (λ x y h. no h) (λ n h. no h) (step-at in_cell f a) (λ h k. refl)
  at_place in_process f true = in-process in_process f true refl (λ n c h k. refl) (λ h. no h)
  at_place in_process f false = in-process in_process f false refl (λ n c h k. refl) (λ h k. refl)
  at_place in_tail f a = in-process in_tail f a refl (λ n c h. no h) (λ h k. refl)
  at_place in_sync f a = in-process in_sync f a refl (λ n c h. no h) (λ h k. refl)
  at_place (in_switch k) f true = in-process (in_switch k) f true refl (λ n c h k. refl) (λ h. no h)
  at_place (in_switch k) f false = in-process (in_switch k) f false refl (λ n c h k. refl) (λ h k. refl)
  at_place (in_case k) f true = in-process (in_case k) f true refl (λ n c h e. (nested-attribute (ltb (k + 1) most_switches) n (literal_of c)).0) (λ h. no h)
  at_place (in_case k) f false = in-process (in_case k) f false refl (λ n c h e. (nested-attribute (ltb (k + 1) most_switches) n (literal_of c)).1) (λ h e. nested-end (ltb (k + 1) most_switches))

pub shape-written :
    (c : Context) (ws : Wires) (s : Statement) → stands_in c.scope c.first c.attributed s ≡ true →
    all (λ p. arity p (length (contents s).signals)) (contents s).steps ≡ true → shape c (shape_tokens (written ws s)) ≡ some (written ws s)
unfolding shape
shape-written c ws s h k = at_place ws c.scope c.first c.attributed s h k
