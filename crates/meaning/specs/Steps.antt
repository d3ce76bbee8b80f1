-- The tokens of a written step read as that step, where one of its word may stand.
-- Assumes nothing.
use Prim.Native.Nat.{ℕ, zero, suc, ◌+◌, ◌≤◌}
use Rattle.std.specs.Prelude.{◌≡◌, Bool, false, cond, eqb, ltb, length}
use Rattle.std.proofs.Math.Path.{refl, sym, ap}
use Rattle.std.proofs.Common.{◌∙◌, eqb-true}
use mathlib.Core.List.{List, [], ◌∷◌, ◌++◌, map, reverse, reverse_aux, reverse-reverse, append-nil, append_assoc}
use Rattle.std.proofs.Math.Option.{some}
use Rattle.std.proofs.Math.Bool.{true}
use native.Mathlib.Omega.{arith}
use Rattle.std.proofs.Math.ListN.{length-append}
use Rattle.rules.specs.Limits.{most_switches}
use Rattle.rules.specs.Bytes.{byte, any, bytes_open}
use Rattle.rules.specs.Tokens.{Token, mark}
use Rattle.rules.specs.Statements.{Sig, Signal, step-stmt, Step, assign, update, switch, case, low, high, posedge, negedge, edge, global, init, always, statements_open}
use Rattle.rules.specs.Shapes.{Parse, Form, Scope, top, in_module, in_cell, in_process, in_tail, in_sync, in_switch, in_case, is_word, is_mark, nowhere, after, give, of₁, of₂, either, choice, repeat, several, or_end, sigspec, compare, compares, of0, of1, of2, attribute_form, end_form, assign_form, switch_form, case_form, update_form, sync_forms, sync_form, forms, whole, whole_by, shapes_open}
use Rattle.rules.specs.Signals.{Wires}
use Rattle.rules.specs.Text.{sig, sig_tokens, word_token, step_tokens, between, list_tokens}
use Rattle.context.specs.Forms.{no}
use Rattle.admitted.specs.Admitted.{syncs, nested_steps, steps_in, same_step, arity}
use Rattle.meaning.specs.Sigs.{slices, sig-reads, sig-no-slice, sig-long}

-- what holds of each step holds of every step
pub by_word :
    (P : Step → Type 0) → P assign → P update → P switch → P case → P low → P high → P posedge → P negedge → P edge → P global → P init → P always → (p : Step) → P p
by_word P f₁ f₂ f₃ f₄ f₅ f₆ f₇ f₈ f₉ f₁₀ f₁₁ f₁₂ assign = f₁
by_word P f₁ f₂ f₃ f₄ f₅ f₆ f₇ f₈ f₉ f₁₀ f₁₁ f₁₂ update = f₂
by_word P f₁ f₂ f₃ f₄ f₅ f₆ f₇ f₈ f₉ f₁₀ f₁₁ f₁₂ switch = f₃
by_word P f₁ f₂ f₃ f₄ f₅ f₆ f₇ f₈ f₉ f₁₀ f₁₁ f₁₂ case = f₄
by_word P f₁ f₂ f₃ f₄ f₅ f₆ f₇ f₈ f₉ f₁₀ f₁₁ f₁₂ low = f₅
by_word P f₁ f₂ f₃ f₄ f₅ f₆ f₇ f₈ f₉ f₁₀ f₁₁ f₁₂ high = f₆
by_word P f₁ f₂ f₃ f₄ f₅ f₆ f₇ f₈ f₉ f₁₀ f₁₁ f₁₂ posedge = f₇
by_word P f₁ f₂ f₃ f₄ f₅ f₆ f₇ f₈ f₉ f₁₀ f₁₁ f₁₂ negedge = f₈
by_word P f₁ f₂ f₃ f₄ f₅ f₆ f₇ f₈ f₉ f₁₀ f₁₁ f₁₂ edge = f₉
by_word P f₁ f₂ f₃ f₄ f₅ f₆ f₇ f₈ f₉ f₁₀ f₁₁ f₁₂ global = f₁₀
by_word P f₁ f₂ f₃ f₄ f₅ f₆ f₇ f₈ f₉ f₁₀ f₁₁ f₁₂ init = f₁₁
by_word P f₁ f₂ f₃ f₄ f₅ f₆ f₇ f₈ f₉ f₁₀ f₁₁ f₁₂ always = f₁₂

-- ---- a list of as many as a step has

by-none : {A : Type 0} (P : List A → Type 0) → P [] → (xs : List A) → eqb (length xs) 0 ≡ true → P xs
by-none P f [] h = f
by-none P f (x ∷ xs) h = absurd (let e : suc (length xs) ≡ 0 = eqb-true (suc (length xs)) 0 h in omega arith)

by_one : {A : Type 0} (P : List A → Type 0) → ((x : A) → P (x ∷ [])) → (xs : List A) → eqb (length xs) 1 ≡ true → P xs
by_one P f [] h = absurd (let e : 0 ≡ 1 = eqb-true 0 1 h in omega arith)
by_one P f (x ∷ []) h = f x
by_one P f (x ∷ y ∷ xs) h = absurd (let e : suc (suc (length xs)) ≡ 1 = eqb-true (suc (suc (length xs))) 1 h in omega arith)

by_two : {A : Type 0} (P : List A → Type 0) → ((x y : A) → P (x ∷ y ∷ [])) → (xs : List A) → eqb (length xs) 2 ≡ true → P xs
by_two P f [] h = absurd (let e : 0 ≡ 2 = eqb-true 0 2 h in omega arith)
by_two P f (x ∷ []) h = absurd (let e : 1 ≡ 2 = eqb-true 1 2 h in omega arith)
by_two P f (x ∷ y ∷ []) h = f x y
by_two P f (x ∷ y ∷ z ∷ xs) h = absurd (let e : suc (suc (suc (length xs))) ≡ 2 = eqb-true (suc (suc (suc (length xs)))) 2 h in omega arith)

-- ---- signals one behind another

nothing-next : slices [] ≡ false
unfolding slices
nothing-next = refl

comma-next : (ts : List Token) → slices (mark (byte ",") ∷ ts) ≡ false
unfolding slices is_mark
comma-next ts = refl

-- a thing, where the line does not end
not_end : {A : Type 0} (p : Parse A) (ts : List Token) → 1 ≤ length ts → or_end p ts ≡ of₁ some p ts
unfolding or_end
not_end p [] h = absurd (omega arith)
not_end p (t ∷ ts) h = refl

list-one : (c : List Token) (s : Sig) → list_tokens c (s ∷ []) ≡ sig_tokens s
unfolding list_tokens
list-one c s = refl

list-more : (c : List Token) (s t : Sig) (ss : List Sig) → list_tokens c (s ∷ t ∷ ss) ≡ sig_tokens s ++ c ++ list_tokens c (t ∷ ss)
unfolding list_tokens
list-more c s t ss = refl

module _ (ws : Wires) where
  pub last-reads : (g : Signal) → sigspec (sig_tokens (sig ws g)) ≡ some (sig ws g, [])
  last-reads g = ap sigspec (sym (append-nil (sig_tokens (sig ws g)))) ∙ sig-reads ws g [] nothing-next

  pub last-no-slice : (g : Signal) → slices (sig_tokens (sig ws g)) ≡ false
  last-no-slice g = ap slices (sym (append-nil (sig_tokens (sig ws g)))) ∙ sig-no-slice ws g []

  one-reads : (p : Step) (g : Signal) → whole (of1 p (sig_tokens (sig ws g))) ≡ some (step-stmt p (sig ws g ∷ []))
  unfolding of1 of₁ after whole whole_by give
  one-reads p g = rw (last-reads g)

  two-read : (p : Step) (g h : Signal) → whole (of2 p (sig_tokens (sig ws g) ++ sig_tokens (sig ws h))) ≡ some (step-stmt p (sig ws g ∷ sig ws h ∷ []))
  unfolding of2 of₂ of₁ after whole whole_by give
  two-read p g h = rw (sig-reads ws g (sig_tokens (sig ws h)) (last-no-slice h), last-reads h)

  -- ---- compare values

  -- the values behind the first, each behind a comma
  unfoldable comma_tokens : List Signal → List Token
  comma_tokens [] = []
  comma_tokens (g ∷ gs) = mark (byte ",") ∷ sig_tokens (sig ws g) ++ comma_tokens gs

  abbrev values : List Signal → List Token
  values gs = list_tokens (mark (byte ",") ∷ []) (map (sig ws) gs)

  values-commas : (g : Signal) (gs : List Signal) → values (g ∷ gs) ≡ sig_tokens (sig ws g) ++ comma_tokens gs
  unfolding comma_tokens
  values-commas g [] = list-one _ (sig ws g) ∙ sym (append-nil (sig_tokens (sig ws g)))
  values-commas g (h ∷ gs) =
      list-more (mark (byte ",") ∷ []) (sig ws g) (sig ws h) (map (sig ws) gs)
      ∙ append_assoc (sig_tokens (sig ws g)) (mark (byte ",") ∷ []) (values (h ∷ gs))
      ∙ ap (λ (ts : List Token). sig_tokens (sig ws g) ++ mark (byte ",") ∷ ts) (values-commas h gs)

  commas-no-slice : (gs : List Signal) → slices (comma_tokens gs) ≡ false
  unfolding comma_tokens
  commas-no-slice [] = nothing-next
  commas-no-slice (g ∷ gs) = comma-next (sig_tokens (sig ws g) ++ comma_tokens gs)

  abbrev value : Parse Sig
  value = either (is_mark ",") sigspec nowhere

  commas-on : (k : ℕ) (as' : List Sig) (gs : List Signal) → length gs ≤ k → repeat (is_mark ",") value k as' (comma_tokens gs) ≡ some (reverse_aux (map (sig ws) gs) as', [])
  unfolding repeat comma_tokens either after is_mark bytes_open
  commas-on zero as' [] h = refl
  commas-on (suc k) as' [] h = refl
  commas-on zero as' (g ∷ gs) h = absurd (omega arith)
  commas-on (suc k) as' (g ∷ gs) h = rw (sig-reads ws g (comma_tokens gs) (commas-no-slice gs)) (commas-on k (sig ws g ∷ as') gs (omega arith))

  commas-long : (gs : List Signal) → length gs ≤ length (comma_tokens gs)
  unfolding comma_tokens
  commas-long [] = omega arith
  commas-long (g ∷ gs) = omega (arith, length-append (sig_tokens (sig ws g)) (comma_tokens gs), commas-long gs)

  commas-read : (gs : List Signal) → several (is_mark ",") value (comma_tokens gs) ≡ some (reverse (map (sig ws) gs), [])
  unfolding several
  commas-read gs = commas-on (length (comma_tokens gs)) [] gs (commas-long gs)

  values-read : (g : Signal) (gs : List Signal) → compare (values (g ∷ gs)) ≡ some (map (sig ws) (g ∷ gs), [])
  unfolding compare of₂ of₁ after give
  values-read g gs = rw (values-commas g gs, sig-reads ws g (comma_tokens gs) (commas-no-slice gs), commas-read gs, reverse-reverse (map (sig ws) gs))

  values-long : (g : Signal) (gs : List Signal) → 1 ≤ length (values (g ∷ gs))
  values-long g gs = omega (arith, ap length (values-commas g gs), length-append (sig_tokens (sig ws g)) (comma_tokens gs), sig-long ws g)

  case-reads : (gs : List Signal) → whole (case_form.1 (values gs)) ≡ some (step-stmt case (map (sig ws) gs))
  unfolding case_form or_end of₁ after give compares whole whole_by list_tokens
  case-reads [] = refl
  case-reads (g ∷ gs) = rw (not_end compare (values (g ∷ gs)) (values-long g gs), values-read g gs)

-- ---- behind a step's first word

-- the form that it announces, and the words behind it
unfoldable step_form : Step → Form
step_form p = by_word (λ p. Form) assign_form update_form switch_form case_form sync_form sync_form sync_form sync_form sync_form sync_form sync_form sync_form p

unfoldable more_words : Step → List Token
more_words p =
    by_word (λ p. List Token) [] [] [] [] (word_token "low" ∷ []) (word_token "high" ∷ []) (word_token "posedge" ∷ []) (word_token "negedge" ∷ []) (word_token "edge" ∷ [])
    (word_token "global" ∷ []) (word_token "init" ∷ []) (word_token "always" ∷ []) p

module _ (ws : Wires) where
  abbrev Reads : Step → List Signal → Type 0
  Reads p gs = whole ((step_form p).1 (more_words p ++ list_tokens (between p) (map (sig ws) gs))) ≡ some (step-stmt p (map (sig ws) gs))

  two-listed : (p : Step) (g h : Signal) → whole (of2 p (list_tokens [] (sig ws g ∷ sig ws h ∷ []))) ≡ some (step-stmt p (sig ws g ∷ sig ws h ∷ []))
  unfolding list_tokens
  two-listed p g h = rw (append-nil (sig_tokens (sig ws g))) (two-read ws p g h)

  one-listed : (p : Step) (g : Signal) → whole (of1 p (list_tokens [] (sig ws g ∷ []))) ≡ some (step-stmt p (sig ws g ∷ []))
  unfolding list_tokens
  one-listed p g = one-reads ws p g

  none-listed : (p : Step) → whole (of0 p (list_tokens [] [])) ≡ some (step-stmt p [])
  unfolding list_tokens of0 give whole whole_by
  none-listed p = refl

  form-reads : (p : Step) (gs : List Signal) → arity p (length gs) ≡ true → Reads p gs
  unfolding step_form more_words assign_form update_form switch_form sync_form sync_forms choice either is_word word_token bytes_open between arity by_word of2
  form-reads =
      by_word (λ p. (gs : List Signal) → arity p (length gs) ≡ true → Reads p gs) (by_two (Reads assign) (two-listed assign)) (by_two (Reads update) (two-listed update))
      (by_one (Reads switch) (one-listed switch)) (λ gs h. case-reads ws gs) (by_one (Reads low) (one-listed low)) (by_one (Reads high) (one-listed high))
      (by_one (Reads posedge) (one-listed posedge)) (by_one (Reads negedge) (one-listed negedge)) (by_one (Reads edge) (one-listed edge))
      (by-none (Reads global) (none-listed global)) (by-none (Reads init) (none-listed init)) (by-none (Reads always) (none-listed always))

-- ---- a step where its word may stand

abbrev Announced : List Form → Step → Type 0
Announced fs p = (ts : List Token) → choice fs (step_tokens p ++ ts) ≡ (step_form p).1 (more_words p ++ ts)

-- in a case, by whether another switch may be opened there; behind attributes, and without
nested : (b : Bool) (p : Step) → any (same_step p) (cond b (switch ∷ case ∷ []) (case ∷ [])) ≡ true
    → Announced (cond b (attribute_form ∷ switch_form ∷ case_form ∷ []) (attribute_form ∷ case_form ∷ [])) p
unfolding bytes_open statements_open shapes_open same_step any step_form more_words step_tokens word_token by_word
nested true = by_word _ no no (λ h ts. refl) (λ h ts. refl) no no no no no no no no
nested false = by_word _ no no no (λ h ts. refl) no no no no no no no no

nested-plain : (b : Bool) (p : Step) → any (same_step p) (cond b (switch ∷ case ∷ []) (case ∷ []) ++ assign ∷ []) ≡ true
    → Announced (cond b (attribute_form ∷ switch_form ∷ case_form ∷ []) (attribute_form ∷ case_form ∷ []) ++ assign_form ∷ end_form ∷ []) p
unfolding bytes_open statements_open shapes_open same_step any step_form more_words step_tokens word_token by_word
nested-plain true = by_word _ (λ h ts. refl) no (λ h ts. refl) (λ h ts. refl) no no no no no no no no
nested-plain false = by_word _ (λ h ts. refl) no no (λ h ts. refl) no no no no no no no no

announced : (z : Scope) (f a : Bool) (p : Step) → any (same_step p) (steps_in z a) ≡ true → Announced (forms z f a) p
unfolding bytes_open statements_open shapes_open steps_in syncs same_step any step_form more_words step_tokens word_token by_word nested_steps
announced top f a = λ p. no
announced in_module f a = λ p. no
announced in_cell f a = λ p. no
announced in_process f true = by_word _ no no (λ h ts. refl) no no no no no no no no no
announced in_process f false =
    by_word _ (λ h ts. refl) no (λ h ts. refl) no (λ h ts. refl) (λ h ts. refl) (λ h ts. refl) (λ h ts. refl) (λ h ts. refl) (λ h ts. refl) (λ h ts. refl) (λ h ts. refl)
announced in_tail f a =
    by_word _ (λ h ts. refl) no no no (λ h ts. refl) (λ h ts. refl) (λ h ts. refl) (λ h ts. refl) (λ h ts. refl) (λ h ts. refl) (λ h ts. refl) (λ h ts. refl)
announced in_sync f a =
    by_word _ no (λ h ts. refl) no no (λ h ts. refl) (λ h ts. refl) (λ h ts. refl) (λ h ts. refl) (λ h ts. refl) (λ h ts. refl) (λ h ts. refl) (λ h ts. refl)
announced (in_switch k) f true = by_word _ no no no (λ h ts. refl) no no no no no no no no
announced (in_switch k) f false = by_word _ no no no (λ h ts. refl) no no no no no no no no
announced (in_case k) f true = nested (ltb (k + 1) most_switches)
announced (in_case k) f false = nested-plain (ltb (k + 1) most_switches)

pub step-reads :
    (z : Scope) (f a : Bool) (ws : Wires) (p : Step) (gs : List Signal) → any (same_step p) (steps_in z a) ≡ true → arity p (length gs) ≡ true →
    whole (choice (forms z f a) (step_tokens p ++ list_tokens (between p) (map (sig ws) gs))) ≡ some (step-stmt p (map (sig ws) gs))
step-reads z f a ws p gs h k = rw (announced z f a p h (list_tokens (between p) (map (sig ws) gs))) (form-reads ws p gs k)
