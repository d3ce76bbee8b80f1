-- The tokens of a written statement can be written, if its parts keep the rules and the wires have legal names.
-- Assumes nothing.
use Rattle.std.specs.Prelude.{◌≡◌, Bool, true, cond, ℕ, ◌+◌, ◌-◌, eqb, ℤ, pos, length, drop}
use Rattle.std.proofs.Math.Path.{refl}
use Rattle.std.proofs.Common.{◌∙◌}
use mathlib.Core.List.{List, [], ◌∷◌, ◌++◌, map, Option-to_list}
use Rattle.std.proofs.Math.Option
use Rattle.std.proofs.Math.Option.{Option, none, some}
use Prim.Native.String.{String}
use Rattle.rules.specs.Bytes.{bytes, all, legal, bytes_open}
use Rattle.rules.specs.Tokens.{Name, Token, name, word, literal, mark, keywords, is_keyword}
use Rattle.rules.specs.Statements.{Sig, wire, slice, bundle, nothing, Opt, Sort, Constant, Signal, Direction, input, output, inout, Wire, Memory, Statement, autoidx-stmt, attr-stmt, module-stmt, param-stmt, wire-stmt, memory-stmt, cell-stmt, cell-param-stmt, cell-conn-stmt, conn-stmt, proc-stmt, step-stmt, end-stmt, Step, contents, holds, translate}
use Rattle.rules.specs.Shapes.{sigs}
use Rattle.rules.specs.Signals.{Wires}
use Rattle.rules.specs.Text.{Run, digits, span, runs, cut, run_sig, runs_sig, sig, literal_of, setting, direction_word, wire_options, memory_options, written, number_token, word_token, low_tokens, sig_tokens, sigs_tokens, option_tokens, sort_tokens, step_tokens, between, list_tokens, shape_tokens}
use Rattle.admitted.specs.Admitted.{fine_constant, fine_parts}
use Rattle.admitted.specs.AdmitLaws.{fine-parts}
use Rattle.lists.specs.Tests.{by_cond}
use Rattle.lists.specs.Elements.{Each, all_append, all_cons, all_first, all-later, all_drop, all_map, all-each}
use Rattle.meaning.specs.Options.{wire-each, memory-each}
use Rattle.meaning.specs.Steps.{by_word}
use Rattle.written.specs.TokenLaws.{fine_literal, fine_token, Fine}

-- the wires' names are legal
unfoldable pub legal_names : Wires → Bool
legal_names ws = all (λ w. legal w.0) ws

more-fine : (t : Token) (ts : List Token) → fine_token t ≡ true → Fine ts → Fine (t ∷ ts)
unfolding Fine
more-fine t ts h f = all_cons fine_token t ts h f

number-fine : (i : ℤ) (ts : List Token) → Fine ts → Fine (number_token i ∷ ts)
unfolding fine_token fine_literal number_token
number-fine i ts f = more-fine (number_token i) ts refl f

none-fine : Fine []
unfolding Fine all
none-fine = refl

append-fine : (ts us : List Token) → Fine ts → Fine us → Fine (ts ++ us)
unfolding Fine
append-fine ts us f g = all_append fine_token ts us f g

-- ---- signals

low-fine : (l : Option ℤ) → Fine (low_tokens l)
unfolding low_tokens bytes_open fine_token
low-fine none = none-fine
low-fine (some l) = more-fine (mark 58) (number_token l ∷ []) refl (number-fine l [] none-fine)

unfoldable fine_sig : Sig → Bool
fine_sig s = all fine_token (sig_tokens s)

slice-fine : (s : Sig) (h : ℤ) (l : Option ℤ) → fine_sig s ≡ true → fine_sig (slice s h l) ≡ true
unfolding Fine fine_sig sig_tokens bytes_open fine_token
slice-fine s h l f =
    append-fine (sig_tokens s ++ mark 91 ∷ number_token h ∷ low_tokens l) (mark 93 ∷ [])
    (append-fine (sig_tokens s) (mark 91 ∷ number_token h ∷ low_tokens l) f
    (more-fine (mark 91) (number_token h ∷ low_tokens l) refl (number-fine h (low_tokens l) (low-fine l))))
    (more-fine (mark 93) [] refl none-fine)

wire-fine : (n : Name) → legal n ≡ true → fine_sig (wire n) ≡ true
unfolding Fine fine_sig sig_tokens fine_token
wire-fine n h = more-fine (name n) [] h none-fine

sigs-fine : (ss : List Sig) → all fine_sig ss ≡ true → Fine (sigs_tokens (sigs ss))
unfolding Fine fine_sig sig_tokens sigs
sigs-fine [] f = none-fine
sigs-fine (s ∷ ss) f = append-fine (sigs_tokens (sigs ss)) (sig_tokens s) (sigs-fine ss (all-later fine_sig s ss f)) (all_first fine_sig s ss f)

bundle-fine : (ss : List Sig) → all fine_sig ss ≡ true → fine_sig (bundle (sigs ss)) ≡ true
unfolding Fine fine_sig sig_tokens bytes_open fine_token
bundle-fine ss f =
    append-fine (mark 123 ∷ sigs_tokens (sigs ss)) (mark 125 ∷ [])
    (more-fine (mark 123) (sigs_tokens (sigs ss)) refl (sigs-fine ss f))
    (more-fine (mark 125) [] refl none-fine)

nothing-fine : fine_sig (bundle nothing) ≡ true
unfolding sigs all
nothing-fine = bundle-fine [] refl

cut-fine : (ws : Wires) (l n : ℕ) → legal_names ws ≡ true → fine_sig (cut ws l n) ≡ true
unfolding cut legal_names
cut-fine [] l n h = nothing-fine
cut-fine (w ∷ ws) l n h =
    let k : fine_sig (wire w.0) ≡ true = wire-fine w.0 (all_first (λ (v : Name × Wire). legal v.0) w ws h) in
    by_cond (λ (s : Sig). fine_sig s ≡ true) (eqb n w.1.width)
    (λ e. k)
    (λ e. slice-fine (wire w.0) (pos (l + n - 1)) (cond (eqb n 1) none (some (pos l))) k)

runs_sig-fine : (ss : List Sig) → all fine_sig ss ≡ true → fine_sig (runs_sig ss) ≡ true
unfolding runs_sig
runs_sig-fine [] f = nothing-fine
runs_sig-fine (s ∷ []) f = all_first fine_sig s [] f
runs_sig-fine (s ∷ t ∷ ss) f = bundle-fine (s ∷ t ∷ ss) f

names-drop : (n : ℕ) (ws : Wires) → legal_names ws ≡ true → legal_names (drop n ws) ≡ true
unfolding legal_names
names-drop n ws h = all_drop (λ (w : Name × Wire). legal w.0) n ws h

module _ (ws : Wires) (h : legal_names ws ≡ true) where
  run-fine : (r : Run) → fine_sig (run_sig ws r) ≡ true
  unfolding Fine run_sig fine_sig sig_tokens fine_literal fine_token
  run-fine (digits ds) = more-fine (literal _) [] refl none-fine
  run-fine (span n l k) = cut-fine (drop (length ws - (n + 1)) ws) l k (names-drop (length ws - (n + 1)) ws h)

  sig-fine : (bs : Signal) → Fine (sig_tokens (sig ws bs))
  unfolding Fine sig fine_sig
  sig-fine bs = runs_sig-fine (map (run_sig ws) (runs bs)) (all_map fine_sig (run_sig ws) (runs bs) ∙ all-each (λ r. fine_sig (run_sig ws r)) run-fine (runs bs))

-- ---- options

abbrev KeywordFirst : Opt → Type 0
KeywordFirst o = is_keyword o.0 ≡ true

numbers-fine : (x : Option ℤ) → Fine (map number_token (Option-to_list x))
unfolding Option-to_list
numbers-fine none = none-fine
numbers-fine (some i) = number-fine i [] none-fine

options-fine : (os : List Opt) → Each KeywordFirst os → Fine (option_tokens os)
unfolding option_tokens fine_token
options-fine [] f = none-fine
options-fine (o ∷ os) f =
    append-fine (option_tokens os) (word o.0 ∷ map number_token (Option-to_list o.1)) (options-fine os f.1)
    (more-fine (word o.0) (map number_token (Option-to_list o.1)) f.0 (numbers-fine o.1))

port-word : (d : Direction) → is_keyword (bytes (direction_word d)) ≡ true
unfolding direction_word is_keyword keywords bytes_open
port-word input = refl
port-word output = refl
port-word inout = refl

wire-options : (w : Wire) → Each KeywordFirst (wire_options w)
unfolding setting is_keyword keywords bytes_open
wire-options w = wire-each KeywordFirst w refl (λ q e. port-word q.0) refl refl refl

memory-options : (m : Memory) → Each KeywordFirst (memory_options m)
unfolding setting is_keyword keywords bytes_open
memory-options m = memory-each KeywordFirst m refl refl refl

-- ---- statements

sort-fine : (o : Sort) → Fine (sort_tokens o)
unfolding sort_tokens word_token is_keyword keywords bytes_open fine_token
sort-fine Sort.plain = none-fine
sort-fine Sort.signed = more-fine (word (bytes "signed")) [] refl none-fine
sort-fine Sort.real = more-fine (word (bytes "real")) [] refl none-fine

constant-fine : (c : Constant) → fine_constant c ≡ true → fine_literal (literal_of c) ≡ true
unfolding fine_constant fine_literal literal_of
constant-fine (Constant.value ds) h = refl
constant-fine (Constant.integer i) h = refl
constant-fine (Constant.string s) h = h

constants-fine : (x : Option Constant) → all fine_constant (Option-to_list x) ≡ true → Fine (map literal (Option-to_list (Option.map literal_of x)))
unfolding Option-to_list fine_token
constants-fine none h = none-fine
constants-fine (some c) h = more-fine (literal (literal_of c)) [] (constant-fine c (all_first fine_constant c [] h)) none-fine

first_fine : (w : String) → is_keyword (bytes w) ≡ true → (ts : List Token) → Fine ts → Fine (word_token w ∷ ts)
unfolding word_token fine_token
first_fine w h ts f = more-fine (word (bytes w)) ts h f

named-fine : (w : String) → is_keyword (bytes w) ≡ true → (os : List Token) (n : Name) → Fine os → legal n ≡ true → Fine ((word_token w ∷ os) ++ name n ∷ [])
unfolding fine_token
named-fine w h os n f g = append-fine (word_token w ∷ os) (name n ∷ []) (first_fine w h os f) (more-fine (name n) [] g none-fine)

-- the words of a step, and what stands between its signals
step-fine : (p : Step) → Fine (step_tokens p)
unfolding step_tokens is_keyword keywords bytes_open
step-fine =
    by_word _ (word-fine "assign" refl) (word-fine "update" refl) (word-fine "switch" refl) (word-fine "case" refl) (sync-fine "low" refl) (sync-fine "high" refl)
    (sync-fine "posedge" refl) (sync-fine "negedge" refl) (sync-fine "edge" refl) (sync-fine "global" refl) (sync-fine "init" refl) (sync-fine "always" refl)
  where
    word-fine : (w : String) → is_keyword (bytes w) ≡ true → Fine (word_token w ∷ [])
    word-fine w k = first_fine w k [] none-fine

    sync-fine : (w : String) → is_keyword (bytes w) ≡ true → Fine (word_token "sync" ∷ word_token w ∷ [])
    sync-fine w k = first_fine "sync" refl (word_token w ∷ []) (word-fine w k)

between-fine : (p : Step) → Fine (between p)
unfolding between bytes_open fine_token
between-fine =
    by_word _ none-fine none-fine none-fine (more-fine (mark 44) [] refl none-fine) none-fine none-fine none-fine none-fine none-fine none-fine none-fine none-fine

module _ (ws : Wires) (h : legal_names ws ≡ true) where
  list-fine : (c : List Token) → Fine c → (gs : List Signal) → Fine (list_tokens c (map (sig ws) gs))
  unfolding list_tokens
  list-fine c k [] = none-fine
  list-fine c k (g ∷ []) = sig-fine ws h g
  list-fine c k (g ∷ j ∷ gs) =
      append-fine (sig_tokens (sig ws g) ++ c) (list_tokens c (map (sig ws) (j ∷ gs))) (append-fine (sig_tokens (sig ws g)) c (sig-fine ws h g) k) (list-fine c k (j ∷ gs))

  parts-fine : (s : Statement) → all legal (contents s).names ≡ true → all fine_constant (contents s).constants ≡ true → Fine (shape_tokens (written ws s))
  unfolding contents holds written translate shape_tokens is_keyword keywords bytes_open fine_token
  parts-fine (autoidx-stmt i) n c = first_fine "autoidx" refl _ (number-fine i [] none-fine)
  parts-fine (attr-stmt m v) n c =
      first_fine "attribute" refl _ (more-fine (name m) _ (all_first legal m [] n) (more-fine (literal (literal_of v)) [] (constant-fine v (all_first fine_constant v [] c)) none-fine))
  parts-fine (module-stmt m) n c = first_fine "module" refl _ (more-fine (name m) [] (all_first legal m [] n) none-fine)
  parts-fine (param-stmt m v) n c = first_fine "parameter" refl _ (more-fine (name m) _ (all_first legal m [] n) (constants-fine v c))
  parts-fine (wire-stmt w m) n c = named-fine "wire" refl (option_tokens (wire_options w)) m (options-fine (wire_options w) (wire-options w)) (all_first legal m [] n)
  parts-fine (memory-stmt w m) n c = named-fine "memory" refl (option_tokens (memory_options w)) m (options-fine (memory_options w) (memory-options w)) (all_first legal m [] n)
  parts-fine (cell-stmt t m) n c =
      first_fine "cell" refl _ (more-fine (name t) _ (all_first legal t (m ∷ []) n) (more-fine (name m) [] (all_first legal m [] (all-later legal t (m ∷ []) n)) none-fine))
  parts-fine (cell-param-stmt o m v) n c =
      append-fine (word_token "parameter" ∷ sort_tokens o) (name m ∷ literal (literal_of v) ∷ [])
      (first_fine "parameter" refl (sort_tokens o) (sort-fine o))
      (more-fine (name m) _ (all_first legal m [] n) (more-fine (literal (literal_of v)) [] (constant-fine v (all_first fine_constant v [] c)) none-fine))
  parts-fine (cell-conn-stmt m b) n c = first_fine "connect" refl _ (more-fine (name m) (sig_tokens (sig ws b)) (all_first legal m [] n) (sig-fine ws h b))
  parts-fine (conn-stmt a b) n c =
      append-fine (word_token "connect" ∷ sig_tokens (sig ws a)) (sig_tokens (sig ws b))
      (first_fine "connect" refl (sig_tokens (sig ws a)) (sig-fine ws h a))
      (sig-fine ws h b)
  parts-fine (proc-stmt m) n c = first_fine "process" refl _ (more-fine (name m) [] (all_first legal m [] n) none-fine)
  parts-fine (step-stmt p gs) n c = append-fine (step_tokens p) (list_tokens (between p) (map (sig ws) gs)) (step-fine p) (list-fine (between p) (between-fine p) gs)
  parts-fine end-stmt n c = first_fine "end" refl [] none-fine

-- the tokens of a written statement can be written
pub fine-written : (ws : Wires) (s : Statement) → legal_names ws ≡ true → fine_parts ws s ≡ true → all fine_token (shape_tokens (written ws s)) ≡ true
unfolding Fine
fine-written ws s h f = let p = fine-parts ws s f in parts-fine ws h s p.names p.constants
