-- What each piece of a line is by the rules, one law for a return of the code.
-- Assumes nothing.
use Rattle.std.specs.Prelude.{◌≡◌, refl, false, not, ℕ, ◌+◌, ◌-◌, ◌/◌, ◌%◌, ◌≤◌, eqb, ℤ, pos, length}
use Rattle.std.proofs.Math.Path.{sym}
use Rattle.std.proofs.Common.{ap, ◌∙◌}
use mathlib.Core.List.{List, [], ◌∷◌, ◌++◌, map, reverse, append-nil, Option-to_list}
use Rattle.std.proofs.Math.Option
use Rattle.std.proofs.Math.Option.{Option, none, some}
use borrow.Author.Tests.{ne_eqb}
use Rattle.rules.specs.Bytes.{bytes}
use Rattle.rules.specs.Tokens.{Name, Literal, name, word, value, integer, string, literal}
use Rattle.rules.specs.Statements.{Sig, Opt, Sort, autoidx-stmt, attr-stmt, module-stmt, param-stmt, wire-stmt, memory-stmt, cell-stmt, cell-param-stmt, cell-conn-stmt, conn-stmt, proc-stmt, step-stmt, Step, Signal, translate}
use Rattle.rules.specs.Signals.{Wires}
use Rattle.rules.specs.Numbers.{in_range}
use Rattle.rules.specs.Text.{sig, literal_of, setting, unless, port_options, wire_options, memory_options, written, word_token, number_token, sig_tokens, option_tokens, sort_tokens, shape_tokens, integer_text, literal_text, token_text, tight, behind, spaced}
use Rattle.numbers.specs.Kinds.{digit_of, signal_of}
use Rattle.numbers.specs.Signed.{signed_of}
use Rattle.wires.specs.Rows.{column, port_of, wire_of, span_at}
use Rattle.netlist.specs.Rows.{kind_at, name_from}
use Rattle.netlist.specs.Steps.{step_named, signals_at}
use Rattle.netlist.specs.Statements.{constant_at, optional_at, signal_at, memory_at, statement_by, statement_at}
use Rattle.wire_names.specs.declared.Module.{Module}
use Rattle.wire_names.specs.Now.{name_now, own_now}
use Rattle.signal_text.specs.Pieces.{spread, Piece, piece-none, piece-name, piece-word, piece-literal, piece-sig, spread-name, spread-literal, spread-digits, spaced-word, spaced-two, spaced-three}
use Rattle.step_text.specs.Steps.{step_text}
use Rattle.line_text.specs.Options.{piece-options, spread-options}
use Rattle.line_text.specs.Lines.{statement_now, body_text}
use Rattle.lists.specs.Parts.{slice-le}

pub span-le : (t rows w : List ℕ) (k c : ℕ) → w ≡ span_at t rows k c → length w ≤ length t
unfolding span_at
span-le t rows w k c e = rw e (slice-le (column rows k c) (column rows k c + column rows k (c + 1)) t)

-- ---- constants: x is the kind, w the span
module _ (strings bits rows : List ℕ) (k c x : ℕ) (ex : x ≡ column rows k c) where
  pub constant-value : (w : List ℕ) → w ≡ span_at bits rows k (c + 1) → x ≡ 1 → 32 ∷ literal_text (value (length w) (reverse (map digit_of w))) ≡ spread (literal (literal_of (constant_at strings bits rows k c)) ∷ [])
  unfolding constant_at literal_of
  constant-value w ew e = rw (← ex, e, ← ew) (spread-digits w)

  pub constant-integer : (y : ℕ) → y ≡ column rows k (c + 1) → x ≡ 2 → 32 ∷ integer_text (signed_of y) ≡ spread (literal (literal_of (constant_at strings bits rows k c)) ∷ [])
  unfolding constant_at literal_of literal_text
  constant-integer y ey e = sym (spread-literal (literal_of (constant_at strings bits rows k c)) ∙ rw (← ex, e, ← ey))

  pub constant-string : (w : List ℕ) → w ≡ span_at strings rows k (c + 1) → (x ≡ 1 → ⊥) → (x ≡ 2 → ⊥) → 32 ∷ literal_text (string w) ≡ spread (literal (literal_of (constant_at strings bits rows k c)) ∷ [])
  unfolding constant_at literal_of
  constant-string w ew h l = sym (spread-literal (literal_of (constant_at strings bits rows k c)) ∙ rw (← ex, ne_eqb x 1 h, ne_eqb x 2 l, ← ew))

-- ---- options
pub option-number : (w : List ℕ) (i : ℤ) → (32 ∷ w) ++ (32 ∷ integer_text i) ≡ spread (option_tokens ((w, some i) ∷ []))
unfolding spread behind tight token_text option_tokens Option-to_list number_token literal_text
option-number w i = ap (λ (l : List ℕ). (32 ∷ w) ++ l) (sym (append-nil (32 ∷ integer_text i)))

pub option-word : (w : List ℕ) → 32 ∷ w ≡ spread (option_tokens ((w, none) ∷ []))
unfolding spread behind tight token_text option_tokens Option-to_list
option-word w = sym (append-nil (32 ∷ w))

-- the last one stands first
options-two : (a b : List Opt) {l : List ℕ} → spread (option_tokens a) ≡ l → spread (option_tokens (a ++ b)) ≡ spread (option_tokens b) ++ l
options-two a b e = spread-options a b ∙ ap (λ (x : List ℕ). spread (option_tokens b) ++ x) e

pub wire-options :
    (t : List ℕ) (k width offset flags port : ℕ) → width ≡ column t k 3 → offset ≡ column t k 4 → flags ≡ column t k 5 → port ≡ column t k 6 →
    spread (option_tokens (unless (eqb width 1) (setting "width" (pos width))))
    ++ (spread (option_tokens (unless (in_range 0 0 (signed_of offset)) (setting "offset" (signed_of offset))))
    ++ (spread (option_tokens (unless (not (eqb (flags % 2) 1)) (bytes "upto", none)))
    ++ (spread (option_tokens (port_options (port_of (flags / 4) port)))
    ++ spread (option_tokens (unless (not (eqb (flags / 2 % 2) 1)) (bytes "signed", none))))))
    ≡ spread (option_tokens (wire_options (wire_of t k)))
unfolding wire_options wire_of
wire-options t k width offset flags port ew eo ef ep = rw (← ew, ← eo, ← ef, ← ep) (sym (options-two _ _ (options-two _ _ (options-two _ _ (spread-options _ _)))))

pub memory-options :
    (t : List ℕ) (k width size offset : ℕ) → width ≡ column t k 3 → size ≡ column t k 4 → offset ≡ column t k 5 →
    spread (option_tokens (unless (eqb width 1) (setting "width" (pos width))))
    ++ (spread (option_tokens (unless (eqb size 0) (setting "size" (pos size))))
    ++ spread (option_tokens (unless (in_range 0 0 (signed_of offset)) (setting "offset" (signed_of offset)))))
    ≡ spread (option_tokens (memory_options (memory_at t k)))
unfolding memory_options memory_at
memory-options t k width size offset ew es eo = rw (← ew, ← es, ← eo) (sym (options-two _ _ (spread-options _ _)))

piece-sort : (o : Sort) → Piece (sort_tokens o)
unfolding sort_tokens word_token
piece-sort Sort.plain = piece-none
piece-sort Sort.signed = piece-word _
piece-sort Sort.real = piece-word _

-- ---- lines: the first word, then pieces
pub line-autoidx : (i : ℤ) → bytes "autoidx" ++ (32 ∷ integer_text i) ≡ spaced (shape_tokens (autoidx-stmt i))
unfolding shape_tokens word_token number_token literal_text
line-autoidx i = sym (spaced-word _ (piece-literal (integer i)) ∙ rw (spread-literal (integer i)))

module _ (n n' : Name) (en : n ≡ n') where
  pub line-attribute : (c : Literal) → bytes "attribute" ++ ((32 ∷ n) ++ spread (literal c ∷ [])) ≡ spaced (shape_tokens (attr-stmt n' c))
  unfolding shape_tokens word_token
  line-attribute c = rw (← en) (sym (spaced-two (bytes "attribute") (piece-name n) (piece-literal c) ∙ rw (spread-name n)))

  pub line-module : bytes "module" ++ (32 ∷ n) ≡ spaced (shape_tokens (module-stmt n'))
  unfolding shape_tokens word_token
  line-module = rw (← en) (sym (spaced-word (bytes "module") (piece-name n) ∙ rw (spread-name n)))

  pub line-process : bytes "process" ++ (32 ∷ n) ≡ spaced (shape_tokens (proc-stmt n'))
  unfolding shape_tokens word_token
  line-process = rw (← en) (sym (spaced-word (bytes "process") (piece-name n) ∙ rw (spread-name n)))

  pub line-named : (w : List ℕ) → w ++ (32 ∷ n) ≡ spaced (word w ∷ name n' ∷ [])
  line-named w = rw (← en) (sym (spaced-word w (piece-name n) ∙ rw (spread-name n)))

  -- x is the constant's kind
  module _ (strings bits rows : List ℕ) (k c x : ℕ) (ex : x ≡ column rows k c) where
    pub line-no-constant : x ≡ 0 → bytes "parameter" ++ (32 ∷ n) ≡ spaced (shape_tokens (param-stmt n' (Option.map literal_of (optional_at strings bits rows k c))))
    unfolding shape_tokens word_token optional_at Option-to_list
    line-no-constant e = rw (← en, ← ex, e) (sym (spaced-word (bytes "parameter") (piece-name n) ∙ rw (spread-name n)))

    pub line-parameter : (x ≡ 0 → ⊥) → bytes "parameter" ++ ((32 ∷ n) ++ spread (literal (literal_of (constant_at strings bits rows k c)) ∷ [])) ≡ spaced (shape_tokens (param-stmt n' (Option.map literal_of (optional_at strings bits rows k c))))
    unfolding shape_tokens word_token optional_at Option-to_list
    line-parameter h =
        rw (← en, ← ex, ne_eqb x 0 h)
        (sym (spaced-two (bytes "parameter") (piece-name n) (piece-literal (literal_of (constant_at strings bits rows k c))) ∙ rw (spread-name n)))

  pub line-wire : (os : List Opt) → bytes "wire" ++ (spread (option_tokens os) ++ (32 ∷ n)) ≡ spaced (shape_tokens (wire-stmt os n'))
  unfolding shape_tokens word_token
  line-wire os = rw (← en) (sym (spaced-two (bytes "wire") (piece-options os) (piece-name n) ∙ rw (spread-name n)))

  pub line-memory : (os : List Opt) → bytes "memory" ++ (spread (option_tokens os) ++ (32 ∷ n)) ≡ spaced (shape_tokens (memory-stmt os n'))
  unfolding shape_tokens word_token
  line-memory os = rw (← en) (sym (spaced-two (bytes "memory") (piece-options os) (piece-name n) ∙ rw (spread-name n)))

  pub line-cell : (t t' : Name) → t ≡ t' → bytes "cell" ++ ((32 ∷ t) ++ (32 ∷ n)) ≡ spaced (shape_tokens (cell-stmt t' n'))
  unfolding shape_tokens word_token
  line-cell t t' et = rw (← en, ← et) (sym (spaced-two (bytes "cell") (piece-name t) (piece-name n) ∙ rw (spread-name t, spread-name n)))

  pub line-cell-parameter : (o : Sort) (c : Literal) → bytes "parameter" ++ (spread (sort_tokens o) ++ ((32 ∷ n) ++ spread (literal c ∷ []))) ≡ spaced (shape_tokens (cell-param-stmt o n' c))
  unfolding shape_tokens word_token
  line-cell-parameter o c = rw (← en) (sym (spaced-three (bytes "parameter") (piece-sort o) (piece-name n) (piece-literal c) ∙ rw (spread-name n)))

  pub line-cell-connection : (s s' : Sig) → s ≡ s' → bytes "connect" ++ ((32 ∷ n) ++ spread (sig_tokens s)) ≡ spaced (shape_tokens (cell-conn-stmt n' s'))
  unfolding shape_tokens word_token
  line-cell-connection s s' es = rw (← en, ← es) (sym (spaced-two (bytes "connect") (piece-name n) (piece-sig s) ∙ rw (spread-name n)))

pub line-connection : (s s' t t' : Sig) → s ≡ s' → t ≡ t' → bytes "connect" ++ (spread (sig_tokens s) ++ spread (sig_tokens t)) ≡ spaced (shape_tokens (conn-stmt s' t'))
unfolding shape_tokens word_token
line-connection s s' t t' es et = rw (← es, ← et) (sym (spaced-two (bytes "connect") (piece-sig s) (piece-sig t)))

-- ---- what the decoder reads
pub span-name : (names rows n : List ℕ) (k c : ℕ) → n ≡ span_at names rows k c → n ≡ name_from names rows k c
unfolding span_at name_from
span-name names rows n k c e = e

pub span-signal : (bits rows w : List ℕ) (k c : ℕ) → w ≡ span_at bits rows k c → signal_of w ≡ signal_at bits rows k c
unfolding signal_of signal_at
span-signal bits rows w k c e = rw e

pub own-now : (names wires rows : List ℕ) (x : Module) (k n : ℕ) → n ≡ k - x.first → name_now names wires rows x.from x.renames x.number.0 n k ≡ own_now names wires rows x k
unfolding own_now
own-now names wires rows x k n e = rw e

step-body : (ws : Wires) (o : Option Step) (xs : List Signal) → step_text ws o xs ≡ body_text ws (Option.map (λ p. step-stmt p xs) o)
unfolding step_text body_text written translate
step-body ws none xs = refl
step-body ws (some p) xs = refl

-- the statement in row k by its kind y
module _ (names strings bits wires rows : List ℕ) (x : Module) (ws : Wires) (k y : ℕ) (ey : y ≡ column rows k 0) where
  pub statement-wire : y ≡ 5 → spaced (shape_tokens (wire-stmt (wire_options (wire_of wires (column rows k 3))) (own_now names wires rows x (column rows k 3)))) ≡ body_text ws (statement_now names strings bits wires rows x k)
  unfolding statement_now kind_at body_text written translate
  statement-wire e = rw (← ey, e)

  pub statement-cell-connection : y ≡ 9 → spaced (shape_tokens (cell-conn-stmt (name_from names rows k 1) (sig ws (signal_at bits rows k 3)))) ≡ body_text ws (statement_now names strings bits wires rows x k)
  unfolding statement_now statement_at statement_by kind_at body_text written translate
  statement-cell-connection e = rw (← ey, e)

  pub statement-connection : y ≡ 10 → spaced (shape_tokens (conn-stmt (sig ws (signal_at bits rows k 1)) (sig ws (signal_at bits rows k 3)))) ≡ body_text ws (statement_now names strings bits wires rows x k)
  unfolding statement_now statement_at statement_by kind_at body_text written translate
  statement-connection e = rw (← ey, e)

  pub statement-step : y ≡ 13 → step_text ws (step_named (column rows k 1)) (signals_at bits rows k) ≡ body_text ws (statement_now names strings bits wires rows x k)
  unfolding statement_now statement_at statement_by kind_at
  statement-step e = rw (← ey, e) (step-body ws (step_named (column rows k 1)) (signals_at bits rows k))

  pub statement-plain : eqb y 5 ≡ false → body_text ws (statement_by names strings bits wires rows k y) ≡ body_text ws (statement_now names strings bits wires rows x k)
  unfolding statement_now statement_at kind_at
  statement-plain e = rw (← ey, e)
