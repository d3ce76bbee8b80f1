-- Passes over rows write what the passes over the statements that stand there do.
-- Assumes nothing.
use Prim.Native.Nat.{ℕ, suc, ◌+◌, ◌-◌}
use mathlib.Core.Path.{◌≡◌, refl, ap, ap₂, ◌∙◌}
use mathlib.Core.List.{List, [], ◌∷◌, ◌++◌, flat_map, append_assoc}
use mathlib.Core.Option.{some}
use mathlib.Core.Bool.{Bool, true, false, cond}
use native.Mathlib.Omega.{arith}
use lib.Dec.{eqb}
use lib.ListN.{length, length-append}
use borrow.Author.Tests.{eqb-true}
use Rattle.rules.specs.Bytes.{all, bytes}
use Rattle.rules.specs.Statements.{Statement, Kind, an_attribute, a_cell_parameter, a_cell_connection, an_end, end-stmt, code, contents, is, statements_open}
use Rattle.rules.specs.Shapes.{Scope}
use Rattle.rules.specs.Signals.{Wires}
use Rattle.rules.specs.Judgement.{until}
use Rattle.rules.specs.Text.{text_open}
use Rattle.lists.specs.Tests.{by-test, and-true-left, and-true-right, eqb-sym}
use Rattle.lists.specs.Elements.{all_snoc}
use Rattle.context.specs.Forms.{is-other}
use Rattle.admitted.specs.CountLaws.{scope_behind}
use Rattle.netlist.specs.Rows.{kind_at}
use Rattle.wire_names.specs.Now.{wires_in}
use Rattle.wire_names.specs.declared.Module.{Module}
use Rattle.line_text.specs.Lines as line
use Rattle.line_text.specs.Lines.{statement_now}
use Rattle.module_text.specs.Blocks.{line_of}
use Rattle.module_text.specs.Passes.{lines_of, kind_lines, Print, object_lines, print_memory, cell_block, print_to_end}
use Rattle.module_text.specs.StandLaws.{Follows, one_follows}
use Rattle.netlist.specs.Tables.{Tables}
use Rattle.process_text.specs.Rows.{process_rows}
use Rattle.design_text.specs.Rows.{next_row, waiting_from, row_line, line_if, kind_rows, cell_rows, object_if, object_rows}

pub more-behind : (k first : ℕ) (at : List Statement) (s : Statement) → k ≡ first + length at → suc k ≡ first + length (at ++ s ∷ [])
more-behind k first at s e = omega (arith, length-append at (s ∷ []))

-- attributes wait for their object; behind any other row none does
module _ (kind first k : ℕ) (s : Statement) (q : kind ≡ code (contents s).kind) where
  pub waits : is an_attribute s ≡ true → waiting_from kind first k ≡ first
  unfolding waiting_from is code
  waits h = rw (q, ← eqb-true 2 (code (contents s).kind) h)

  pub passes : is an_attribute s ≡ false → waiting_from kind first k ≡ suc k
  unfolding waiting_from is code
  passes h = rw (q, eqb-sym (code (contents s).kind) 2, h) (omega arith)

-- the rows from k on hold these statements, wires by their names now
pub data Rowed (t : Tables) (m : Module) : ℕ → List Statement → Type 0 where
  no_rows : {k : ℕ} → Rowed t m k []
  one-row :
      {k : ℕ} {s : Statement} {ss : List Statement} → statement_now t.names t.strings t.bits t.wires t.rows m k ≡ some s →
      kind_at t.rows k ≡ code (contents s).kind → Rowed t m (suc k) ss → Rowed t m k (s ∷ ss)

-- the rows from k on are of their kinds
pub data Kinded (rows : List ℕ) : ℕ → List Statement → Type 0 where
  no-kinds : {k : ℕ} → Kinded rows k []
  one-kind : {k : ℕ} {s : Statement} {ss : List Statement} → kind_at rows k ≡ code (contents s).kind → Kinded rows (suc k) ss → Kinded rows k (s ∷ ss)

-- up to the first of a kind
pub next-until : (rows : List ℕ) (K : Kind) (kind : ℕ) → code K ≡ kind → {k : ℕ} {ss : List Statement} → Kinded rows k ss → next_row rows kind k (length ss) ≡ k + length (until (is K) ss)
unfolding next_row until is
next-until rows K kind ek no-kinds = omega arith
next-until rows K kind ek {k} (one-kind {s = s} {ss} q r) =
    let h : eqb (kind_at rows k) kind ≡ eqb (code K) (code (contents s).kind) = rw (q, ← ek) (eqb-sym (code (contents s).kind) (code K)) in
    by-test (eqb (code K) (code (contents s).kind))
    (λ f. rw (h, f) (omega arith))
    (λ f. rw (h, f) (next-until rows K kind ek r ∙ (omega arith)))

module _ {t : Tables} {m : Module} where
  rowed-kinded : {k : ℕ} {ss : List Statement} → Rowed t m k ss → Kinded t.rows k ss
  rowed-kinded no_rows = no-kinds
  rowed-kinded (one-row e q r) = one-kind q (rowed-kinded r)

  pub rowed-until : (f : Statement → Bool) {k : ℕ} {ss : List Statement} → Rowed t m k ss → Rowed t m k (until f ss)
  unfolding until
  rowed-until f no_rows = no_rows
  rowed-until f {k} (one-row {s = s} {ss} e q r) =
      by-test (f s) (λ h. rw h no_rows) (λ h. rw h (one-row e q (rowed-until f r)))

  pub rowed-more : {k : ℕ} {ss : List Statement} (s : Statement) (j : ℕ) → j ≡ k + length ss → Rowed t m k ss → statement_now t.names t.strings t.bits t.wires t.rows m j ≡ some s → kind_at t.rows j ≡ code (contents s).kind → Rowed t m k (ss ++ s ∷ [])
  rowed-more {k} s j e no_rows h q = let d : j ≡ k = omega arith in one-row (rw d at h) (rw d at q) no_rows
  rowed-more {k} s j e (one-row x y r) h q = one-row x y (rowed-more s j (omega arith) r h q)

module _ (t : Tables) (m : Module) where
  abbrev pub seen : Wires
  seen = wires_in t.names t.wires t.rows m

  pub row-line : (l k : ℕ) (s : Statement) → statement_now t.names t.strings t.bits t.wires t.rows m k ≡ some s → row_line t m l k ≡ line_of l seen s
  unfolding row_line line.line_of line.body_text line_of
  row-line l k s e = rw e

  line-if :
      (K : Kind) (kind l k : ℕ) (s : Statement) → code K ≡ kind → statement_now t.names t.strings t.bits t.wires t.rows m k ≡ some s →
      kind_at t.rows k ≡ code (contents s).kind → line_if t m kind l k ≡ cond (is K s) (line_of l seen s) []
  unfolding line_if is
  line-if K kind l k s ek e q = rw (q, ← ek, eqb-sym (code (contents s).kind) (code K), row-line l k s e)

  -- THE LINES OF A KIND
  pub kind-rows : (K : Kind) (kind l : ℕ) → code K ≡ kind → {k : ℕ} {ss : List Statement} → Rowed t m k ss → kind_rows t m kind l k (length ss) ≡ kind_lines K l seen ss
  unfolding kind_rows kind_lines
  kind-rows K kind l ek no_rows = refl
  kind-rows K kind l ek {k} (one-row {s = s} {ss} e q r) =
      ap₂ ◌++◌ (line-if K kind l k s ek e q) (kind-rows K kind l ek r) ∙ by-test (is K s) (λ h. rw h) (λ h. rw h)

  attribute-lines : (l : ℕ) (at : List Statement) → all (is an_attribute) at ≡ true → kind_lines an_attribute l seen at ≡ lines_of l seen at
  unfolding kind_lines lines_of flat_map all
  attribute-lines l [] h = refl
  attribute-lines l (s ∷ at) h = rw (and-true-left (is an_attribute s) _ h) (ap (λ (x : List ℕ). line_of l seen s ++ x) (attribute-lines l at (and-true-right (is an_attribute s) _ h)))

  pub attribute-rows : (l c : ℕ) {k : ℕ} {at : List Statement} → c ≡ length at → all (is an_attribute) at ≡ true → Rowed t m k at → kind_rows t m 2 l k c ≡ lines_of l seen at
  unfolding code
  attribute-rows l c {k} {at} e h r = rw e (kind-rows an_attribute 2 l refl r ∙ attribute-lines l at h)

  -- A CELL up to its `end`
  pub end_line : (ws : Wires) → bytes "  end\n" ≡ line_of 1 ws end-stmt
  unfolding line_of text_open statements_open
  end_line ws = refl

  pub cell-rows :
      (n k : ℕ) (at : List Statement) (s : Statement) (more : List Statement) → statement_now t.names t.strings t.bits t.wires t.rows m k ≡ some s →
      Rowed t m (suc k) more → lines_of 1 seen at ++ cell_rows t m k (length more) ≡ print_to_end seen n at s more
  unfolding cell_rows print_to_end cell_block code
  cell-rows n k at s more e r =
      let i : List Statement = until (is an_end) more in
      let a : k + 1 ≡ suc k = omega arith in
      let c : next_row t.rows 12 (k + 1) (length more) - (k + 1) ≡ length i = rw a (let z : next_row t.rows 12 (suc k) (length more) ≡ suc k + length i = next-until t.rows an_end 12 refl (rowed-kinded r) in omega arith) in
      let u = rowed-until (is an_end) r in
      rw (c, a, row-line 1 k s e, kind-rows a_cell_parameter 8 2 refl u, kind-rows a_cell_connection 9 2 refl u, end_line seen) (simp append_assoc)

  pub line-rows :
      (n k : ℕ) (at : List Statement) (s : Statement) (more : List Statement) → statement_now t.names t.strings t.bits t.wires t.rows m k ≡ some s →
      lines_of 1 seen at ++ row_line t m 1 k ≡ print_memory seen n at s more
  unfolding print_memory
  line-rows n k at s more e = rw (row-line 1 k s e)

  -- OBJECTS OF A KIND, each with the attributes right before it
  module _ (K : Kind) (kind : ℕ) (ek : code K ≡ kind) (other : eqb (code K) (code an_attribute) ≡ false) (print : Print)
      (prints :
      (n k : ℕ) (at : List Statement) (s : Statement) (more : List Statement) (p : Scope) → is K s ≡ true →
      statement_now t.names t.strings t.bits t.wires t.rows m k ≡ some s → Rowed t m (suc k) more → Follows (scope_behind p s) false more →
      lines_of 1 seen at ++ cond (eqb kind 7) (cell_rows t m k (length more)) (cond (eqb kind 11) (process_rows t m k (length more)) (row_line t m 1 k)) ≡ print n at s more) where
    -- a row of another kind writes nothing
    object-not : (first k c : ℕ) (s : Statement) → kind_at t.rows k ≡ code (contents s).kind → is K s ≡ false → object_if t m kind first k c ≡ []
    unfolding object_if is
    object-not first k c s q h = rw (q, ← ek, eqb-sym (code (contents s).kind) (code K), h)

    abbrev body : (k c : ℕ) → List ℕ
    body k c = cond (eqb kind 7) (cell_rows t m k c) (cond (eqb kind 11) (process_rows t m k c) (row_line t m 1 k))

    object-here : (first k c : ℕ) (s : Statement) → kind_at t.rows k ≡ code (contents s).kind → is K s ≡ true → object_if t m kind first k c ≡ kind_rows t m 2 1 first (k - first) ++ body k c
    unfolding object_if is
    object-here first k c s q h =
        let z : eqb (kind_at t.rows k) kind ≡ true = rw (q, ← ek) (eqb-sym (code (contents s).kind) (code K) ∙ h) in
        rw z

    pub object-rows :
        (n first k : ℕ) (at : List Statement) {ss : List Statement} {p : Scope} {f : Bool} → k ≡ first + length at → all (is an_attribute) at ≡ true → Rowed t m first at → Rowed t m k ss →
        Follows p f ss → object_rows t m kind first k (length ss) ≡ object_lines K print n at ss
    unfolding object_rows object_lines all
    object-rows n first k at e h a no_rows fo = refl
    object-rows n first k at {p = p} e h a (one-row {s = s} {ss} x q r) (one_follows g y fo) =
        by-test (is an_attribute s)
        (λ w. rw (object-not first k (length ss) s q (is-other an_attribute K s other w), waits _ first k s q w, w)
        (object-rows n first (suc k) (at ++ s ∷ []) (more-behind k first at s e) (all_snoc (is an_attribute) at s h w) (rowed-more s k e a x q) r fo))
        (λ w. by-test (is K s)
        (λ z. rw (passes _ first k s q w, w, z)
        (ap₂ ◌++◌
        (object-here first k (length ss) s q z
        ∙ ap (λ (l : List ℕ). l ++ body k (length ss)) (attribute-rows 1 (k - first) (omega arith) h a)
        ∙ prints n k at s ss p z x r fo)
        (object-rows (n + 1) (suc k) (suc k) [] (omega arith) refl no_rows r fo)))
        (λ z. rw (object-not first k (length ss) s q z, passes _ first k s q w, w, z) (object-rows n (suc k) (suc k) [] (omega arith) refl no_rows r fo)))
