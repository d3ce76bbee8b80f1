-- A loop over rows that writes: one step further for each loop.
-- Assumes nothing.
use Prim.Native.Nat.{ℕ, zero, suc, min, ◌+◌, ◌-◌, ◌≤◌, ◌<◌}
use mathlib.Core.Path.{◌≡◌, refl}
use mathlib.Core.Bool.{Bool, true, false, cond}
use mathlib.Core.List.{List, [], ◌++◌}
use native.Mathlib.Omega.{arith}
use lib.Dec.{eqb}
use borrow.Author.Tests.{eq-eqb, ne_eqb}
use mir.Val.{bool_byte}
use Rattle.rules.specs.Bytes.{bytes}
use Rattle.lists.specs.Tests.{cond-le}
use Rattle.netlist.specs.Rows.{kind_at}
use Rattle.wire_names.specs.Now.{wires_in}
use Rattle.wire_names.specs.declared.Module.{Module}
use Rattle.line_text.specs.Lines.{statement_now, line_of}
use Rattle.text.specs.Written.{Written, written_none, written_then}
use Rattle.text.specs.Reaches.{Reaches, reaches-start}
use Rattle.design_text.specs.declared.Counts.{Counts}
use Rattle.netlist.specs.Tables.{Tables}
use Rattle.design_text.specs.Rows.{next_row, waiting_from, row_line, line_if, kind_rows, cell_rows, object_if, object_rows, body_rows, module_at, module_if, module_rows, text_rows}

-- ---- the rows from k up to `to`: with the first one taken, and none
next_of : (k to : ℕ) → k < to → to - k ≡ suc (to - (k + 1))
next_of k to h = omega arith

after-of : (k : ℕ) → k + 1 ≡ suc k
after-of k = omega arith

none_of : (k to : ℕ) → to ≤ k → to - k ≡ 0
none_of k to h = omega arith

module _ (rows : List ℕ) (kind k to x : ℕ) (ex : x ≡ kind_at rows k) where
  pub row-found : k < to → x ≡ kind → next_row rows kind k (to - k) ≡ k
  unfolding next_row
  row-found h e = rw (next_of k to h, ← ex, eq-eqb x kind e)

  pub row-later : k < to → (x ≡ kind → ⊥) → next_row rows kind k (to - k) ≡ next_row rows kind (k + 1) (to - (k + 1))
  unfolding next_row
  row-later h e = rw (next_of k to h, ← ex, ne_eqb x kind e, after-of k)

pub row-none : (rows : List ℕ) (kind k to : ℕ) → to ≤ k → next_row rows kind k (to - k) ≡ k
unfolding next_row
row-none rows kind k to h = rw (none_of k to h)

module _ (t : Tables) (m : Module) (kind : ℕ) where
  pub kind-next : (l k to : ℕ) → k < to → kind_rows t m kind l k (to - k) ≡ line_if t m kind l k ++ kind_rows t m kind l (k + 1) (to - (k + 1))
  unfolding kind_rows
  kind-next l k to h = rw (next_of k to h, after-of k)

  pub kind-none : (l k to : ℕ) → to ≤ k → kind_rows t m kind l k (to - k) ≡ []
  unfolding kind_rows
  kind-none l k to h = rw (none_of k to h)

  pub object-next :
      (first k to x f : ℕ) → k < to → x ≡ kind_at t.rows k → f ≡ waiting_from x first k →
      object_rows t m kind first k (to - k) ≡ object_if t m kind first k (to - (k + 1)) ++ object_rows t m kind f (k + 1) (to - (k + 1))
  unfolding object_rows
  object-next first k to x f h ex ef = rw (next_of k to h, after-of k, ef, ex)

  pub object-none : (first k to : ℕ) → to ≤ k → object_rows t m kind first k (to - k) ≡ []
  unfolding object_rows
  object-none first k to h = rw (none_of k to h)

module _ (t : Tables) (C : Counts) where
  pub module-next :
      (n first k to x f y : ℕ) → k < to → x ≡ kind_at t.rows k → f ≡ waiting_from x first k → y ≡ cond (eqb x 3) 1 0 →
      module_rows t C n first k (to - k) ≡ module_if t C n first k (to - (k + 1)) ++ module_rows t C (n + y) f (k + 1) (to - (k + 1))
  unfolding module_rows
  module-next n first k to x f y h ex ef ey = rw (next_of k to h, after-of k, ef, ey, ex)

  pub module-none : (n first k to : ℕ) → to ≤ k → module_rows t C n first k (to - k) ≡ []
  unfolding module_rows
  module-none n first k to h = rw (none_of k to h)

-- ---- one piece behind another
module _ (t : Tables) (m : Module) where
  pub cell-written :
      (k c e : ℕ) {at a b d r : ℕ} {o p q s z : List ℕ} → e ≡ next_row t.rows 12 (k + 1) c →
      Written at (line_of 1 (wires_in t.names t.wires t.rows m) (statement_now t.names t.strings t.bits t.wires t.rows m k)) o p a →
      Written a (kind_rows t m 8 2 (k + 1) (e - (k + 1))) p q b → Written b (kind_rows t m 9 2 (k + 1) (e - (k + 1))) q s d → Written d (bytes "  end\n") s z r →
      Written at (cell_rows t m k c) o z r
  unfolding cell_rows row_line
  cell-written k c e h w x y v = rw (← h) (written_then (written_then (written_then w x) y) v)

  pub body-written :
      (k c : ℕ) {at a b d f g r : ℕ} {o p q s u v z : List ℕ} → Written at (kind_rows t m 4 1 k c) o p a → Written a (object_rows t m 5 k k c) p q b →
      Written b (object_rows t m 6 k k c) q s d → Written d (object_rows t m 7 k k c) s u f → Written f (object_rows t m 11 k k c) u v g → Written g (kind_rows t m 10 1 k c) v z r →
      Written at (body_rows t m k c) o z r
  unfolding body_rows
  body-written k c v w x y u z = written_then (written_then (written_then (written_then (written_then v w) x) y) u) z

module _ (t : Tables) (C : Counts) (n first k c x : ℕ) (ex : x ≡ kind_at t.rows k) where
  pub module-other : (x ≡ 3 → ⊥) → (at : ℕ) (o : List ℕ) → at ≤ 32769 → Written at (module_if t C n first k c) o o at
  unfolding module_if
  module-other e at o h = rw (← ex, ne_eqb x 3 e) (written_none at o h)

  pub module-written :
      (m : Module) (e : ℕ) {at a b d r : ℕ} {o p q s z : List ℕ} → x ≡ 3 → m ≡ module_at t.wires C n → e ≡ next_row t.rows 3 (k + 1) c →
      Written at (kind_rows t m 2 0 first (k - first)) o p a →
      Written a (line_of 0 (wires_in t.names t.wires t.rows m) (statement_now t.names t.strings t.bits t.wires t.rows m k)) p q b →
      Written b (body_rows t m (k + 1) (e - (k + 1))) q s d → Written d (bytes "end\n") s z r → Written at (module_if t C n first k c) o z r
  unfolding module_if row_line
  module-written m e ek em ee v w y z = rw (← ex, eq-eqb x 3 ek, ← em, ← ee) (written_then (written_then (written_then v w) y) z)

pub text-written :
    (t : Tables) (C : Counts) (m : Module) (h : ℕ) {a r : ℕ} {o p z : List ℕ} → m ≡ module_at t.wires C 0 → h ≡ cond (eqb C.statements 0) 0 1 →
    Written 0 (kind_rows t m 1 0 0 (h - 0)) o p a → Written a (module_rows t C 0 0 0 C.statements) p z r → Written 0 (text_rows t C) o z r
unfolding text_rows
text-written t C m h em eh v w =
    let e : h ≡ h - 0 = omega arith in
    rw (← em, ← eh, e) (written_then v w)

pub modules-start : (t : Tables) (C : Counts) (at : ℕ) (o : List ℕ) → at ≤ 32769 → Reaches at (module_rows t C 0 0 0 C.statements) (module_rows t C 0 0 0 (C.statements - 0)) o o at
modules-start t C at o h =
    let e : C.statements - 0 ≡ C.statements = omega arith in
    rw e (reaches-start at (module_rows t C 0 0 0 C.statements) o h)

-- none or the first
pub one_or_none : (n : ℕ) → cond (eqb n 0) 0 1 ≡ min n 1
one_or_none zero = omega arith
one_or_none (suc n) = rw (ne_eqb (suc n) 0 (λ e. omega arith)) (omega arith)

-- a test as a number
pub as_number : (b : Bool) → bool_byte b ≡ cond b 1 0
as_number true = refl
as_number false = refl

pub one_at_most : (x y : ℕ) → y ≡ cond (eqb x 3) 1 0 → y ≤ 1
one_at_most x y e = rw e (cond-le (eqb x 3) 1)
