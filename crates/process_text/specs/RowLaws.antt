-- A loop over the rows of a process: one step further, and the last.
-- Assumes nothing.
use Rattle.std.specs.Prelude.{ℕ, suc, ◌+◌, ◌-◌, ◌*◌, ◌≤◌, ◌<◌, ◌≡◌, true, false, cond, List, [], ◌++◌, eqb}
use Rattle.std.proofs.Math.Path.{refl}
use Rattle.std.proofs.Common.{ne_eqb}
use native.Mathlib.Omega.{arith}
use Rattle.rules.specs.Bytes.{bytes}
use Rattle.lists.specs.Tests.{cond-le, by-test}
use Rattle.context.specs.Place.{is_sync}
use Rattle.netlist.specs.Rows.{kind_at}
use Rattle.netlist.specs.Tables.{Tables}
use Rattle.wire_names.specs.Now.{wires_in}
use Rattle.wire_names.specs.declared.Module.{Module}
use Rattle.line_text.specs.Lines.{statement_now, line_of}
use Rattle.text.specs.Written.{Written, written_then}
use Rattle.process_text.specs.declared.Inside.{Inside}
use Rattle.process_text.specs.Rows.{waiting_from, step_at, level_of, deepens, opened_by, behind, closes, row_line, row_lines, step_rows, inside_rows, process_rows}

-- ---- the rows from k up to `to`: with the first one taken, and none
next_of : (k to : ℕ) → k < to → to - k ≡ suc (to - (k + 1))
next_of k to h = omega arith

after-of : (k : ℕ) → k + 1 ≡ suc k
after-of k = omega arith

none_of : (k to : ℕ) → to ≤ k → to - k ≡ 0
none_of k to h = omega arith

-- how deep any rows lead: two levels a switch
pub record Shallow (z : Inside) (k : ℕ) : Type 0 where
  pub opened : z.opened ≤ k
  pub level : z.level ≤ 2 * z.opened + 3

pub level-shallow : (z : Inside) (k kind step : ℕ) → Shallow z k → level_of z kind step ≤ 2 * z.opened + 3
unfolding level_of
level-shallow z k kind t h =
    by-test (eqb kind 12) (λ e. rw e (omega arith))
    (λ e. by-test (eqb t 21) (λ f. rw (e, f) (omega arith)) (λ f. by-test (is_sync t) (λ g. rw (e, f, g) (omega arith)) (λ g. rw (e, f, g) h.level)))

pub level-most : (z : Inside) (kind step : ℕ) → z.opened < 4294967295 → z.level ≤ 8589934592 → level_of z kind step ≤ 8589934592
unfolding level_of
level-most z kind t h l =
    by-test (eqb kind 12) (λ e. rw e (omega arith))
    (λ e. by-test (eqb t 21) (λ f. rw (e, f) (omega arith)) (λ f. by-test (is_sync t) (λ g. rw (e, f, g) (omega arith)) (λ g. rw (e, f, g) l)))

pub behind-shallow : (z : Inside) (k kind step : ℕ) → Shallow z k → Shallow (behind z kind step) (k + 1)
unfolding behind opened_by level_of deepens
behind-shallow z k kind t h =
    let a = h.opened in
    let b = h.level in
    by-test (eqb kind 12)
    (λ e. rw e (record { opened = omega arith; level = omega (arith, cond-le (deepens t) 1) }))
    (λ e. by-test (eqb t 20)
    (λ f. rw (e, f) (record { opened = omega arith; level = omega (arith, below) }))
    (λ f. by-test (eqb t 21)
    (λ g. rw (e, f, g) (record { opened = omega arith; level = omega arith }))
    (λ g. by-test (is_sync t)
    (λ i. rw (e, f, g, i) (record { opened = omega arith; level = omega arith }))
    (λ i. rw (e, f, g, i) (record { opened = omega arith; level = omega arith })))))
  where
    below : cond (eqb t 21) (2 * z.opened + 1) (cond (is_sync t) 2 z.level) ≤ 2 * z.opened + 3
    below = by-test (eqb t 21) (λ f. rw f (omega arith)) (λ f. by-test (is_sync t) (λ g. rw (f, g) (omega arith)) (λ g. rw (f, g) h.level))

pub shallow-next : (z y : Inside) (k kind step : ℕ) → y ≡ behind z kind step → Shallow z k → Shallow y (k + 1)
shallow-next z y k kind t e h = rw e (behind-shallow z k kind t h)

-- the place behind a line, by its two numbers
module _ (z : Inside) (kind step o l : ℕ) (eo : o ≡ opened_by z.opened kind step) (el : l ≡ level_of z kind step) where
  pub behind-below : deepens step ≡ true → record { opened = o; level = l + 1 } ≡ behind z kind step
  unfolding behind
  behind-below e = rw (e, eo, el)

  pub behind-beside : deepens step ≡ false → record { opened = o; level = l } ≡ behind z kind step
  unfolding behind
  behind-beside e = let q : level_of z kind step + 0 ≡ level_of z kind step = omega arith in rw (e, q, eo, el)

-- ---- one row further
module _ (t : Tables) (m : Module) where
  pub lines_next : (l k to : ℕ) → k < to → row_lines t m l k (to - k) ≡ row_line t m l k ++ row_lines t m l (k + 1) (to - (k + 1))
  unfolding row_lines
  lines_next l k to h = rw (next_of k to h, after-of k)

  pub lines_none : (l k to : ℕ) → to ≤ k → row_lines t m l k (to - k) ≡ []
  unfolding row_lines
  lines_none l k to h = rw (none_of k to h)

  -- the line of a row as it is written
  pub line-is : (l k : ℕ) → row_line t m l k ≡ line_of l (wires_in t.names t.wires t.rows m) (statement_now t.names t.strings t.bits t.wires t.rows m k)
  unfolding row_line
  line-is l k = refl

  -- row k of this kind with its attributes
  module _ (l kind first k : ℕ) where
    pub row-waits : kind ≡ 2 → [] ≡ step_rows t m l kind first k
    unfolding step_rows
    row-waits e = rw e

    pub row_written : (from : ℕ) → from ≡ cond (eqb kind 12) k first → (kind ≡ 2 → ⊥) → row_lines t m l from (k + 1 - from) ≡ step_rows t m l kind first k
    unfolding step_rows
    row_written from ef e = rw (ne_eqb kind 2 e, ← ef)

  module _ (z : Inside) (first k to kind step : ℕ) (ek : kind ≡ kind_at t.rows k) (es : step ≡ step_at t.rows k) where
    pub inside-next :
        (l f : ℕ) (y : Inside) → k < to → closes z kind ≡ false → l ≡ level_of z kind step → y ≡ behind z kind step → f ≡ waiting_from kind first k →
        inside_rows t m z first k (to - k) ≡ step_rows t m l kind first k ++ inside_rows t m y f (k + 1) (to - (k + 1))
    unfolding inside_rows
    inside-next l f y h e el ey ef = rw (next_of k to h, ← ek, ← es, e, el, ey, ef, after-of k)

  pub inside-closed : (z : Inside) (first k to kind : ℕ) → kind ≡ kind_at t.rows k → k < to → closes z kind ≡ true → inside_rows t m z first k (to - k) ≡ []
  unfolding inside_rows
  inside-closed z first k to kind ek h e = rw (next_of k to h, ← ek, e)

  pub inside-none : (z : Inside) (first k to : ℕ) → to ≤ k → inside_rows t m z first k (to - k) ≡ []
  unfolding inside_rows
  inside-none z first k to h = rw (none_of k to h)

  -- one piece behind another
  pub process-written :
      (k to : ℕ) {at a b r : ℕ} {o p q z : List ℕ} →
      Written at (line_of 1 (wires_in t.names t.wires t.rows m) (statement_now t.names t.strings t.bits t.wires t.rows m k)) o p a →
      Written a (inside_rows t m (record { opened = 0; level = 2 }) (k + 1) (k + 1) (to - (k + 1))) p q b → Written b (bytes "  end\n") q z r →
      Written at (process_rows t m k (to - (k + 1))) o z r
  unfolding process_rows row_line
  process-written k to v w x = written_then (written_then v w) x
