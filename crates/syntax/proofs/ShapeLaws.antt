-- A shape without signals is judged by its numbers.
-- Assumes nothing.
use Prim.Native.Nat.{ℕ}
use Rattle.std.specs.Prelude.{Option as Optional, Some, None, Result, Ok, Err}
use Rattle.std.specs.Option.{ok_or}
use Rattle.std.specs.Result.{IsErr, IsErrAnd}
use Rattle.std.proofs.lemmas.Result.{err_from_is_err_and}
use mathlib.Core.Path.{◌≡◌, refl}
use mathlib.Core.List.{List, []}
use mathlib.Core.Option.{Option, none, some}
use mathlib.Core.Bool.{true, false}
use native.Mathlib.Omega.{arith}
use Rattle.rules.specs.Bytes.{all}
use Rattle.rules.specs.Statements.{Shape, contents, statements_open}
use Rattle.rules.specs.Signals.{Wires}
use Rattle.rules.specs.Judgement.{breaks_number, lowest, meaning, all_parts, lacks_wire, equal, part_too_wide, judgement_open}
use Rattle.line_forms.specs.Forms.{form_of, value_in, InRows, FormFrom}
use Rattle.line_forms.specs.declared.Form.{Form}
use Rattle.line_forms.specs.declared.Form.TheVariants as form
use Rattle.tokens.specs.declared.ConstantSpan.{ConstantSpan}
use Rattle.literals.specs.Codes.{Whole}
use Rattle.signals.specs.Reads.{Closed}
use Rattle.syntax.specs.Statements.{number_of, fault_of, early, overfull, width_fault, statement_in, kind_in, names_in, steps_of, widths_in, Sound, WholeForm, Says, refused, judged}
use Rattle.syntax.specs.declared.Statement.{Statement}
use Rattle.syntax.specs.declared.LineFault.{LineFault}
use Rattle.syntax.specs.declared.LineFault.TheVariants.{BadNumber}

-- what the judgement of a line without signals computes
unfoldable pub plain_open : Unit {0}
unfolding form_of value_in early fault_of statement_in kind_in names_in steps_of widths_in statements_open judgement_open all
plain_open = tt

module _ (ws : Wires) (f s : List ℕ) {sh : Shape} where
  pub bad-number : breaks_number ws sh ≡ true → Says ws f s (some sh) (Err BadNumber)
  unfolding number_of early lowest
  bad-number h = refused refl (rw h)

  -- without signals no wire is missing and no width is wrong
  pub stated :
      (a : Statement) → fault_of a ≡ 0 → (contents sh).signals ≡ [] → breaks_number ws sh ≡ false →
      (contents sh).kind ≡ kind_in a → (contents sh).names ≡ names_in f a → (contents sh).steps ≡ steps_of a → widths_in a ≡ [] → Sound f a → statement_in f s a ≡ some (meaning ws sh) →
      Says ws f s (some sh) (Ok a)
  unfolding early width_fault lowest lacks_wire overfull part_too_wide equal all_parts judgement_open all
  stated a l e h k n d v q m =
      judged
      (record {
        sh = sh;
        is = refl;
        early = rw (h, e);
        kind = k;
        names = n;
        steps = d;
        widths = λ _. rw (e, v);
        sound = q;
        width_fault = rw (e, l);
        means = λ _. m;
      })

err_is : {A : Type 0} {x y : LineFault} → ◌≡◌ {A = Result A LineFault} (Err x) (Err y) → x ≡ y
err_is e = cc

-- the answer where a `?` ends the line: behind another answer, and behind `ok_or`
module _ {ws : Wires} {f s : List ℕ} {sh : Option Shape} {r : Result Statement LineFault} {x y : LineFault} (q : IsErr r × IsErrAnd r (λ e. e ≡ x)) where
  pub left_with : x ≡ y → Says ws f s sh (Err y) → Says ws f s sh r
  left_with e k = let p = err_from_is_err_and r q.1 in rw (p.1, p.2, e) k

  pub left_by : {A : Type 0} {o : Optional A} → Err x ≡ ok_or o y → o ≡ None → Says ws f s sh (Err y) → Says ws f s sh r
  left_by e n = left_with (err_is (rw n at e))

-- a constant of rows whose strings have their ends, and a form of such rows
module _ (f t : List ℕ) (C : Closed f t) where
  in_rows : (c : ConstantSpan) → InRows t c → Whole f c
  in_rows c (i, e) = rw e at (C.whole i)

  pub form-whole : (x : Form) → FormFrom t x → WholeForm f x
  form-whole (form.Autoidx z) h = tt
  form-whole (form.Attribute n c) h = in_rows c h
  form-whole (form.Module n) h = tt
  form-whole (form.Parameter n (Some c)) h = in_rows c h
  form-whole (form.Parameter n None) h = tt
  form-whole (form.Cell k n) h = tt
  form-whole (form.CellParameter s n c) h = (h.0, in_rows c h.1)
  form-whole (form.Process n) h = tt
  form-whole form.End h = tt
