-- A text by its end, and the text of memory that is open.
-- Assumes nothing.
use Prim.Native.Nat.{ℕ, ◌+◌, ◌-◌, ◌≤◌, ◌<◌}
use mathlib.Core.Path.{◌≡◌, sym, ap, ap₂, ◌∙◌}
use mathlib.Core.List.{List}
use native.Mathlib.Omega.{arith}
use lib.ListN.{length, take, drop}
use lib.Seq.{take-append_seam}
use borrow.Author.Tests.{lt-ltb, le-ltb}
use Rattle.rules.specs.Judgement.{verdict, lowest}
use Rattle.rules.specs.Design.{design}
use Rattle.rules.specs.Session.{now}
use Rattle.rules.specs.Text.{text, write_text, write, measure_text, measure}
use Rattle.rules.specs.Layout.{Memory}
use Rattle.context.specs.declared.place.Place.{Place}
use Rattle.tables.specs.Store.{store, store-eq}
use Rattle.text.specs.Written.{moved, Written, written-whole}
use Rattle.netlist.specs.Lengths.{lengths-exact}
use Rattle.session.specs.Called.{Called, holding, answer}
use Rattle.session.specs.Steps.{Holding}
use Rattle.rename_rules.specs.LiesLaws.{all-wires}
use Rattle.session.proofs.HoldLaws.{rows_before, standing, lies}
use Rattle.netlist.specs.Tables.{tabled}
use Rattle.design_text.specs.Rows.{text_rows}
use Rattle.design_text.specs.declared.Counts.{Counts}
use Rattle.design_text.proofs.Text.{text-held}
use Rattle.writer.specs.Write.{wrote}

-- what was stored at a room's start
store-front : (l t : List ℕ) → length t ≤ length l → take (length t) (drop 0 (store l 0 t)) ≡ t
store-front l t h = ap (take (length t)) (store-eq l 0 t (omega arith)) ∙ take-append_seam t (drop (0 + length t) l)

-- ---- the verdict on a text that ends at r
module _ (t : List ℕ) (r : ℕ) (e : r ≡ moved 0 (length t)) where
  long : 32768 < r → 32768 < length t
  unfolding moved
  long h = omega arith

  end_is : r ≤ 32768 → length t ≡ r
  unfolding moved
  end_is h = omega arith

  pub measure-long : 32768 < r → (12, 0) ≡ answer 0 (measure_text t)
  unfolding answer measure_text verdict lowest
  measure-long h = rw (lt-ltb 32768 (length t) (long h))

  pub measure-short : r ≤ 32768 → (0, r) ≡ answer 0 (measure_text t)
  unfolding answer measure_text verdict lowest
  measure-short h =
      let q : length t ≡ r = end_is h in
      rw (le-ltb 32768 (length t) (omega arith), q)

  module _ (old : List ℕ) where
    pub write-long : 32768 < r → (12, 0, old) ≡ wrote old (write_text (length old) t)
    unfolding wrote write_text verdict lowest
    write-long h = rw (lt-ltb 32768 (length t) (long h))

    pub write-past : r ≤ 32768 → length old < r → (12, 0, old) ≡ wrote old (write_text (length old) t)
    unfolding wrote write_text verdict lowest
    write-past h b =
        let q : length t ≡ r = end_is h in
        rw (le-ltb 32768 (length t) (omega arith), lt-ltb (length old) (length t) (omega arith))

    -- made in a room of its own, and stored from there
    pub write-short :
        r ≤ 32768 → r ≤ length old → {own made new : List ℕ} → Written 0 t own made r → length own ≡ 32768 → new ≡ store old 0 (take (r - 0) (drop 0 made)) →
        (0, r, new) ≡ wrote old (write_text (length old) t)
    unfolding wrote write_text verdict lowest
    write-short h b {own} {made} {new} w l e =
        let q : length t ≡ r = end_is h in
        let z : r - 0 ≡ length t = omega arith in
        let m : take (r - 0) (drop 0 made) ≡ t =
        ap₂ (λ (k : ℕ) (x : List ℕ). take k (drop 0 x)) z (written-whole w (omega arith)) ∙ store-front own t (omega arith) in
        rw (le-ltb 32768 (length t) (omega arith), le-ltb (length old) (length t) (omega arith)) (ap₂ (λ (a : ℕ) (x : List ℕ). (0, a, x)) (sym q) (e ∙ ap (store old 0) m))

-- ---- memory that is open
module _ {m : Memory} {p : Place} (h : Holding m p) where
  pub bits-few : length m.bits ≤ 16384
  bits-few = omega (arith, lengths-exact m h.lengths)

  module _ (C : Counts) (e : C ≡ record { statements = p.rows; wires = p.wires; renames = m.renames }) where
    text-is : text_rows (tabled m.names m.strings m.bits m.wires m.rows) C ≡ text (now (design h.statements) h.renames)
    text-is =
        text-held m h.statements h.renames C h.holds (ap (λ (x : Counts). x.statements) e ∙ sym (rows_before h)) (ap (λ (x : Counts). x.wires) e ∙ sym (all-wires (lies h)))
        (ap (λ (x : Counts). x.renames) e ∙ sym (standing h))

    pub measured :
        (a : ℕ × ℕ) → a ≡ answer 0 (measure_text (text_rows (tabled m.names m.strings m.bits m.wires m.rows) C)) →
        Called m (λ n. (n, 0)) (λ ss rs. answer 0 (measure (now (design ss) rs))) a
    unfolding measure measure_text
    measured a q = holding h.statements h.renames h.lengths h.holds (q ∙ ap (λ (t : List ℕ). answer 0 (measure_text t)) text-is)

    pub written :
        (old : List ℕ) (a : ℕ × ℕ × List ℕ) → a ≡ wrote old (write_text (length old) (text_rows (tabled m.names m.strings m.bits m.wires m.rows) C)) →
        Called m (λ n. (n, 0, old)) (λ ss rs. wrote old (write (length old) (now (design ss) rs))) a
    unfolding write write_text
    written old a q = holding h.statements h.renames h.lengths h.holds (q ∙ ap (λ (t : List ℕ). wrote old (write_text (length old) t)) text-is)
