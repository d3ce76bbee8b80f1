-- A step stored: its signals one by one, and its row.
-- Assumes nothing.
use Prim.Native.Nat.{ℕ, suc, ◌+◌, ◌*◌, ◌≤◌, ◌<◌}
use mathlib.Core.Path.{◌≡◌, refl, sym, ap, ◌∙◌}
use mathlib.Core.List.{List, [], ◌∷◌, ◌++◌, flat_map, reverse}
use mathlib.Core.Option.{some, map}
use mathlib.Core.Bool.{cond}
use native.Mathlib.Nat.{mul-le-mul_right}
use native.Mathlib.Numerals.{add-one}
use native.Mathlib.Omega.{arith}
use lib.Dec.{eqb}
use lib.ListN.{length}
use lib.Seq.{slice}
use Rattle.rules.specs.Limits.{most_width, most_signal_bits, longest_file}
use Rattle.rules.specs.Statements as rules
use Rattle.rules.specs.Statements.{Step, step_code, step-stmt, code, holds, contents}
use Rattle.rules.specs.Layout as rooms
use Rattle.rules.specs.Layout.{padded, row, bit_codes, columns, statement_row}
use Rattle.tables.specs.Store.{store, store_then}
use Rattle.netlist.specs.Steps.{step_named, pieces}
use Rattle.netlist.specs.StepLaws.{by-named}
use Rattle.netlist.specs.Tables.{Tables, tabled}
use Rattle.netlist.specs.declared.used.Used.{Used}
use Rattle.netlist.specs.Used.{used_of}
use Rattle.syntax.specs.Statements.{fault_of, signals_in, statement_in, Named, Sound}
use Rattle.syntax.specs.declared.Statement.{Statement}
use Rattle.syntax.specs.declared.Statement.TheVariants.{Step as StepOf}
use Rattle.layout.specs.Put.{StepFits, StepPut}
use Rattle.layout.specs.PartLaws.{no_names, no-string, only-signals}
use Rattle.layout.specs.SignalLaws.{pieces-long, pieces-next, signals-count, signals-width, signals-codes}
use Rattle.layout.specs.RoomLaws.{nothing_put, wires-same, row_fits}
use Rattle.layout.specs.Stored.{Storable, PutIs}
use Rattle.layout.proofs.Stored.{puts-is}

-- ---- a turn of the loop over signals

pub turn-put :
    (s d l l' : List ℕ) (w n k at : ℕ) → n * w ≤ length s → k < n → l ≡ store d at (flat_map reverse (pieces w k s)) →
    l' ≡ store l (at + k * w) (reverse (slice (k * w) (k * w + w) s)) → l' ≡ store d at (flat_map reverse (pieces w (k + 1) s))
turn-put s d l l' w n k at h g el el' =
    let more : flat_map reverse (pieces w (k + 1) s) ≡ flat_map reverse (pieces w k s) ++ reverse (slice (k * w) (k * w + w) s) = rw add-one (pieces-next w k (k * w) s refl) in
    let room : k * w ≤ n * w = mul-le-mul_right w (omega arith) in
    let end : at + k * w ≡ at + length (flat_map reverse (pieces w k s)) = ap (λ (x : ℕ). at + x) (sym (pieces-long w k s (omega arith))) in
    store_then d l l' at (at + k * w) (flat_map reverse (pieces w k s)) (reverse (slice (k * w) (k * w + w) s)) el end el' ∙ ap (store d at) (sym more)

-- ---- the code of the step that a code names

module _ (p : ℕ) (q : Step) where
  pub step-code : step_named p ≡ some q → step_code q ≡ p
  step-code =
      by-named p (λ o. o ≡ some q → step_code q ≡ p) (λ h. let z : ◌≡◌ {A = ℕ} 0 1 = cc in absurd (omega arith))
      (λ x e h. let same : x ≡ q = cc in ap step_code (sym same) ∙ e)

-- ---- what a step puts

module _ (s : List ℕ) (w n : ℕ) (q : Step) where
  step-bits : bit_codes (step-stmt q (signals_in s w n)) ≡ flat_map reverse (pieces w n s)
  unfolding holds contents
  step-bits = only-signals (step-stmt q (signals_in s w n)) refl ∙ signals-codes s w n

  step_row :
      (u : rooms.Used) (p : ℕ) → step_named p ≡ some q → n * w ≤ length s →
      statement_row u (step-stmt q (signals_in s w n)) ≡ row (13 ∷ p ∷ u.bits ∷ cond (eqb n 0) 0 w ∷ n ∷ 0 ∷ 0 ∷ [])
  unfolding statement_row columns code holds contents row padded
  step_row u p e h = rw (step-code p q e, signals-width s w n h, signals-count s w n)

pub step-stored :
    (p w n each : ℕ) (u : Used) (s bits bits' rows rows' : List ℕ) → n * w ≤ length s → each ≡ cond (eqb n 0) 0 w →
    bits' ≡ store bits u.bits (flat_map reverse (pieces w n s)) → rows' ≡ store rows (8 * u.rows) (row (13 ∷ p ∷ u.bits ∷ each ∷ n ∷ 0 ∷ 0 ∷ [])) →
    StepPut p w n u s bits bits' rows rows'
step-stored p w n each u s bits bits' rows rows' h e eb er q k =
    (eb ∙ ap (store bits u.bits) (sym (step-bits s w n q)), rw e at er ∙ ap (store rows (8 * u.rows)) (sym (step_row s w n q (used_of u) p k h)))

-- ---- from the answer

module _ (f s : List ℕ) (r : Statement) (p w n l : ℕ) (e : r ≡ StepOf p w n l) (g : Sound f r) where
  step-named : Named p
  step-named = let h : (n ≤ longest_file) × Named p × (l ≡ 0 → (w ≤ most_width) × (n * w ≤ most_signal_bits)) = rw e at g in h.1

  step_is : statement_in f s r ≡ some (step-stmt step-named.0 (signals_in s w n))
  unfolding statement_in
  step_is = ap (statement_in f s) e ∙ ap (map (λ q. step-stmt q (signals_in s w n))) step-named.1

module _ (f s : List ℕ) (r : Statement) (u : Used) (p w n l : ℕ) (e : r ≡ StepOf p w n l) where
  pub step_room : (t : Tables) → Storable f s r u t → StepFits w n u s t.bits t.rows
  unfolding fault_of
  step_room t h =
      let settled : l ≡ 0 = rw e at h.settled in
      let sound : (n ≤ longest_file) × Named p × (l ≡ 0 → (w ≤ most_width) × (n * w ≤ most_signal_bits)) = rw e at h.sound in
      let q : Step = (step-named f s r p w n l e h.sound).0 in
      let x : rules.Statement = step-stmt q (signals_in s w n) in
      let room = h.room x (step_is f s r p w n l e h.sound) in
      let long : length (bit_codes x) ≡ n * w = ap length (step-bits s w n q) ∙ pieces-long w n s (omega (arith, (sound.2 settled).1, h.scratch)) in
      record {
        narrow = (sound.2 settled).0;
        few = sound.0;
        stand = omega (arith, (sound.2 settled).1, h.scratch);
        bits_fit = (omega (arith, room.bits, h.sized.bits), omega (arith, h.sized.bits));
        row_fits = row_fits (used_of u) x room t.rows h.sized.rows;
      }

  pub step-put :
      (names strings bits bits' wires rows rows' : List ℕ) → Sound f r → StepPut p w n u s bits bits' rows rows' →
      PutIs f s r u (tabled names strings bits wires rows) (tabled names strings bits' wires rows')
  unfolding holds contents
  step-put names strings bits bits' wires rows rows' g k =
      let named : Named p = step-named f s r p w n l e g in
      let x : rules.Statement = step-stmt named.0 (signals_in s w n) in
      let z = k named.0 named.1 in
      puts-is f s r u (tabled names strings bits wires rows) (tabled names strings bits' wires rows') x (step_is f s r p w n l e g)
      (record {
        names-put = nothing_put names u.names (no_names x refl);
        strings-put = nothing_put strings u.strings (no-string x refl);
        bits_put = z.0;
        wires-put = wires-same wires (8 * u.wires) x (used_of u) refl;
        rows-put = z.1;
      })
