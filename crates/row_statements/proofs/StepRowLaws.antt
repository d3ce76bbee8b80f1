-- A line inside a process: where its row and its bits stand, and where not.
-- Assumes nothing.
use Prim.Native.Nat.{ℕ, ◌-◌, ◌*◌, ◌≤◌}
use mathlib.Core.Path.{◌≡◌, refl, sym, ap, ◌∙◌}
use mathlib.Core.List.{List, [], ◌∷◌, map, flat_map, zip, zip_with}
use mathlib.Core.Option.{Option-elim}
use mathlib.Core.Bool.{Bool, true, false, cond}
use native.Mathlib.Omega.{arith}
use native.Mathlib.Nat.{mul-le-mul}
use lib.Dec.{eqb, leb}
use lib.ListN.{length, length-map}
use Rattle.std.specs.Prelude.{Some, None}
use Rattle.std.specs.Prelude.{Option as Optional}
use borrow.Author.Tests.{eq-eqb, eqb-true, le-leb, leb-true}
use Rattle.rules.specs.Bytes.{same, all}
use Rattle.rules.specs.Statements.{Signal, Step, step_code, contents, holds, code, step-stmt}
use Rattle.rules.specs.Signals.{Wires}
use Rattle.rules.specs.Judgement.{sum, equal, signal_size, name_size}
use Rattle.rules.specs.Layout.{Used, padded, row, bit_code, name_bytes, bit_codes, wire_rows, each_length, columns, statement_row}
use Rattle.admitted.specs.Admitted.{fine_signal, arity, fine_alone, fine_parts}
use Rattle.admitted.specs.AdmitLaws.{fine-parts}
use Rattle.tables.specs.Row.{words}
use Rattle.tables.specs.declared.Row.{Row}
use Rattle.lists.specs.Lists.{same_at}
use Rattle.lists.specs.Tests.{by-test, and-true-left, and-true-right, never}
use Rattle.lists.specs.Elements.{Each, each_map}
use Rattle.lists.specs.Sums.{length-equal}
use Rattle.wires.specs.Rows.{wires_from}
use Rattle.netlist.specs.StepLaws.{step_back, even-widths}
use Rattle.steps.specs.Steps.{ArityIs}
use Rattle.row_statements.specs.Parts.{whole, bits_stand}
use Rattle.row_statements.specs.Reads.{part_tables, step_or, signals_of, even_fits, even_signals, Reads, Tells, TellsStep}
use Rattle.row_statements.specs.declared.statements.Found.{Found}
use Rattle.row_statements.proofs.Spans.{has-none, has_span, has-whole}
use Rattle.row_statements.proofs.ReadLaws.{found, laid}
use Rattle.row_statements.proofs.PieceLaws.{even-equal, even-each, even_sum, none_each, first-narrow, signals-count, signals-codes, signals-even, signals-fine}

-- a code that a step has is that of the step that it names
step-code : (p : Step) → step_or (step_code p) ≡ p
unfolding step_or Option-elim
step-code p = rw (step_back p)

-- ---- what passes

pub fits_width : (w n : ℕ) → even_fits w n ≡ true → w ≤ 2048
unfolding even_fits
fits_width w n e =
    by-test (eqb n 0) (λ z. let q = rw z at e in omega (arith, eqb-true w 0 q)) (λ z. let q = rw z at e in leb-true w 2048 (and-true-left (leb w 2048) _ q))

pub fits_count : (w n : ℕ) → even_fits w n ≡ true → n ≤ 4096
unfolding even_fits
fits_count w n e =
    by-test (eqb n 0) (λ z. omega (arith, eqb-true n 0 z)) (λ z. let q = rw z at e in leb-true n 4096 (and-true-right (leb w 2048) _ q))

fits-none : (w n : ℕ) → even_fits w n ≡ true → n ≡ 0 → w ≡ 0
unfolding even_fits
fits-none w n e z = let q = rw (eq-eqb n 0 z) at e in eqb-true w 0 q

-- so that the bits of a row can be counted
pub fits-small : (w n : ℕ) → even_fits w n ≡ true → w * n ≤ 8388608
fits-small w n e = mul-le-mul (fits_width w n e) (fits_count w n e)

passes : (w n : ℕ) → w ≤ 2048 → n ≤ 4096 → (n ≡ 0 → w ≡ 0) → even_fits w n ≡ true
unfolding even_fits
passes w n l m z = by-test (eqb n 0) (λ e. rw (e, eq-eqb w 0 (z (eqb-true n 0 e)))) (λ e. rw (e, le-leb w 2048 l, le-leb n 4096 m))

-- ---- a step

module _ (bits wires : List ℕ) (u : Used) (first : ℕ) (r : Row) where
  abbrev inside : List ℕ → Wires
  inside names = wires_from names wires first (u.wires - first)

  abbrev signals : List Signal
  signals = signals_of bits u.bits r.c r.d

  abbrev there : (names strings : List ℕ) → Type 0
  there names strings = Reads (part_tables names strings bits wires) u (inside names) r (step-stmt (step_or r.a) signals)

  module _ {names strings : List ℕ} (d : there names strings) where
    read_step : step_code (step_or r.a) ≡ r.a
    unfolding statement_row columns contents holds words row padded
    read_step = sym (same_at 1 d.row)

    read-width : r.c ≡ each_length signals
    unfolding statement_row columns contents holds words row padded
    read-width = same_at 3 d.row

    read-fine : all (fine_signal (inside names)) signals ≡ true
    unfolding contents holds
    read-fine = (fine-parts (inside names) _ d.fine).signals

    read-narrow : r.c ≤ 2048
    read-narrow = omega (arith, read-width, first-narrow (inside names) signals read-fine)

    read-even : equal (map length signals) ≡ true
    unfolding even_signals contents holds
    read-even = and-true-left _ _ d.even

    read-few : r.d ≤ 4096
    unfolding even_signals contents holds
    read-few = omega (arith, signals-count bits u.bits r.c r.d, leb-true (length signals) 4096 (and-true-right (equal (map length signals)) _ d.even))

    read_whole : whole bits u.bits (r.c * r.d) ≡ true
    unfolding bit_codes flat_map contents holds
    read_whole =
        let each : Each (λ x. length (map bit_code x) ≡ r.c) signals = each_map _ _ (λ x e. length-map x bit_code ∙ e ∙ sym read-width) signals (even-widths signals read-even) in
        has-whole bits u.bits (r.c * r.d) (flat_map (map bit_code) signals) d.parts.bits-has
        (sym (length-equal (map bit_code) r.c signals each ∙ ap (λ (n : ℕ). r.c * n) (signals-count bits u.bits r.c r.d)))

    read-bits : bits_stand (inside names) bits u.bits (r.c * r.d) ≡ true
    unfolding bits_stand
    read-bits = rw (read_whole, ← signals-fine bits u.bits r.c r.d read_whole (inside names) read-narrow) read-fine

  pub step-arity : {b : Bool} → ArityIs r.a r.d b → b ≡ false → TellsStep bits wires u first r None
  unfolding Tells contents holds all
  step-arity {b} h e names strings d =
      never b
      (h.fits (step_or r.a) (read_step d)
      ∙ ap (arity (step_or r.a)) (sym (signals-count bits u.bits r.c r.d))
      ∙ and-true-left (arity (step_or r.a) (length signals)) true (fine-parts (inside names) _ d.fine).arities)
      e

  pub step-uneven : even_fits r.c r.d ≡ false → TellsStep bits wires u first r None
  unfolding Tells
  step-uneven e names strings d =
      never (even_fits r.c r.d)
      (passes r.c r.d (read-narrow d) (read-few d) (λ z. read-width d ∙ none_each signals (signals-count bits u.bits r.c r.d ∙ z)))
      e

  pub step-bits : ((names : List ℕ) → bits_stand (inside names) bits u.bits (r.c * r.d) ≡ false) → TellsStep bits wires u first r None
  unfolding Tells
  step-bits h names strings d = never (bits_stand (inside names) bits u.bits (r.c * r.d)) (read-bits d) (h names)

  pub step-settled :
      {b : Bool} → ArityIs r.a r.d b → b ≡ true → even_fits r.c r.d ≡ true → ((names : List ℕ) → bits_stand (inside names) bits u.bits (r.c * r.d) ≡ true) →
      (x : Row) → words x ≡ row (13 ∷ r.a ∷ u.bits ∷ r.c ∷ r.d ∷ []) → (f : Optional Found) →
      f ≡ cond (same (words r) (words x)) (Some (found r.d (r.c * r.d) 0 0 0)) None → TellsStep bits wires u first r f
  unfolding statement_row columns code contents holds fine_alone fine_parts bits_stand even_signals all name_bytes wire_rows flat_map zip zip_with signal_size name_size sum
  step-settled h q e k x ex f ef names strings =
      let p = h.step q in
      let named : step_or r.a ≡ p.0 = ap step_or (sym p.1) ∙ step-code p.0 in
      let coded : step_code (step_or r.a) ≡ r.a = ap step_code named ∙ p.1 in
      let count = signals-count bits u.bits r.c r.d in
      let w : whole bits u.bits (r.c * r.d) ≡ true = and-true-left _ _ (k names) in
      let even = signals-even bits u.bits r.c r.d w in
      let each : each_length signals ≡ r.c = even-each r.c r.d signals even count (fits-none r.c r.d e) in
      let fine : all (fine_signal (inside names)) signals ≡ true = signals-fine bits u.bits r.c r.d w (inside names) (fits_width r.c r.d e) ∙ and-true-right (whole bits u.bits (r.c * r.d)) _ (k names) in
      let fits : arity (step_or r.a) r.d ≡ true = sym (h.fits (step_or r.a) coded) ∙ q in
      laid (part_tables names strings bits wires) u (inside names) r x _ refl (rw (coded, each, count) ex) (has-none _ _) (rw (signals-codes bits u.bits r.c r.d) (has_span bits u.bits (r.c * r.d))) (has-none _ _)
      (rw (count, fits, fine)) (rw (even-equal r.c signals even, count, le-leb r.d 4096 (fits_count r.c r.d e))) (sym count) (sym (even_sum r.c signals even ∙ ap (λ (n : ℕ). r.c * n) count)) refl f ef
