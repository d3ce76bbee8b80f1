-- A wire's and a memory's line, judged by their options.
-- Assumes nothing.
use Prim.Native.Nat.{ℕ, ◌+◌, ◌*◌, ◌≤◌, ◌<◌}
use Rattle.std.specs.Prelude.{Ok, Err}
use mathlib.Core.Path.{◌≡◌, refl}
use mathlib.Core.List.{List, [], Option-to_list}
use mathlib.Core.Option.{Option, none, some, Option-elim}
use mathlib.Core.Bool.{true, false, not, cond, ◌&&◌}
use native.Mathlib.Omega.{arith}
use lib.Dec.{eqb}
use Rattle.rules.specs.Bytes.{any, all}
use Rattle.rules.specs.Tokens.{Name}
use Rattle.rules.specs.Statements.{Opt, Wire, Direction, wire-stmt, memory-stmt}
use Rattle.rules.specs.Numbers.{int32, good_wire, good_memory, wire_of, memory_of}
use Rattle.rules.specs.Signals.{Wires, twos_complement}
use Rattle.rules.specs.Judgement.{port_numbers, new_port}
use Rattle.rules.specs.Layout.{Used, padded, row, direction_code, flags, wire_row}
use Rattle.context.specs.Offsets.{good-offset, memory-offset}
use Rattle.wires.specs.Rows.{column, word_at}
use Rattle.wires.specs.RowLaws.{row-wire, flags-few}
use Rattle.line_forms.specs.Forms.{name_in}
use Rattle.scanner.specs.declared.parts.Span.{Span}
use Rattle.option_rules.specs.Limits.{port_number, flag_bits, WireGood, MemoryGood}
use Rattle.option_rules.proofs.Ports.{code-range}
use Rattle.option_rules.proofs.Meaning.{bits_most}
use Rattle.syntax.specs.Statements.{wire_from, memory_from, Says}
use Rattle.syntax.specs.declared.Statement.TheVariants as statement
use Rattle.syntax.specs.declared.LineFault.TheVariants.{BadNumber}
use Rattle.numbers.specs.SignedLaws.{number-back}
use Rattle.syntax.proofs.ShapeLaws.{plain_open, bad-number, stated}

-- ---- a wire from its columns

wire-back : (x : Wire) → int32 x.offset ≡ true → wire_from x.width (twos_complement x.offset) (flags x) (port_number x.port) ≡ x
unfolding wire_from column word_at wire_row row padded
wire-back x h =
    let u : Used = record { names = 0; strings = 0; bits = 0; wires = 0; rows = 0; modules = 0 } in
    row-wire _ 0 u [] x (λ c l. let q : 8 * 0 + c ≡ c = omega arith in rw q) h

-- the flags tell whether there is a port
no-port : (k : ℕ) (q : Option (Direction × ℕ)) → k + Option-elim q 0 (λ p. direction_code p.0) ≤ 3 → q ≡ none
unfolding Option-elim
no-port k none h = refl
no-port k (some (d, n)) h = absurd (omega (arith, (code-range d).0))

a-port : (k : ℕ) (q : Option (Direction × ℕ)) → k ≤ 3 → 3 < k + Option-elim q 0 (λ p. direction_code p.0) → (d : Direction) × (q ≡ some (d, port_number q))
unfolding Option-elim
a-port k none l h = absurd (omega arith)
a-port k (some (d, n)) l h = (d, refl)

module _ (ws : Wires) (os : List Opt) {w t k p : ℕ} (G : WireGood os w t k p) where
  -- so without one it can't be taken, and with one it is new where no wire has it
  pub port-free : k ≤ 3 → new_port ws os ≡ true
  unfolding new_port port_numbers flags all Option-to_list
  port-free h =
      let x = wire_of os in
      let g : flags x ≤ 3 = rw G.flags h in
      rw (no-port (cond x.upto 1 0 + cond x.signed 2 0) x.port g)

  pub port-new : 3 < k → new_port ws os ≡ not (any (λ v. any (eqb p) (port_numbers v.1)) ws) && true
  unfolding new_port port_numbers flags flag_bits all Option-to_list
  port-new h =
      let x = wire_of os in
      let g : 3 < flags x = rw G.flags h in
      let q = a-port (cond x.upto 1 0 + cond x.signed 2 0) x.port (bits_most x.upto x.signed refl) g in
      rw (q.1, G.port)

-- ---- judged

module _ (ws : Wires) (f s : List ℕ) (os : List Opt) (n : Name) where
  pub wire-bad : good_wire os ≡ false → Says ws f s (some (wire-stmt os n)) (Err BadNumber)
  unfolding plain_open
  wire-bad h = bad-number ws f s (rw h)

  pub port-bad : good_wire os ≡ true → new_port ws os ≡ false → Says ws f s (some (wire-stmt os n)) (Err BadNumber)
  unfolding plain_open
  port-bad g h = bad-number ws f s (rw (g, h))

  pub memory-bad : good_memory os ≡ false → Says ws f s (some (memory-stmt os n)) (Err BadNumber)
  unfolding plain_open
  memory-bad h = bad-number ws f s (rw h)

wire-means : (os : List Opt) {w t k p : ℕ} → WireGood os w t k p → wire_from w t k p ≡ wire_of os
wire-means os G = rw (← G.width, ← G.offset, ← G.flags, ← G.port) (wire-back (wire_of os) (good-offset os G.good))

wire-sound : (os : List Opt) {w t k p : ℕ} → WireGood os w t k p → (k < 16) × (k < 4 → p ≡ 0)
unfolding flags flag_bits Option-elim
wire-sound os G =
    let x = wire_of os in
    let bits = cond x.upto 1 0 + cond x.signed 2 0 in
    let e = G.flags in (
      omega (arith, e, flags-few x),
      λ h. let g : flags x ≤ 3 = omega (arith, e) in rw (← G.port, no-port bits x.port g),
    )

module _ (ws : Wires) (f s : List ℕ) (os : List Opt) (n : Span) where
  pub wire-stated : {w t k p : ℕ} → WireGood os w t k p → new_port ws os ≡ true → Says ws f s (some (wire-stmt os (name_in f n))) (Ok (statement.Wire n w t k p))
  unfolding plain_open
  wire-stated G h = stated ws f s _ refl refl (rw (G.good, h)) refl refl refl refl (wire-sound os G) (rw (wire-means os G))

  pub memory-stated : {w z t : ℕ} → MemoryGood os w z t → Says ws f s (some (memory-stmt os (name_in f n))) (Ok (statement.Memory n w z t))
  unfolding plain_open memory_of memory_from
  memory-stated G =
      stated ws f s _ refl refl (rw G.good) refl refl refl refl tt
      (rw (← G.width, ← G.size, number-back _ _ (memory-offset os G.good) G.offset))
