-- What a judged line is refused with, or states, after the statements so far.
-- Assumes nothing.
use Prim.Native.Nat.{ℕ, ◌+◌}
use Rattle.std.specs.Prelude.{Ok, Err}
use mathlib.Core.Path.{◌≡◌, refl, ap, ap₂, ◌∙◌}
use mathlib.Core.List.{List, [], ◌∷◌, map, flat_map}
use mathlib.Core.Option.{Option, none, some, get_or}
use mathlib.Core.Bool.{Bool, true, false, not, ◌&&◌, ◌||◌, false≢true}
use native.Mathlib.Omega.{arith}
use lib.Dec.{eqb}
use lib.ListN.{length}
use borrow.Author.Tests.{ltb-true, not-false}
use Rattle.rules.specs.Statements as rules
use Rattle.rules.specs.Statements.{Shape, Sig, holds, contents}
use Rattle.rules.specs.Signals.{Wires, parts, width, bits, kept, good_slice}
use Rattle.rules.specs.Bytes.{all}
use Rattle.rules.specs.Numbers.{int32, good_literal, good_numbers, good_wire, good_memory, wire_of, memory_of}
use Rattle.rules.specs.Judgement.{Past, sum, new_port, breaks_number, wires, Verdict, verdict, lowest, meaning, takes_name, all_parts, equal, step_widths, fit_widths, breaks_width, part_too_wide, signal_size, exceeds_size, judge_in, judge}
use Rattle.rules.specs.Reading.{shaped}
use Rattle.syntax.specs.Statements.{number_of, fault_of, early, overfull, width_fault, Sound, Judged, Says, no-shape, refused, judged}
use Rattle.lists.specs.Tests.{by-test}
use Rattle.lists.specs.Elements.{all_left, all_right, test_at}
use Rattle.lists.specs.Sums.{sum-map}
use Rattle.literal_rules.proofs.SignalLaws.{bits-long}
use Rattle.context.specs.Forms.{translated, contents-translated}
use Rattle.context.specs.Sizes.{sizes_by, sums_of}
use Rattle.context.proofs.SizeLaws.{within-past}
use Rattle.netlist.specs.StepLaws.{equal-last}
use Rattle.syntax.specs.declared.Statement.{Statement}
use Rattle.syntax.specs.declared.LineFault.{LineFault}
use Rattle.syntax.specs.declared.LineFault.TheVariants.{NoShape}

-- two tests, and those behind them
two : (a b : Bool) → List (ℕ × Bool) → Option ℕ
two a b ts = lowest ((7, a) ∷ (8, b) ∷ ts)

tests-early : (a b : Bool) (ts : List (ℕ × Bool)) (n : ℕ) → two a b [] ≡ some n → two a b ts ≡ some n
unfolding two lowest
tests-early true b ts n h = h
tests-early false true ts n h = h
tests-early false false ts n h = let z : ◌≡◌ {A = ℕ} 0 1 = cc in absurd (omega arith)

tests-late : (a b : Bool) (ts : List (ℕ × Bool)) → two a b [] ≡ none → two a b ts ≡ lowest ts
unfolding two lowest
tests-late true b ts h = let z : ◌≡◌ {A = ℕ} 0 1 = cc in absurd (omega arith)
tests-late false true ts h = let z : ◌≡◌ {A = ℕ} 0 1 = cc in absurd (omega arith)
tests-late false false ts h = refl

-- the tests behind a taken name, by the number that the signals leave: of good slices g, equal widths e that are also those asked for (u), parts too
-- wide d, more bits than a line has room for o, and exceeded sizes x
tests-behind :
    (t g e u d o x : Bool) → (u ≡ true → e ≡ true) → (g ≡ true → o ≡ true → x ≡ true) → let n = get_or (lowest ((10, not (g && e)) ∷ (11, d || o) ∷ [])) 0 in
    lowest ((9, t) ∷ (10, not (g && u)) ∷ (11, d || x) ∷ []) ≡ lowest ((9, t) ∷ (10, eqb n 10 || not u) ∷ (11, eqb n 11 || x) ∷ [])
unfolding lowest
tests-behind t false e u d o x h k = refl
tests-behind t true false false d o x h k = refl
tests-behind t true false true d o x h k = absurd (false≢true (h refl))
tests-behind t true true false true o x h k = refl
tests-behind t true true false false true x h k = refl
tests-behind t true true false false false x h k = refl
tests-behind t true true true true o x h k = refl
tests-behind t true true true false true x h k = rw (k refl refl)
tests-behind t true true true false false x h k = refl

-- more signal bits than a design has room for exceed a size; bits are as many as the widths say where numbers and slices are good
bits-wide : (ws : Wires) (ss : List Sig) → all good_numbers (flat_map parts ss) ≡ true → all (good_slice ws) (flat_map parts ss) ≡ true → sum (λ x. length (bits ws x)) ss ≡ sum (width ws) ss
unfolding sum flat_map
bits-wide ws [] n g = refl
bits-wide ws (x ∷ ss) n g =
    ap₂ ◌+◌ (bits-long ws x (all_left good_numbers (parts x) _ n) (all_left (good_slice ws) (parts x) _ g))
    (bits-wide ws ss (all_right good_numbers (parts x) _ n) (all_right (good_slice ws) (parts x) _ g))

module _ (ws : Wires) (sh : Shape) (n : all good_numbers (all_parts sh) ≡ true) (g : all (good_slice ws) (all_parts sh) ≡ true) where
  signal-size : signal_size (meaning ws sh) ≡ sum (width ws) (contents sh).signals
  unfolding signal_size meaning translated all_parts holds
  signal-size = rw (contents-translated kept (bits ws) wire_of memory_of sh) (sum-map length (bits ws) (contents sh).signals ∙ bits-wide ws (contents sh).signals n g)

  overfull-exceeds : (ss : Past) → overfull ws sh ≡ true → exceeds_size (meaning ws sh ∷ ss) ≡ true
  unfolding overfull sizes_by sums_of sum
  overfull-exceeds ss h =
      let m = meaning ws sh in
      by-test (exceeds_size (m ∷ ss)) (λ e. e)
      (λ e. absurd (omega (arith, ltb-true 8192 (sum (width ws) (contents sh).signals) h, signal-size, (within-past (m ∷ ss) e).signal-bits)))

-- a shape without a number before a taken name has good numbers
good-early : (a b : Bool) → two a b [] ≡ none → a ≡ false
unfolding two lowest
good-early true b h = let z : ◌≡◌ {A = ℕ} 0 1 = cc in absurd (omega arith)
good-early false b h = refl

early-good : (ws : Wires) (sh : Shape) → early ws sh ≡ none → all good_numbers (all_parts sh) ≡ true
unfolding early two breaks_number
early-good ws sh e =
    let c = contents sh in
    let h = not-false _ (good-early _ _ e) in
    test_at (all int32 c.integers)
    (all good_literal c.constants ∷ all good_numbers (all_parts sh) ∷ all (λ os. good_wire os && new_port ws os) c.wires ∷ all good_memory c.memories ∷ []) h 2

-- what is left to judge of a statement whose signals leave a number
unfoldable pub behind : Past → Shape → rules.Statement → ℕ → Option ℕ
behind ss sh m n =
    lowest
    ((9, takes_name ss sh)
    ∷ (10, eqb n 10 || not (fit_widths ss sh (map (width (wires ss)) (contents sh).signals)))
    ∷ (11, eqb n 11 || exceeds_size (m ∷ ss))
    ∷ [])

-- refused before a taken name
pub refused-early : (ss : Past) {o : Option Shape} {sh : Shape} {n : ℕ} → o ≡ some sh → early (wires ss) sh ≡ some n → shaped ss o ≡ Verdict.refused n
unfolding shaped judge judge_in verdict early two
refused-early ss is e = rw (is, tests-early _ _ _ _ e)

-- or judged by its name, by what its signals leave, and by the sizes
module _ (ss : Past) (f s : List ℕ) {o : Option Shape} {a : Statement} (J : Judged (wires ss) f s o a) where
  pub judged-late : shaped ss o ≡ verdict (meaning (wires ss) J.sh) (behind ss J.sh (meaning (wires ss) J.sh) (fault_of a))
  unfolding shaped judge judge_in early two width_fault behind breaks_width fit_widths
  judged-late =
      let sh = J.sh in
      let ws = wires ss in
      rw (J.is, tests-late _ _ _ J.early, ← J.width_fault)
      (ap (verdict (meaning ws sh))
      (tests-behind _ (all (good_slice ws) (all_parts sh)) (equal (map (width ws) (contents sh).signals)) _ (part_too_wide ws sh) (overfull ws sh) _
      (equal-last (flat_map (step_widths ss) (contents sh).steps) _) (λ g. overfull-exceeds ws sh (early-good ws sh J.early) g ss)))

module _ (ws : Wires) (f s : List ℕ) (o : Option Shape) where
  pub says-judged : (a : Statement) → Says ws f s o (Ok a) → Judged ws f s o a
  says-judged a (judged j) = j

-- the verdict on an answer without a statement
pub says-refused : (ss : Past) (f s : List ℕ) (o : Option Shape) (e : LineFault) → Says (wires ss) f s o (Err e) → shaped ss o ≡ Verdict.refused (number_of e)
unfolding shaped number_of
says-refused ss f s o NoShape (no-shape h) = rw h
says-refused ss f s o e (refused i h) = refused-early ss i h
