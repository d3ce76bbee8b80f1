-- A line that is accepted after the statements so far gives a statement that is admitted after them.
-- Assumes nothing.
use Rattle.std.specs.Prelude.{ℕ, ◌≡◌, false, ◌&&◌, length}
use Rattle.std.proofs.Math.Path.{refl, ap₂}
use Rattle.std.proofs.Common.{ap, ◌∙◌}
use mathlib.Core.List.{List, [], ◌∷◌, map}
use Rattle.std.proofs.Math.Option.{Option}
use Rattle.std.proofs.Math.Bool.{Bool, true, not}
use Rattle.std.proofs.Math.Dec.{leb, eqb}
use Rattle.std.proofs.Math.ListN.{length-map}
use borrow.Author.Tests.{not-false}
use Rattle.rules.specs.Bytes.{same, any, all}
use Rattle.rules.specs.Tokens.{Name, Token}
use Rattle.rules.specs.Statements.{Opt, Shape, Statement, Step, Kind, code, holds, contents, is, own_name}
use Rattle.rules.specs.Shapes.{shape}
use Rattle.rules.specs.Numbers.{int32, good_literal, good_numbers, good_wire, good_memory, wire_of, memory_of}
use Rattle.rules.specs.Signals.{Wires, kept, width, bits, good_slice}
use Rattle.rules.specs.Judgement.{Past, context, wires, among, names_in, name_spaces, takes_name, new_port, all_parts, breaks_number, fit_widths, breaks_width, part_too_wide, Verdict, meaning, judge_in, judge}
use Rattle.rules.specs.Reading.{shaped}
use Rattle.lists.specs.Tests.{and-true-left, and-true-right, or-false-right, or-false-left}
use Rattle.admitted.specs.Admitted.{kinds, steps_in, same_step, stands_in, stands, own_wire, new_ports, fine_memory, fine_alone, fine_parts, admits}
use Rattle.admitted.specs.JudgeLaws.{meaning-kind, meaning-among, judge-passed, by-verdict}
use Rattle.written.specs.TokenLaws.{fine_token}
use Rattle.soundness.specs.ShapeLaws.{FineShape, FineShaped, no-shape, fine-shape, shape-fine}
use Rattle.context.specs.Forms.{translated, contents-translated}
use Rattle.soundness.specs.PartLaws.{both, constants-fine, wire-fine, memory-fine, narrow, signals-fine, same-lengths}
use Rattle.lists.specs.Elements.{all-through, each-test}

-- the tests of a shape that no number refuses
record GoodShape (ws : Wires) (ss : Past) (sh : Shape) : Type 0 where
  integers : all int32 (contents sh).integers ≡ true
  constants : all good_literal (contents sh).constants ≡ true
  numbers : all good_numbers (all_parts sh) ≡ true
  wires : all (λ os. good_wire os && new_port ws os) (contents sh).wires ≡ true
  memories : all good_memory (contents sh).memories ≡ true
  slices : all (good_slice ws) (all_parts sh) ≡ true
  fit : fit_widths ss sh (map (width ws) (contents sh).signals) ≡ true
  narrow : all (narrow ws) (all_parts sh) ≡ true

module _ (ws : Wires) (ss : Past) (sh : Shape) where
  good-shape : breaks_number ws sh ≡ false → breaks_width ws ss sh ≡ false → part_too_wide ws sh ≡ false → GoodShape ws ss sh
  unfolding breaks_number breaks_width part_too_wide narrow
  good-shape e₇ e₁₀ e₁₁ =
      let h = each-test (all int32 (contents sh).integers) (all good_literal (contents sh).constants ∷ all good_numbers (all_parts sh) ∷ _ ∷ _ ∷ []) (not-false _ e₇) in
      let k = each-test (all (good_slice ws) (all_parts sh)) (fit_widths ss sh (map (width ws) (contents sh).signals) ∷ []) (not-false _ e₁₀) in
      record {
        integers = h.0;
        constants = h.1.0;
        numbers = h.1.1.0;
        wires = h.1.1.1.0;
        memories = h.1.1.1.1.0;
        slices = k.0;
        fit = k.1.0;
        narrow = not-false (all (λ s. leb (width ws s) 2048) (all_parts sh)) e₁₁;
      }

  -- the parts of what it means
  meaning-fine : {ks : List Kind} {ps : List Step} → FineShape ks ps sh → GoodShape ws ss sh → fine_parts ws (meaning ws sh) ≡ true
  unfolding new_port new_ports fine_alone fine_parts meaning translated holds all_parts
  meaning-fine f k =
      let fits : List Opt → Bool = λ os. good_wire os && new_port ws os in
      rw (
        contents-translated kept (bits ws) wire_of memory_of sh,
        f.names,
        k.integers,
        constants-fine (contents sh).constants k.constants f.constants,
        all-through fits wire_of own_wire (contents sh).wires (λ os e. wire-fine os (and-true-left (good_wire os) _ e)) k.wires,
        all-through good_memory memory_of fine_memory (contents sh).memories memory-fine k.memories,
        length-map (contents sh).signals (bits ws),
        f.arities,
        all-through fits wire_of (new_ports ws) (contents sh).wires (λ os e. and-true-right (good_wire os) _ e) k.wires,
        signals-fine ws (contents sh).signals k.numbers k.slices k.narrow,
      )

  -- the widths of its signals
  meaning-fits : GoodShape ws ss sh → fit_widths ss (meaning ws sh) (map length (contents (meaning ws sh)).signals) ≡ true
  unfolding fit_widths meaning translated holds all_parts
  meaning-fits k =
      rw (contents-translated kept (bits ws) wire_of memory_of sh, same-lengths ws (contents sh).signals k.numbers k.slices) k.fit

  -- its steps
  meaning-steps : (contents (meaning ws sh)).steps ≡ (contents sh).steps
  unfolding meaning translated holds
  meaning-steps = rw (contents-translated kept (bits ws) wire_of memory_of sh)

  meaning-names : (contents (meaning ws sh)).names ≡ (contents sh).names
  unfolding meaning translated holds
  meaning-names = rw (contents-translated kept (bits ws) wire_of memory_of sh)

  -- it takes the names that the shape takes
  meaning-takes : takes_name ss (meaning ws sh) ≡ takes_name ss sh
  unfolding takes_name among is
  meaning-takes =
      ap₂ (λ (k : Kind) (ns : List Name). any (λ z. any (λ l. eqb (code l) (code k)) z.kinds && any (same (own_name ns)) (names_in z ss)) name_spaces)
      (meaning-kind ws sh) meaning-names

module _ (ss : Past) where
  abbrev there : List Kind
  there = kinds (context ss).scope (context ss).first (context ss).attributed

  abbrev steps : List Step
  steps = steps_in (context ss).scope (context ss).attributed

  -- what is judged and accepted
  judge-admits : (sh : Shape) → FineShape there steps sh → judge ss sh ≡ Verdict.accepted (meaning (wires ss) sh) → admits ss (meaning (wires ss) sh) ≡ true
  unfolding admits stands stands_in
  judge-admits sh f e =
      let ws = wires ss in
      let p = judge-passed ss sh _ e in
      let k = good-shape ws ss sh p.numbers p.widths (or-false-left _ _ p.room) in
      let t : among there (meaning ws sh) ≡ true = rw meaning-among f.stands in
      let u : all (λ p. any (same_step p) steps) (contents (meaning ws sh)).steps ≡ true = rw (meaning-steps ws ss sh) f.steps in
      both _ _
      (both _ _
      (both _ _ (both _ _ (both _ _ t u) (meaning-fine ws ss sh f k)) (meaning-fits ws ss sh k)) (ap not (meaning-takes ws ss sh ∙ p.new-name)))
      (ap not (or-false-right (part_too_wide ws sh) _ p.room))

  -- a line of some shape gives what is admitted, or is refused with a number that is not 0
  pub data FineVerdict : Verdict Statement → Type 0 where
    admitted-line : {s : Statement} → admits ss s ≡ true → FineVerdict (Verdict.accepted s)
    refused-line : {n : ℕ} → leb 1 n ≡ true → FineVerdict (Verdict.refused n)

  judge-fine : (sh : Shape) → FineShape there steps sh → FineVerdict (judge ss sh)
  unfolding judge judge_in all
  judge-fine sh f = by-verdict FineVerdict (meaning (wires ss) sh) _ refl (λ e. admitted-line (judge-admits sh f e)) (λ n h. refused-line h)

  by_shape : {o : Option Shape} → FineShaped there steps o → FineVerdict (shaped ss o)
  unfolding shaped
  by_shape no-shape = refused-line refl
  by_shape (fine-shape {sh} f) = judge-fine sh f

  pub shaped-fine : (ts : List Token) → all fine_token ts ≡ true → FineVerdict (shaped ss (shape (context ss) ts))
  shaped-fine ts h = by_shape (shape-fine (context ss) ts h)
