-- A written statement that may stand is accepted, as that statement.
-- Assumes nothing.
use Rattle.std.specs.Prelude.{ℕ, ◌≡◌, Bool, true, false, ◌&&◌, length, get_or}
use Rattle.std.proofs.Math.Path.{refl}
use Rattle.std.proofs.Common.{ap₂, ◌∙◌}
use mathlib.Core.List.{List, [], ◌∷◌, map, flat_map}
use Rattle.std.proofs.Math.Option.{none, some}
use Rattle.std.proofs.Math.Dec.{leb}
use Rattle.rules.specs.Bytes.{all}
use Rattle.rules.specs.Statements.{Sig, Signal, Statement, holds, autoidx-stmt, attr-stmt, module-stmt, param-stmt, wire-stmt, memory-stmt, cell-stmt, cell-param-stmt, cell-conn-stmt, conn-stmt, proc-stmt, step-stmt, end-stmt, contents, statements_open}
use Rattle.rules.specs.Shapes.{shape}
use Rattle.rules.specs.Numbers.{good_literal, good_numbers, good_wire, good_memory}
use Rattle.rules.specs.Signals.{Wires, width, bits, declared_wire, good_slice, parts}
use Rattle.rules.specs.Judgement.{Past, context, wires, new_port, all_parts, breaks_number, lacks_wire, fit_widths, breaks_width, part_too_wide, lowest, Verdict, verdict, meaning, judge_in, judge}
use Rattle.rules.specs.Reading.{shaped}
use Rattle.rules.specs.Text.{sig, literal_of, wire_options, memory_options, written, shape_tokens}
use Rattle.admitted.specs.Admitted.{stands, fine_constant, own_wire, new_ports, fine_memory, fine_signal, admits, admitted}
use Rattle.lists.specs.Elements.{all_append, all_first, all-later, all-implied, all_map, all-through, all_both, each_of, map_back, test_at}
use Rattle.admitted.specs.AdmitLaws.{FineParts, fine-parts, Admits, admits-all}
use Rattle.context.specs.Forms.{translated}
use Rattle.meaning.specs.Shapes.{shape-written}
use Rattle.meaning.specs.Wires.{Sound}
use Rattle.meaning.specs.Parts.{good_part}
use Rattle.meaning.specs.Settings.{wire-back, wire-fine, memory-back, memory-fine}
use Rattle.meaning.proofs.Kept.{admitted-sound}
use Rattle.meaning.specs.Judged.{literal-back, literal-good, contents-written, takes-written}
use Rattle.meaning.proofs.Parts.{sig-means}

-- ---- what it means

module _ (ws : Wires) (sound : Sound ws) where
  signal-back : (g : Signal) → fine_signal ws g ≡ true → bits ws (sig ws g) ≡ g
  signal-back g h = (sig-means ws sound g h).same_bits

  signals-back : (gs : List Signal) → all (fine_signal ws) gs ≡ true → map (bits ws) (map (sig ws) gs) ≡ gs
  signals-back gs h = map_back (sig ws) (bits ws) gs (each_of _ (fine_signal ws) signal-back gs h)

  pub meaning-written : (s : Statement) → FineParts ws s → meaning ws (written ws s) ≡ s
  unfolding meaning written statements_open
  meaning-written (autoidx-stmt i) f = refl
  meaning-written (attr-stmt n c) f = rw (literal-back c)
  meaning-written (module-stmt n) f = refl
  meaning-written (param-stmt n none) f = refl
  meaning-written (param-stmt n (some c)) f = rw (literal-back c)
  meaning-written (wire-stmt w n) f = rw (wire-back w)
  meaning-written (memory-stmt m n) f = rw (memory-back m)
  meaning-written (cell-stmt t n) f = refl
  meaning-written (cell-param-stmt o n c) f = rw (literal-back c)
  meaning-written (cell-conn-stmt n g) f = rw (signal-back g (all_first (fine_signal ws) g [] f.signals))
  meaning-written (conn-stmt g h) f =
      rw (signal-back g (all_first (fine_signal ws) g (h ∷ []) f.signals), signal-back h (all_first (fine_signal ws) h [] (all-later (fine_signal ws) g (h ∷ []) f.signals)))
  meaning-written (proc-stmt n) f = refl
  meaning-written (step-stmt p gs) f = rw (signals-back gs f.signals)
  meaning-written end-stmt f = refl

-- ---- 7, 8, 10, 11: the parts of its signals

module _ (ws : Wires) (sound : Sound ws) where
  parts-good : (gs : List Signal) → all (fine_signal ws) gs ≡ true → all (good_part ws) (flat_map parts (map (sig ws) gs)) ≡ true
  unfolding all flat_map
  parts-good [] h = refl
  parts-good (g ∷ gs) h =
      all_append (good_part ws) (parts (sig ws g)) (flat_map parts (map (sig ws) gs)) (sig-means ws sound g (all_first (fine_signal ws) g gs h)).good-parts
      (parts-good gs (all-later (fine_signal ws) g gs h))

  widths-back : (gs : List Signal) → all (fine_signal ws) gs ≡ true → map (width ws) (map (sig ws) gs) ≡ map length gs
  widths-back [] h = refl
  widths-back (g ∷ gs) h =
      ap₂ (λ (w : ℕ) (vs : List ℕ). w ∷ vs) (sig-means ws sound g (all_first (fine_signal ws) g gs h)).same_width (widths-back gs (all-later (fine_signal ws) g gs h))

  -- what a good part keeps, by number
  part-keeps : (x : Sig) → good_part ws x ≡ true → (i : ℕ) → get_or (good_numbers x ∷ declared_wire ws x ∷ good_slice ws x ∷ leb (width ws x) 2048 ∷ []) i true ≡ true
  unfolding good_part
  part-keeps x h = test_at (good_numbers x) (declared_wire ws x ∷ good_slice ws x ∷ leb (width ws x) 2048 ∷ []) h

  module _ (s : Statement) (f : FineParts ws s) where
    all-good : all (good_part ws) (all_parts (written ws s)) ≡ true
    unfolding all_parts translated holds
    all-good = rw (contents-written ws s) (parts-good (contents s).signals f.signals)

    each-good : (g : Sig → Bool) → ((x : Sig) → good_part ws x ≡ true → g x ≡ true) → all g (all_parts (written ws s)) ≡ true
    each-good g e = all-implied (good_part ws) g e (all_parts (written ws s)) all-good

    pub numbers-kept : breaks_number ws (written ws s) ≡ false
    unfolding breaks_number translated holds
    numbers-kept =
        rw (
          each-good good_numbers (λ x h. part-keeps x h 0),
          contents-written ws s,
          f.integers,
          all-through fine_constant literal_of good_literal (contents s).constants literal-good f.constants,
          all_map (λ os. good_wire os && new_port ws os) wire_options (contents s).wires ∙ all_both own_wire (new_ports ws) _ (wire-fine ws) (contents s).wires f.wires f.ports,
          all-through fine_memory memory_options good_memory (contents s).memories memory-fine f.memories,
        )

    pub wires-there : lacks_wire ws (written ws s) ≡ false
    unfolding lacks_wire
    wires-there = rw (each-good (declared_wire ws) (λ x h. part-keeps x h 1))

    pub widths-kept : (ss : Past) → fit_widths ss s (map length (contents s).signals) ≡ true → breaks_width ws ss (written ws s) ≡ false
    unfolding breaks_width fit_widths translated holds
    widths-kept ss h = rw (each-good (good_slice ws) (λ x h. part-keeps x h 2), contents-written ws s, widths-back (contents s).signals f.signals, h)

    pub parts-narrow : part_too_wide ws (written ws s) ≡ false
    unfolding part_too_wide
    parts-narrow = rw (each-good (λ x. leb (width ws x) 2048) (λ x h. part-keeps x h 3))

-- ---- the whole

pub judge-written : (ss : Past) (s : Statement) → admitted ss ≡ true → admits ss s ≡ true → judge ss (written (wires ss) s) ≡ Verdict.accepted s
unfolding judge judge_in lowest verdict
judge-written ss s h k =
    let ws : Wires = wires ss in
    let sound : Sound ws = admitted-sound ss h in
    let a : Admits ss s = admits-all ss s k in
    let f : FineParts ws s = fine-parts ws s a.parts in
    rw (numbers-kept ws sound s f, wires-there ws sound s f, takes-written ss ws s, a.new-name, widths-kept ws sound s f ss a.widths, parts-narrow ws sound s f, meaning-written ws sound s f, a.room)

pub shaped-written : (ss : Past) (s : Statement) → admitted ss ≡ true → admits ss s ≡ true → shaped ss (shape (context ss) (shape_tokens (written (wires ss) s))) ≡ Verdict.accepted s
unfolding shaped stands
shaped-written ss s h k =
    let a : Admits ss s = admits-all ss s k in
    rw (shape-written (context ss) (wires ss) s a.standing (fine-parts (wires ss) s a.parts).arities) (judge-written ss s h k)
