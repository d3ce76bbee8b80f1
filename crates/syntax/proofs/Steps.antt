-- A line with a step, judged by the list of its signals.
-- Assumes nothing.
use Prim.Native.Nat.{ℕ, ◌≤◌}
use Rattle.std.specs.Prelude.{Some, None, Err}
use mathlib.Core.Path.{◌≡◌, refl, sym, ap, ◌∙◌}
use mathlib.Core.List.{List, [], ◌∷◌, map, flat_map, Option-to_list}
use mathlib.Core.Option.{none, some, get_or}
use mathlib.Core.Bool.{Bool, true, false, not, ◌&&◌, ◌||◌, and-true}
use native.Mathlib.Omega.{arith}
use lib.Dec.{eqb, leb, ltb}
use lib.ListN.{length}
use Rattle.rules.specs.Limits.{longest_file, most_signal_bits}
use Rattle.rules.specs.Bytes.{all}
use Rattle.rules.specs.Tokens.{Token}
use Rattle.rules.specs.Statements.{Sig, Shape, Step, assign, update, switch, case, low, high, posedge, negedge, edge, global, init, always, step_code, case_step, step-stmt, statements_open}
use Rattle.rules.specs.Shapes.{whole}
use Rattle.rules.specs.Numbers.{good_numbers}
use Rattle.rules.specs.Signals.{Wires, parts, width, declared_wire, good_slice}
use Rattle.rules.specs.Judgement.{sum, all_parts, breaks_number, lacks_wire, part_too_wide, equal, lowest, meaning}
use Rattle.admitted.specs.Admitted.{arity}
use Rattle.tokens.specs.Rows.{line}
use Rattle.netlist.specs.Steps.{step_named}
use Rattle.netlist.specs.StepLaws.{step_back}
use Rattle.line_forms.specs.Processes.{process_kind_of, step_parse}
use Rattle.line_forms.specs.declared.ProcessKind.TheVariants as process_kind
use Rattle.line_forms.proofs.ProcessLaws.{step-kind}
use Rattle.faults.specs.Faults.{mild}
use Rattle.signal_list.specs.Lists.{listed, step_with, list_fault}
use Rattle.signal_list.specs.ListLaws.{none-taken, one-taken, two-taken, case-taken}
use Rattle.signal_list.specs.Reads.{ListHeld, ListRead}
use Rattle.signal_list.specs.declared.Listed.{Listed}
use Rattle.syntax.specs.Statements.{fault_of, early, overfull, width_fault, signals_in, statement_in, kind_in, names_in, steps_of, widths_in, Says, no-shape, faulted}
use Rattle.syntax.specs.declared.Statement.TheVariants as statement
use Rattle.syntax.specs.declared.LineFault.TheVariants.{NoShape}
use Rattle.syntax.proofs.Bits.{signals-back}
use Rattle.syntax.proofs.Connections.{early_of, first, early-first, mild-late, by-fault}

-- ---- the shape: the signals up to the line's end, of which there are as many as the step has

step-listed : (q : Step) (ts : List Token) → whole (step_parse (step_code q) q ts) ≡ step_with q (arity q) (listed (eqb (step_code q) case_step) ts)
unfolding step_parse step_code arity
step-listed assign ts = two-taken assign ts
step-listed update ts = two-taken update ts
step-listed switch ts = one-taken switch ts
step-listed case ts = case-taken ts
step-listed low ts = one-taken low ts
step-listed high ts = one-taken high ts
step-listed posedge ts = one-taken posedge ts
step-listed negedge ts = one-taken negedge ts
step-listed edge ts = one-taken edge ts
step-listed global ts = none-taken global ts
step-listed init ts = none-taken init ts
step-listed always ts = none-taken always ts

-- ---- the number of the list

late-first : (a b c d : Bool) → early_of (first a b c d) ≡ none → get_or (lowest ((10, c) ∷ (11, d) ∷ [])) 0 ≡ first a b c d
unfolding lowest early_of
late-first true b c d h = let z : ◌≡◌ {A = ℕ} 0 1 = cc in absurd (omega arith)
late-first false true c d h = let z : ◌≡◌ {A = ℕ} 0 1 = cc in absurd (omega arith)
late-first false false c d h = refl

-- where no rule is broken all parts are narrow
narrow-first : (a b c d o : Bool) → first a b c (not d || o) ≡ 0 → d ≡ true
unfolding lowest
narrow-first a b c true o h = refl
narrow-first true b c false o h = absurd (omega arith)
narrow-first false true c false o h = absurd (omega arith)
narrow-first false false true false o h = absurd (omega arith)
narrow-first false false false false o h = absurd (omega arith)

module _ (ws : Wires) (ss : List Sig) (n : ℕ) (e : list_fault ws ss ≡ n) where
  mild-list : early_of n ≡ none → (n ≡ 10 → ⊥) → mild n ≡ true
  unfolding list_fault
  mild-list h k = rw (← e) (mild-late _ _ _ _ (rw e h) (λ z. k (sym e ∙ z)))

  narrow-list : n ≡ 0 → all (λ p. leb (width ws p) 2048) (flat_map parts ss) ≡ true
  unfolding list_fault
  narrow-list z = narrow-first _ _ _ _ (ltb most_signal_bits (sum (width ws) ss)) (e ∙ z)

-- ---- the line

module _ (ws : Wires) (f s : List ℕ) (p : ℕ) (q : Step) (code : step_code q ≡ p) (ss : List Sig) (w n l : ℕ) (H : ListHeld ws ss s w n l) where
  abbrev shape : Shape
  shape = step-stmt q ss

  named : step_named p ≡ some q
  named = ap step_named (sym code) ∙ step_back q

  numbers : breaks_number ws shape ≡ not (all good_numbers (all_parts shape))
  unfolding breaks_number statements_open all
  numbers = rw (and-true, and-true)

  step-early : early ws shape ≡ early_of l
  unfolding early lowest lacks_wire all_parts list_fault statements_open
  step-early =
      let ps = flat_map parts ss in
      rw (numbers, ← H.refused)
      (early-first (not (all good_numbers ps)) (not (all (declared_wire ws) ps)) (not (all (good_slice ws) ps && equal (map (width ws) ss)))
      (not (all (λ x. leb (width ws x) 2048) ps) || ltb most_signal_bits (sum (width ws) ss)))

  step-late : early_of l ≡ none → width_fault ws shape ≡ l
  unfolding width_fault part_too_wide overfull all_parts list_fault statements_open
  step-late h = late-first _ _ _ _ (ap early_of H.refused ∙ h) ∙ H.refused

  step-means : l ≡ 0 → statement_in f s (statement.Step p w n l) ≡ some (meaning ws shape)
  unfolding statement_in signals_in meaning statements_open
  step-means z = rw (named, H.coded z, signals-back ws ss (narrow-list ws ss l H.refused z))

  pub step-said : n ≤ longest_file → Says ws f s (some shape) (faulted l (statement.Step p w n l))
  unfolding statements_open fault_of kind_in names_in steps_of widths_in
  step-said few =
      by-fault ws f s shape l (statement.Step p w n l) step-early
      (λ h.
      record {
        sh = shape;
        is = refl;
        early = step-early ∙ h;
        kind = refl;
        names = refl;
        steps = sym (ap Option-to_list named);
        widths = λ m. H.widths (mild-list ws ss l H.refused h m);
        sound = (few, (q, named), λ z. (H.small z, H.room z));
        width_fault = step-late h;
        means = λ z. step-means z;
      })

-- ---- the answer, from what the list answered

module _ (ws : Wires) (f t s : List ℕ) (p i : ℕ) (q : Step) (code : step_code q ≡ p) (comma : Bool) (c : comma ≡ eqb p case_step) where
  step_line : process_kind_of f t (process_kind.Step p i) ≡ step_with q (arity q) (listed comma (line f t i))
  step_line =
      step-kind f t p i q code
      ∙ rw (← code) (step-listed q (line f t i))
      ∙ ap (λ (b : Bool). step_with q (arity q) (listed b (line f t i))) (ap (λ (n : ℕ). eqb n case_step) code ∙ sym c)

  pub step-broken : ListRead f t ws i comma s None → Says ws f s (process_kind_of f t (process_kind.Step p i)) (Err NoShape)
  unfolding step_with
  step-broken e = no-shape (step_line ∙ rw e)

  module _ (r : Listed) (L : ListRead f t ws i comma s (Some r)) where
    counted : arity q (length L.sigs) ≡ arity q r.count
    counted = ap (arity q) L.held.many

    pub step-miscounted : arity q r.count ≡ false → Says ws f s (process_kind_of f t (process_kind.Step p i)) (Err NoShape)
    unfolding step_with
    step-miscounted h = no-shape (step_line ∙ rw (L.is, counted, h))

    pub step-judged : arity q r.count ≡ true → r.count ≤ longest_file → Says ws f s (process_kind_of f t (process_kind.Step p i)) (faulted r.fault (statement.Step p r.width r.count r.fault))
    unfolding step_with
    step-judged h few = rw (step_line, L.is, counted, h) (step-said ws f s p q code L.sigs r.width r.count r.fault L.held few)
