-- A line with signals, judged by the numbers of their parts.
-- Assumes nothing.
use Prim.Native.Nat.{ℕ, ◌+◌, ◌<◌, ◌≤◌}
use mathlib.Core.Path.{◌≡◌, refl, sym, ap, ap₂, ◌∙◌}
use mathlib.Core.List.{List, [], ◌∷◌, map, flat_map}
use mathlib.Core.Option.{Option, none, some, get_or}
use mathlib.Core.Bool.{Bool, true, false, not, cond, ◌&&◌, ◌||◌, and-true}
use native.Mathlib.Omega.{arith}
use lib.Dec.{leb, eqb}
use borrow.Author.Tests.{leb-true, le-ltb, not-false}
use Rattle.rules.specs.Bytes.{all}
use Rattle.rules.specs.Statements.{Sig, constant, wire, slice, bundle, Shape, contents, conn-stmt, cell-conn-stmt, statements_open}
use Rattle.rules.specs.Numbers.{good_numbers}
use Rattle.rules.specs.Signals.{Wires, parts, width, declared_wire, good_slice}
use Rattle.rules.specs.Judgement.{sum, all_parts, breaks_number, lacks_wire, part_too_wide, equal, lowest, meaning}
use Rattle.lists.specs.Tests.{by_cond, and-true-left, and-true-right}
use Rattle.lists.specs.Elements.{Each, all_left, all_right}
use Rattle.line_forms.specs.Forms.{name_in}
use Rattle.scanner.specs.declared.parts.Span.{Span}
use Rattle.faults.specs.Faults.{faults, fault, merge, mild}
use Rattle.signals.specs.Held.{Held}
use Rattle.signals.specs.declared.Bits.{Bits}
use Rattle.faults.proofs.FaultLaws.{faults-none, faults-append, merge_none, merge-zero, mild-merge, late-merge}
use Rattle.syntax.specs.Statements.{number_of, fault_of, early, overfull, width_fault, statement_in, kind_in, names_in, steps_of, widths_in, Judged, Says, refused, judged, faulted}
use Rattle.syntax.specs.declared.Statement.{Statement}
use Rattle.syntax.specs.declared.Statement.TheVariants as statement
use Rattle.syntax.specs.declared.LineFault.TheVariants.{BadNumber, MissingWire}
use Rattle.syntax.proofs.Bits.{signal-back}

-- ---- the numbers of parts, of which 7 and 8 come before a taken name

unfoldable pub early_of : ℕ → Option ℕ
early_of n = cond (eqb n 7) (some 7) (cond (eqb n 8) (some 8) none)

abbrev pub first : (a b c d : Bool) → ℕ
first a b c d = get_or (lowest ((7, a) ∷ (8, b) ∷ (10, c) ∷ (11, d) ∷ [])) 0

pub early-first : (a b c d : Bool) → lowest ((7, a) ∷ (8, b) ∷ []) ≡ early_of (first a b c d)
unfolding lowest early_of
early-first true b c d = refl
early-first false true c d = refl
early-first false false true d = refl
early-first false false false true = refl
early-first false false false false = refl

late-first : (a b c d e o : Bool) → (d ≡ false → o ≡ false) → early_of (first a b (not c) d) ≡ none → get_or (lowest ((10, not (c && e)) ∷ (11, d || o) ∷ [])) 0 ≡ merge (cond e 0 10) (first a b (not c) d)
unfolding lowest early_of merge
late-first true b c d e o k h = let z : ◌≡◌ {A = ℕ} 0 1 = cc in absurd (omega arith)
late-first false true c d e o k h = let z : ◌≡◌ {A = ℕ} 0 1 = cc in absurd (omega arith)
late-first false false true true true o k h = refl
late-first false false true true false o k h = refl
late-first false false true false true o k h = rw (k refl)
late-first false false true false false o k h = refl
late-first false false false d true o k h = refl
late-first false false false d false o k h = refl

-- a number that is none of 7, 8 and 10 leaves the width as it was read
pub mild-late : (a b c d : Bool) → early_of (first a b c d) ≡ none → (first a b c d ≡ 10 → ⊥) → mild (first a b c d) ≡ true
unfolding lowest early_of mild
mild-late true b c d h k = let z : ◌≡◌ {A = ℕ} 0 1 = cc in absurd (omega arith)
mild-late false true c d h k = let z : ◌≡◌ {A = ℕ} 0 1 = cc in absurd (omega arith)
mild-late false false true d h k = absurd (k refl)
mild-late false false false true h k = refl
mild-late false false false false h k = refl

mild-faults : (ws : Wires) (ps : List Sig) (n : ℕ) → faults ws ps ≡ n → early_of n ≡ none → (n ≡ 10 → ⊥) → mild n ≡ true
unfolding faults
mild-faults ws ps n e h k = rw (← e) (mild-late _ _ _ _ (rw e h) (λ z. k (sym e ∙ z)))

module _ (ws : Wires) (sh : Shape) (q : breaks_number ws sh ≡ not (all good_numbers (all_parts sh))) where
  early-faults : early ws sh ≡ early_of (faults ws (all_parts sh))
  unfolding early lacks_wire faults
  early-faults = rw q (early-first _ _ _ _)

  late-faults :
      (part_too_wide ws sh ≡ false → overfull ws sh ≡ false) → early_of (faults ws (all_parts sh)) ≡ none →
      width_fault ws sh ≡ merge (cond (equal (map (width ws) (contents sh).signals)) 0 10) (faults ws (all_parts sh))
  unfolding width_fault part_too_wide faults
  late-faults k h =
      let ps = all_parts sh in
      late-first (not (all good_numbers ps)) (not (all (declared_wire ws) ps)) (all (good_slice ws) ps) (not (all (λ x. leb (width ws x) 2048) ps))
      (equal (map (width ws) (contents sh).signals)) (overfull ws sh) k h

-- a signal is one of its parts; signals of at most 2,048 bits
own-part : (f : Sig → Bool) (x : Sig) → all f (parts x) ≡ true → f x ≡ true
unfolding parts all
own-part f (constant c) h = and-true-left _ _ h
own-part f (wire n) h = and-true-left _ _ h
own-part f (slice s i l) h = and-true-left _ _ h
own-part f (bundle ss) h = and-true-left _ _ h

narrow-signal : (ws : Wires) (ss : List Sig) → all (λ x. leb (width ws x) 2048) (flat_map parts ss) ≡ true → Each (λ x. width ws x ≤ 2048) ss
unfolding flat_map all
narrow-signal ws [] h = tt
narrow-signal ws (x ∷ ss) h =
    (leb-true _ _ (own-part (λ y. leb (width ws y) 2048) x (all_left _ (parts x) _ h)), narrow-signal ws ss (all_right _ (parts x) _ h))

module _ (ws : Wires) (f s : List ℕ) (sh : Shape) where
  pub by-fault : (n : ℕ) (a : Statement) → early ws sh ≡ early_of n → (early_of n ≡ none → Judged ws f s (some sh) a) → Says ws f s (some sh) (faulted n a)
  unfolding early_of faulted number_of
  by-fault n a e k =
      by_cond (λ x. Says ws f s (some sh) x) (eqb n 7) (λ h. refused {e = BadNumber} refl (e ∙ rw h))
      (λ h. by_cond (λ x. Says ws f s (some sh) x) (eqb n 8) (λ g. refused {e = MissingWire} refl (e ∙ rw (h, g))) (λ g. judged (k (rw (h, g)))))

-- ---- the parts of one signal and of two

module _ (ws : Wires) where
  one-signal : (a : Sig) → faults ws (flat_map parts (a ∷ [])) ≡ fault ws a
  unfolding flat_map fault
  one-signal a = faults-append ws (parts a) [] ∙ ap (merge (faults ws (parts a))) (faults-none ws) ∙ merge_none (faults ws (parts a))

  two-signals : (a b : Sig) → faults ws (flat_map parts (a ∷ b ∷ [])) ≡ merge (fault ws a) (fault ws b)
  unfolding flat_map fault
  two-signals a b = faults-append ws (parts a) (flat_map parts (b ∷ [])) ∙ ap (merge (faults ws (parts a))) (one-signal b)

-- 10 or nothing, and 10
ten-merge : (x : Bool) → merge (cond x 0 10) 10 ≡ 10
unfolding merge
ten-merge true = refl
ten-merge false = refl

-- ---- a connection of a cell, and of a module

module _ (ws : Wires) (f s : List ℕ) (n : Span) (a : Sig) (b : Bits) (H : Held ws a 0 s b) where
  abbrev cell_shape : Shape
  cell_shape = cell-conn-stmt (name_in f n) a

  cell-numbers : breaks_number ws cell_shape ≡ not (all good_numbers (all_parts cell_shape))
  unfolding breaks_number statements_open all
  cell-numbers = rw (and-true, and-true)

  cell-fault : faults ws (all_parts cell_shape) ≡ b.fault
  unfolding all_parts statements_open
  cell-fault = one-signal ws a ∙ H.refused

  cell_room : part_too_wide ws cell_shape ≡ false → overfull ws cell_shape ≡ false
  unfolding part_too_wide overfull sum all_parts statements_open
  cell_room k = le-ltb 8192 (width ws a + 0) (omega (arith, narrow-signal ws (a ∷ []) (not-false _ k)))

  cell-early : early ws cell_shape ≡ early_of b.fault
  unfolding statements_open
  cell-early = early-faults ws cell_shape cell-numbers ∙ ap early_of cell-fault

  pub cell-connected : Says ws f s (some cell_shape) (faulted b.fault (statement.CellConnection n b.width b.fault))
  unfolding statements_open equal all merge fault_of statement_in kind_in names_in steps_of widths_in meaning
  cell-connected =
      by-fault ws f s cell_shape b.fault (statement.CellConnection n b.width b.fault) cell-early
      (λ h.
      record {
        sh = cell_shape;
        is = refl;
        early = cell-early ∙ h;
        kind = refl;
        names = refl;
        steps = refl;
        widths = λ m. ap (λ (x : ℕ). x ∷ []) (H.wide (mild-faults ws (all_parts cell_shape) b.fault cell-fault h m));
        sound = H.small;
        width_fault = late-faults ws cell_shape cell-numbers cell_room (ap early_of cell-fault ∙ h) ∙ cell-fault;
        means = λ z. rw (signal-back ws a 0 s b H z);
      })

module _ (ws : Wires) (f s : List ℕ) (a b : Sig) (l r : Bits) (A : Held ws a 0 s l) (B : Held ws b 2048 s r) where
  abbrev shape : Shape
  shape = conn-stmt a b

  numbers : breaks_number ws shape ≡ not (all good_numbers (all_parts shape))
  unfolding breaks_number statements_open all
  numbers = rw (and-true, and-true)

  both-fault : faults ws (all_parts shape) ≡ merge l.fault r.fault
  unfolding all_parts statements_open
  both-fault = two-signals ws a b ∙ ap₂ merge A.refused B.refused

  both-room : part_too_wide ws shape ≡ false → overfull ws shape ≡ false
  unfolding part_too_wide overfull sum all_parts statements_open
  both-room k = le-ltb 8192 (width ws a + (width ws b + 0)) (omega (arith, narrow-signal ws (a ∷ b ∷ []) (not-false _ k)))

  both-early : early ws shape ≡ early_of (merge l.fault r.fault)
  unfolding statements_open
  both-early = early-faults ws shape numbers ∙ ap early_of both-fault

  -- where the signals have widths, they are those that were read
  uneven : (e e' : Bool) (n : ℕ) → (mild n ≡ true → e ≡ e') → merge (cond e 0 10) n ≡ merge (cond e' 0 10) n
  uneven e e' n h = late-merge (cond e 0 10) (cond e' 0 10) n (ten e) (ten e') (λ m. ap (λ (x : Bool). cond x 0 10) (h m))
    where
      ten : (x : Bool) → 0 < cond x 0 10 → 10 ≤ cond x 0 10
      ten true k = absurd (omega arith)
      ten false k = omega arith

  widths : mild (merge l.fault r.fault) ≡ true → eqb (width ws a) (width ws b) ≡ eqb l.width r.width
  widths h =
      let m : mild l.fault && mild r.fault ≡ true = sym (mild-merge l.fault r.fault) ∙ h in
      ap₂ eqb (A.wide (and-true-left _ _ m)) (B.wide (and-true-right (mild l.fault) _ m))

  -- where it is not 10 the widths are those that were read
  both-wide : (u : ℕ) → u ≡ cond (eqb l.width r.width) 0 10 → early_of (merge l.fault r.fault) ≡ none → (merge u (merge l.fault r.fault) ≡ 10 → ⊥) →
      (width ws a ≡ l.width) × (width ws b ≡ r.width)
  both-wide u e h k =
      let n : mild (merge l.fault r.fault) ≡ true =
      mild-faults ws (all_parts shape) _ both-fault h (λ z. k (ap (merge u) z ∙ rw e (ten-merge (eqb l.width r.width)))) in
      let m : mild l.fault && mild r.fault ≡ true = sym (mild-merge l.fault r.fault) ∙ n in
      (A.wide (and-true-left _ _ m), B.wide (and-true-right (mild l.fault) _ m))

  -- without a number both signals have none
  unfaulted : (u : ℕ) → merge u (merge l.fault r.fault) ≡ 0 → (l.fault ≡ 0) × (r.fault ≡ 0)
  unfaulted u z = merge-zero l.fault r.fault (merge-zero u (merge l.fault r.fault) z).1

  pub both-connected :
      (u : ℕ) → u ≡ cond (eqb l.width r.width) 0 10 →
      Says ws f s (some shape) (faulted (merge l.fault r.fault) (statement.Connection l.width r.width (merge u (merge l.fault r.fault))))
  unfolding statements_open equal all fault_of statement_in kind_in names_in steps_of widths_in meaning
  both-connected u e =
      by-fault ws f s shape (merge l.fault r.fault) _ both-early
      (λ h.
      record {
        sh = shape;
        is = refl;
        early = both-early ∙ h;
        kind = refl;
        names = refl;
        steps = refl;
        widths = λ m. let q = both-wide u e h m in ap₂ (λ (x y : ℕ). x ∷ y ∷ []) q.0 q.1;
        sound = λ z. let m = unfaulted u z in (A.small m.0, B.small m.1);
        width_fault =
            late-faults ws shape numbers both-room (ap early_of both-fault ∙ h)
            ∙ ap (λ (x : Bool). merge (cond x 0 10) (faults ws (all_parts shape))) (and-true (eqb (width ws a) (width ws b)))
            ∙ ap (merge _) both-fault
            ∙ uneven (eqb (width ws a) (width ws b)) (eqb l.width r.width) _ widths
            ∙ ap (λ (x : ℕ). merge x (merge l.fault r.fault)) (sym e);
        means = λ z.
            let m = unfaulted u z in
            rw (signal-back ws a 0 s l A m.0, signal-back ws b 2048 s r B m.1);
      })
