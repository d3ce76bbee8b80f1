-- What the rules say of a line by its answer, after the statements so far.
-- Assumes nothing.
use Prim.Native.Nat.{ℕ, ◌-◌, ◌≤◌}
use Rattle.std.specs.Prelude.{Result, Ok}
use mathlib.Core.Path.{◌≡◌, refl, sym, ap, ap₂, ◌∙◌}
use mathlib.Core.Bool.{Bool, true, false, not, cond, ◌&&◌, ◌||◌}
use mathlib.Core.List.{List, [], ◌∷◌, ◌++◌, map, flat_map, Option-to_list}
use mathlib.Core.Option.{Option, some, get_or}
use native.Mathlib.Omega.{arith}
use borrow.Author.Tests.{ne_eqb}
use lib.Dec.{eqb}
use lib.ListN.{length, replicate}
use Rattle.rules.specs.Statements as rules
use Rattle.rules.specs.Statements.{Shape, own_name, contents}
use Rattle.rules.specs.Signals.{width, good_slice}
use Rattle.rules.specs.Bytes.{all}
use Rattle.rules.specs.Shapes.{shape}
use Rattle.rules.specs.Judgement.{Past, context, wires, Verdict, verdict, lowest, meaning, takes_name, all_parts, part_too_wide, equal, step_widths, fit_widths}
use Rattle.rules.specs.Reading.{shaped}
use Rattle.tokens.specs.Rows.{line}
use Rattle.wires.specs.Rows.{wires_from}
use Rattle.line_forms.specs.Forms.{name_in}
use Rattle.syntax.specs.Statements.{fault_of, overfull, width_fault, Sound, Judged, Says, StatementIs}
use Rattle.syntax.specs.declared.LineFault.{LineFault}
use Rattle.syntax.specs.declared.Statement.{Statement}
use Rattle.syntax.proofs.Verdicts.{behind, judged-late, says-judged}
use Rattle.context.specs.Sizes.{sums_of, plus_of, exceeds}
use Rattle.context.specs.declared.place.Place.{Place}
use Rattle.context.specs.declared.sizes.Sizes.{Sizes}
use Rattle.context.proofs.PlaceLaws.{context-is}
use Rattle.context.proofs.SizeLaws.{sums-step, exceeds-sums}
use Rattle.netlist.specs.Steps.{step_named}
use Rattle.netlist.specs.Found.{found_in}
use Rattle.faults.specs.Faults.{merge}
use Rattle.faults.proofs.FaultLaws.{merge-zero}
use Rattle.netlist.specs.FoundLaws.{takes-found}
use Rattle.judgement.specs.Parts.{parts_of, taken_in, SizesAre, uneven_in, UnevenIs}
use Rattle.judgement.specs.declared.Parts.{Parts}
use Rattle.judgement.specs.Judged.{Stands, Accepts}
use Rattle.judgement.proofs.PartLaws.{tells, asks, no-fault}

-- ---- the tests of a statement, by their answers

module _ {A : Type 0} (m : A) where
  first_taken : (b c : Bool) → verdict m (lowest ((9, true) ∷ (10, b) ∷ (11, c) ∷ [])) ≡ Verdict.refused 9
  unfolding verdict lowest
  first_taken b c = refl

  -- tests g and d give the number n that the signals leave; whether these are as wide as asked (w) is known (u) where n isn't 10
  then-fault : (g d w u x : Bool) (n : ℕ) → get_or (lowest ((10, g) ∷ (11, d) ∷ [])) 0 ≡ n → ((n ≡ 10 → ⊥) → w ≡ u) → (merge n (cond u 0 10) ≡ 0 → ⊥) →
      verdict m (lowest ((9, false) ∷ (10, eqb n 10 || not w) ∷ (11, eqb n 11 || x) ∷ [])) ≡ Verdict.refused (merge n (cond u 0 10))
  unfolding verdict lowest merge
  then-fault true d w true x n e k h = rw (← e)
  then-fault true d w false x n e k h = rw (← e)
  then-fault false true w true x n e k h = rw (k (λ z. omega arith), ← e)
  then-fault false true w false x n e k h = rw (k (λ z. omega arith), ← e)
  then-fault false false w true x n e k h = absurd (h (rw (← e)))
  then-fault false false w false x n e k h = rw (k (λ z. omega arith), ← e)

  last-sizes : (w x : Bool) → w ≡ true → verdict m (lowest ((9, false) ∷ (10, eqb 0 10 || not w) ∷ (11, eqb 0 11 || x) ∷ [])) ≡ cond x (Verdict.refused 11) (Verdict.accepted m)
  unfolding verdict lowest
  last-sizes w true e = rw e
  last-sizes w false e = rw e

-- signals that don't leave 10 are equally wide
left-even : (g e d : Bool) (n : ℕ) → get_or (lowest ((10, not (g && e)) ∷ (11, d) ∷ [])) 0 ≡ n → (n ≡ 10 → ⊥) → e ≡ true
unfolding lowest
left-even g true d n q h = refl
left-even true false d n q h = absurd (h (sym q))
left-even false false d n q h = absurd (h (sym q))

zero-cond : (b : Bool) → ◌≡◌ {A = ℕ} (cond b 0 10) 0 → b ≡ true
zero-cond true e = refl
zero-cond false e = absurd (omega arith)

-- whether the signals of an answer are as wide as its step asks; the lower of the numbers that they and this leave
unfoldable fits_asked : Past → Statement → Bool
fits_asked ss a = equal (flat_map (step_widths ss) (Option-to_list (step_named (parts_of a).step)) ++ replicate (parts_of a).count (parts_of a).left)

unfoldable pub fault_in : Past → Statement → ℕ
fault_in ss a = merge (parts_of a).fault (uneven_in ss (parts_of a).step (parts_of a).left (parts_of a).count)

-- which the code makes of the parts
pub fault-is :
    {ss : Past} {names ws rows : List ℕ} {p : Place} {u : Sizes} → Stands ss p u names ws rows → (a : Statement) {q : Parts} {r n : ℕ} →
    q ≡ parts_of a → UnevenIs rows p q.step q.left q.count r → n ≡ merge q.fault r → n ≡ fault_in ss a
unfolding fault_in
fault-is {ss} {names} st a {q} e k m =
    m ∙ ap (merge q.fault) (k names ss st.laid st.single (sym st.place_is))
    ∙ ap (λ (x : Parts). merge x.fault (uneven_in ss x.step x.left x.count)) e

-- ---- the verdict

module _ (ss : Past) (f s names ws rows : List ℕ) (o : Option Shape) (a : Statement) (p : Place) (u : Sizes)
    (st : Stands ss p u names ws rows) (says : Says (wires ss) f s o (Ok a)) where
  J : Judged (wires ss) f s o a
  J = says-judged (wires ss) f s o a says

  taken_is : takes_name ss J.sh ≡ taken_in f names rows p a
  unfolding taken_in
  taken_is =
      takes-found ss J.sh _ _ st.laid J.kind (ap own_name J.names ∙ sym ((tells a).own f))
      ∙ ap₂ (λ (w : Place) (k : ℕ). found_in names rows w k (name_in f (parts_of a).name)) st.place_is (sym (tells a).kind)

  left : shaped ss o ≡ verdict (meaning (wires ss) J.sh) (behind ss J.sh (meaning (wires ss) J.sh) (fault_of a))
  left = judged-late ss f s J

  pub taken_refused : taken_in f names rows p a ≡ true → shaped ss o ≡ Verdict.refused 9
  unfolding behind
  taken_refused t = left ∙ rw (taken_is, t) (first_taken _ _ _)

  fits-are : (fault_of a ≡ 10 → ⊥) → fit_widths ss J.sh (map (width (wires ss)) (contents J.sh).signals) ≡ fits_asked ss a
  unfolding fit_widths fits_asked width_fault
  fits-are h =
      let vs = wires ss in
      let sh = J.sh in
      let are = J.widths h in
      let even =
      left-even (all (good_slice vs) (all_parts sh)) (equal (map (width vs) (contents sh).signals)) (part_too_wide vs sh || overfull vs sh) (fault_of a)
      J.width_fault h in
      ap₂ (λ (ps : List rules.Step) (ns : List ℕ). equal (flat_map (step_widths ss) ps ++ ns)) (J.steps ∙ (asks a).steps)
      (are ∙ (asks a).even (rw are at even))

  module _ (t : taken_in f names rows p a ≡ false) where
    pub fault-refused : (n : ℕ) → n ≡ fault_in ss a → (n ≡ 0 → ⊥) → shaped ss o ≡ Verdict.refused n
    unfolding behind width_fault fault_in uneven_in fits_asked
    fault-refused n q h =
        left
        ∙ rw (taken_is, t, q, (tells a).fault)
        (then-fault _ _ _ _ (fits_asked ss a) _ (fault_of a) J.width_fault fits-are (λ z. h (q ∙ rw (tells a).fault z)))

    module _ (z : fault_in ss a ≡ 0) (d : Sizes) (room : 8192 ≤ length s) (sized : SizesAre f a d) where
      no-left : fault_of a ≡ 0
      unfolding fault_in
      no-left = no-fault a (merge-zero _ _ z).0

      fit : fit_widths ss J.sh (map (width (wires ss)) (contents J.sh).signals) ≡ true
      unfolding fault_in uneven_in fits_asked
      fit = fits-are (λ q. omega (arith, no-left)) ∙ zero-cond (fits_asked ss a) (merge-zero _ _ z).1

      abbrev m : rules.Statement
      m = meaning (wires ss) J.sh

      sums : sums_of (m ∷ ss) ≡ plus_of u d
      sums = sums-step ss m ∙ rw (st.sums-are, sized s m room (J.means no-left))

      by-sizes : shaped ss o ≡ cond (exceeds (plus_of u d)) (Verdict.refused 11) (Verdict.accepted m)
      unfolding behind
      by-sizes = left ∙ rw (taken_is, t, no-left, ← exceeds-sums (m ∷ ss), sums) (last-sizes _ _ _ fit)

      pub sizes-refused : exceeds (plus_of u d) ≡ true → shaped ss o ≡ Verdict.refused 11
      sizes-refused x = by-sizes ∙ rw x

      pub accepted : exceeds (plus_of u d) ≡ false → Accepts ss o f s a (plus_of u d)
      accepted x = record { statement = m; accepts = by-sizes ∙ rw x; stated = J.means no-left; sums-are = sums }

-- ---- the line of these rows, where the statements so far stand so

module _ (p : Place) (f t names ws s : List ℕ) where
  pub line-sound : (a : Statement) → StatementIs p f t (wires_from names ws p.wires_from (p.wires - p.wires_from)) s (Ok a) → Sound f a
  line-sound a h = (says-judged _ _ _ _ a h).sound

  pub line-says :
      (r : Result Statement LineFault) → StatementIs p f t (wires_from names ws p.wires_from (p.wires - p.wires_from)) s r →
      (ss : Past) (u : Sizes) (rows : List ℕ) → Stands ss p u names ws rows → Says (wires ss) f s (shape (context ss) (line f t 0)) r
  line-says r h ss u rows st = rw (context-is ss, st.place_is, ← st.wires-are) h
