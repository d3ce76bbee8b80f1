-- The wire that what is read of a file declares, and what is told of it.
-- Assumes nothing.
use Prim.Native.Nat.{ℕ, ◌≤◌, ◌<◌}
use mathlib.Core.Path.{◌≡◌, refl, sym, ap, ◌∙◌, subst}
use mathlib.Core.List.{List, [], reverse, reverse-reverse}
use mathlib.Core.Option.{Option, none, some}
use mathlib.Core.Bool.{Bool, true, false, cond}
use lib.IntN.{ℤ, pos}
use lib.Dec.{ltb}
use Rattle.std.specs.Prelude.{Some, Ok, Err, Result, Option as Optional}
use lib.ListN.{length}
use borrow.Author.Tests.{lt-ltb, le-ltb}
use Rattle.rules.specs.Limits.{longest_file, names_length, wires_length}
use Rattle.rules.specs.Lines.{lines}
use Rattle.rules.specs.Tokens.{Name}
use Rattle.rules.specs.Statements.{Statement, Wire}
use Rattle.rules.specs.Judgement.{Verdict}
use Rattle.rules.specs.Reading as reading
use Rattle.rules.specs.Design.{design}
use Rattle.rules.specs.Session.{wires_at, index_in}
use Rattle.rules.specs.Layout.{memory}
use Rattle.rules.specs.Quick.{read_until, settles, wire_named, Sought, gives, stops, of_verdict, of_wire, sought, seek, quick_width, quick_index}
use Rattle.context.specs.Place.{place_of, wires_in}
use Rattle.context.specs.declared.place.Place.{Place}
use Rattle.context.specs.declared.sizes.Sizes.{Sizes}
use Rattle.context.specs.declared.sizes.Standing.{Standing}
use Rattle.admitted.specs.AdmitLaws.{admitted-standing, admitted-offsets}
use Rattle.netlist.specs.Laid.{rooms_of, Wired}
use Rattle.netlist.specs.WireLaws.{wired-padded}
use Rattle.netlist.specs.Tables.{Tables}
use Rattle.netlist.specs.declared.results.Refused.{Refused}
use Rattle.goal.specs.Settled.{stop_of}
use Rattle.numbers.specs.declared.kinds.ModuleNumber.{ModuleNumber}
use Rattle.modules.specs.Ranges.{wire_range}
use Rattle.modules.specs.HeadLaws.{standing-headed}
use Rattle.modules.specs.WireLaws.{design-range}
use Rattle.layout.specs.Put.{tables_of}
use Rattle.reading_step.specs.Steps.{Done}
use Rattle.file_lines.specs.Lines.{read_to, Landed}
use Rattle.one_wire.specs.Asked.{told, wire_sought, row_named, row_sought, DeclaredAs, IndexTold}
use Rattle.one_wire.specs.FirstLaws.{first_of, named-pairs, row_first}
use Rattle.one_wire.specs.declared.Declared.{Declared}

-- ---- in the tables

done-wired : {ss : List Statement} {p : Place} {u : Sizes} {t : Tables} → Done ss p u t → Wired (rooms_of ss) t.names t.wires
unfolding tables_of memory
done-wired {ss} d = rw d.tables-are (wired-padded names_length wires_length (rooms_of ss))

module _ (ss : List Statement) (p : Place) (u : Sizes) (t : Tables) (d : Done (reverse ss) p u t) (m : ℕ) (n : Name) where
  wires-are : wires_in (reverse ss) ≡ p.wires
  unfolding place_of
  wires-are = ap (λ (q : Place). q.wires) d.place_is

  first-wire : let r = wire_range t.wires p.wires m in wire_named n (wires_at (design ss) m) ≡ row_named t.names t.wires n r.count r.first
  first-wire =
      let r = wire_range t.wires p.wires m in
      let q = design-range m (reverse ss) (standing-headed (admitted-standing (reverse ss) d.admits)) (done-wired d) (admitted-offsets (reverse ss) d.admits) in
      named-pairs n (wires_at (design ss) m)
      ∙ sym (row_first t.names t.wires n r.count r.first ∙ ap (first_of n) (rw (wires-are, reverse-reverse ss) at q))

-- ---- of the file

-- a goal in this module
abbrev pub goal_in : ℕ → Optional ModuleNumber
goal_in m = Some (record { 0 = m })

module _ (f : List ℕ) (m : ℕ) (n : Name) where
  pub sought-long : 32768 < length f → wire_sought f m n ≡ stops 2 0
  unfolding wire_sought seek
  sought-long h = rw (lt-ltb _ _ h)

  module _ (short : length f ≤ 32768) where
    sought-by : wire_sought f m n ≡ sought (λ w. Verdict.accepted w) m n (read_to (stop_of (goal_in m) n) f)
    unfolding wire_sought seek stop_of
    sought-by = rw (le-ltb _ _ short)

    module _ (t : Tables) (a : Result Standing Refused) where
      refused-by : (g : reading.Answer) (r : Refused) → Landed g t a → a ≡ Err r → sought (λ w. Verdict.accepted w) m n g ≡ stops r.number r.place
      unfolding sought
      refused-by (reading.accepted ss) r h e = absurd (subst (Landed (reading.accepted ss) t) e h)
      refused-by (reading.refused i p) r h e =
          let k : record { number = i; place = p } ≡ r = cc in ap (λ (x : Refused). stops x.number x.place) k

      accepted-by : (g : reading.Answer) (y : Standing) → Landed g t a → a ≡ Ok y →
          sought (λ w. Verdict.accepted w) m n g ≡ row_sought t.names t.wires n (wire_range t.wires y.place.wires m)
      unfolding sought row_sought
      accepted-by (reading.accepted ss) y h e =
          ap (of_wire (λ w. Verdict.accepted w)) (first-wire ss y.place y.sums t (subst (Landed (reading.accepted ss) t) e h) m n)
      accepted-by (reading.refused i q) y h e = cc

      pub sought-refused : (r : Refused) → Landed (read_to (stop_of (goal_in m) n) f) t a → a ≡ Err r → wire_sought f m n ≡ stops r.number r.place
      sought-refused r h e = sought-by ∙ refused-by (read_to (stop_of (goal_in m) n) f) r h e

      pub sought-accepted : (y : Standing) → Landed (read_to (stop_of (goal_in m) n) f) t a → a ≡ Ok y →
          (x : Result Declared Refused) → DeclaredAs (row_sought t.names t.wires n (wire_range t.wires y.place.wires m)) x → DeclaredAs (wire_sought f m n) x
      sought-accepted y h e x = subst (λ (z : Sought Wire). DeclaredAs z x) (sym (sought-by ∙ accepted-by (read_to (stop_of (goal_in m) n) f) y h e))

-- ---- what is told of the wire

unfoldable asks : {A : Type 0} → (Wire → Verdict A) → Sought Wire → Sought A
asks g (gives w) = of_verdict (g w)
asks g (stops k p) = stops k p

module _ {A : Type 0} (g : Wire → Verdict A) (m : ℕ) (n : Name) where
  asked-wire : (o : Option Wire) → of_wire g o ≡ asks g (of_wire (λ w. Verdict.accepted w) o)
  unfolding of_wire of_verdict asks
  asked-wire none = refl
  asked-wire (some w) = refl

  asked-answer : (a : reading.Answer) → sought g m n a ≡ asks g (sought (λ w. Verdict.accepted w) m n a)
  unfolding sought asks
  asked-answer (reading.accepted ss) = asked-wire (wire_named n (wires_at (design ss) m))
  asked-answer (reading.refused k p) = refl

  asked-long : (b : Bool) (a : reading.Answer) → cond b (stops 2 0) (sought g m n a) ≡ asks g (cond b (stops 2 0) (sought (λ w. Verdict.accepted w) m n a))
  unfolding asks
  asked-long true a = refl
  asked-long false a = asked-answer a

  asked : (f : List ℕ) → seek g f m n ≡ asks g (wire_sought f m n)
  unfolding seek wire_sought
  asked f = asked-long (ltb longest_file (length f)) (read_until (settles m n) (length f) (lines f) [])

module _ (f : List ℕ) (m : ℕ) (n : Name) (r : Result Declared Refused) (h : DeclaredAs (wire_sought f m n) r) where
  module _ (x : Refused) (e : r ≡ Err x) where
    is-refused : wire_sought f m n ≡ stops x.number x.place
    is-refused = subst (DeclaredAs (wire_sought f m n)) e h

    pub width-refused : ◌≡◌ {A = ℕ × ℕ × ℕ} (x.number, x.place, 0) (told 0 (quick_width f m n))
    unfolding told quick_width asks
    width-refused = sym (ap (told 0) (asked (λ w. Verdict.accepted w.width) m n f ∙ ap (asks (λ w. Verdict.accepted w.width)) is-refused))

    pub index-refused : (i : ℕ) → ◌≡◌ {A = ℕ × ℕ × ℤ} (x.number, x.place, pos 0) (told (pos 0) (quick_index f m n i))
    unfolding told quick_index asks
    index-refused i = sym (ap (told (pos 0)) (asked (λ w. index_in w i) m n f ∙ ap (asks (λ w. index_in w i)) is-refused))

  module _ (d : Declared) (e : r ≡ Ok d) where
    is-wire : DeclaredAs (wire_sought f m n) (Ok d)
    is-wire = subst (DeclaredAs (wire_sought f m n)) e h

    pub width-told : ◌≡◌ {A = ℕ × ℕ × ℕ} (0, 0, d.width) (told 0 (quick_width f m n))
    unfolding told quick_width asks of_verdict
    width-told = sym (ap (told 0) (asked (λ w. Verdict.accepted w.width) m n f ∙ ap (asks (λ w. Verdict.accepted w.width)) is-wire.2))

    pub index-told : (i : ℕ) (a : ℕ × ℕ × ℤ) → IndexTold d.offset d.width d.upto i a → a ≡ told (pos 0) (quick_index f m n i)
    unfolding quick_index asks
    index-told i a q = q is-wire.0 is-wire.1 ∙ sym (ap (told (pos 0)) (asked (λ w. index_in w i) m n f ∙ ap (asks (λ w. index_in w i)) is-wire.2))
