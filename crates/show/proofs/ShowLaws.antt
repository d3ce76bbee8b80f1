-- What show answers on memory that holds a design.
-- Assumes nothing.
use Prim.Native.Nat.{ℕ, ◌+◌, ◌-◌, ◌≤◌, ◌<◌}
use mathlib.Core.Path.{◌≡◌, refl, sym, ap, ap₂, subst, ◌∙◌}
use mathlib.Core.List.{List, [], ◌∷◌, ◌++◌, map, reverse, reverse-reverse, append-nil}
use mathlib.Core.Option
use mathlib.Core.Option.{Option, none, some, Option-elim}
use mathlib.Core.Bool.{true, false}
use native.Mathlib.Omega.{arith}
use Rattle.std.specs.Prelude.{Result, Ok, Err}
use lib.ListN.{length, get_elem?, take, drop, length-reverse}
use borrow.Author.Tests.{le-leb, lt-leb}
use Rattle.rules.specs.Tokens.{Name}
use Rattle.rules.specs.Statements.{Statement, Wire, wire-stmt}
use Rattle.rules.specs.Signals.{Wires}
use Rattle.rules.specs.Judgement.{Past, accepted, refused}
use Rattle.rules.specs.Design.{Object, object, design}
use Rattle.rules.specs.Session.{wires_at, wire_at, now, hdlname, plain_name, or_else, show}
use Rattle.rules.specs.Layout.{Memory}
use Rattle.scanner.specs.declared.parts.Span.{Span}
use Rattle.wires.specs.Rows.{name_of, wire_of, wires_from}
use Rattle.wires.specs.RowLaws.{length-wires, wire-numbered}
use Rattle.lists.specs.Lists.{at_map}
use Rattle.context.specs.Place.{wires_in}
use Rattle.context.specs.declared.place.Place.{Place}
use Rattle.netlist.specs.Laid.{rooms_of}
use Rattle.modules.specs.Modules.{statements_of, wires_of}
use Rattle.modules.specs.Ranges.{wire_range}
use Rattle.modules.specs.WireLaws.{pairs-range, design-range}
use Rattle.modules.specs.AttributeLaws.{settings_before}
use Rattle.modules.specs.DeclaredLaws.{Declared, wire-declared, declared-wire, declared-number}
use Rattle.modules.specs.Now.{name_now, wire_now}
use Rattle.modules.specs.NowLaws.{wire-now}
use Rattle.modules.specs.declared.Range.{Range}
use Rattle.canonical.specs.Seen.{seen}
use Rattle.wire_names.specs.Now as table
use Rattle.netlist.specs.Results.{lent}
use Rattle.netlist.specs.Tables.{Tables, tabled}
use Rattle.netlist.specs.Fronts.{Fronts}
use Rattle.netlist.specs.FrontLaws.{fronts-before, fronts-behind}
use Rattle.memory_check.specs.HeldLaws.{holds-stored}
use Rattle.session.specs.Called.{holding, answer}
use Rattle.session.specs.CalledLaws.{called-turn}
use Rattle.session.specs.Steps.{Holding, NotOpen}
use Rattle.session.proofs.CallLaws.{not-open}
use Rattle.session.proofs.HoldLaws.{rows_before, lies}
use Rattle.rename_rules.specs.LiesLaws.{headed, offsets, wired, all-wires, name-now-is, missing}
use Rattle.show.specs.Rows.{wire_line, hdlname_row, text_at, shown_name}
use Rattle.show.specs.Parts.{shown_part, shown_in, number_of, bytes_at, bytes_in, InRange, byte_at, first_byte, ShownAs, ShownAt, LiesAt}
use Rattle.show.specs.declared.Shown.{Shown}
use Rattle.show.proofs.PartLaws.{shown-part}
use Rattle.show.proofs.FoundLaws.{line-found, hdlname-found}

none-by : {A : Type 0} (o : Option A) → Option-elim o true (λ x. false) ≡ true → o ≡ none
unfolding Option-elim
none-by none e = refl
none-by (some x) e = cc

-- a wire of a design as it stands, by that of its module's pairs
name_by : (xs : List (Object Wire)) (i : ℕ) (o : Object Wire) (x : Name × Wire) → get_elem? xs i ≡ some o → get_elem? (map seen xs) i ≡ some x → o.name ≡ x.0
unfolding Option-elim
name_by xs i o x e q =
    ap (λ (y : Option (Name × Wire)). Option-elim y [] (λ z. z.0)) (sym (at_map seen xs i ∙ ap (Option.map seen) e) ∙ q)

-- what find_shown ensures of an answer
abbrev pub Answered : Memory → (m w : ℕ) → Result Shown ℕ → Type 0
Answered M m w r = ShownAt M m w r × (InRange M.names M.strings r × ShownAs M m w (number_of r) (bytes_in M.names M.strings r))

shown-in : {M : Memory} {p : Place} → Holding M p → (m w : ℕ) (r : Result Shown ℕ) → r ≡ shown_in M p m w → ShownAt M m w r
shown-in {M} h m w r e = holding h.statements h.renames h.lengths h.holds (e ∙ ap (λ (q : Place). shown_in M q m w) (sym h.place))

module _ {names strings bits wires rows : List ℕ} {renames room : ℕ} {p : Place} (h : Holding (lent names strings bits wires rows renames room) p) (m w : ℕ)
    (own : Range) (eo : own ≡ wire_range wires p.wires m) where
  abbrev past : Past
  past = reverse h.statements

  abbrev parts : Tables
  parts = tabled names strings bits wires rows

  fronts : Fronts (rooms_of past) parts
  fronts = (holds-stored h.holds).begins.fronts

  range-is : own ≡ wire_range wires (wires_in past) m
  range-is = rw (all-wires (lies h)) eo

  wires-many : length (wires_of (statements_of m (reverse past))) ≡ own.count
  wires-many =
      let r = wire_range wires (wires_in past) m in
      ap length (sym (pairs-range m past (headed (lies h)) (wired (lies h)) (offsets (lies h))))
      ∙ length-reverse (wires_from names wires r.first r.count)
      ∙ length-wires names wires r.first r.count
      ∙ ap (λ (x : Range). x.count) (sym range-is)

  -- THE WIRE IS THERE
  module _ (b : w < own.count) where
    declared : Declared past m w
    declared = wire-declared past m w (omega (arith, wires-many))

    wire-is : wire_at (design h.statements) m w ≡ some (object (settings_before declared.before) declared.name declared.body)
    wire-is = ap (λ (ss : List Statement). wire_at (design ss) m w) (sym (reverse-reverse h.statements)) ∙ declared-wire past m w declared

    -- its name as it was read, and as it is now
    name-is : declared.name ≡ name_of names wires (own.first + w)
    unfolding wire_at
    name-is =
        let r = wire_range wires (wires_in past) m in
        name_by (wires_at (design (reverse past)) m) w _ (name_of names wires (r.first + w), wire_of wires (r.first + w)) (declared-wire past m w declared)
        (ap (λ (xs : Wires). get_elem? xs w) (sym (design-range m past (headed (lies h)) (wired (lies h)) (offsets (lies h))))
        ∙ wire-numbered names wires r.first w r.count (rw (← range-is) b))
        ∙ ap (λ (x : Range). name_of names wires (x.first + w)) (sym range-is)

    name-now : table.name_now names wires rows p.rows renames m w (own.first + w) ≡ name_now h.renames m w declared.name
    name-now = sym (name-now-is (lies h) m w (own.first + w)) ∙ ap (name_now h.renames m w) (sym name-is)

    -- its statement, and the attribute before it
    all-fronts : Fronts (rooms_of (declared.behind ++ wire-stmt declared.body declared.name ∷ declared.before)) parts
    all-fronts = subst (λ (x : Past). Fronts (rooms_of x) parts) declared.all fronts

    line-is : wire_line rows p.rows (own.first + w) ≡ length declared.before
    line-is =
        let k : wires_in declared.before ≡ own.first + w =
        declared-number past m w declared (headed (lies h)) (wired (lies h)) ∙ ap (λ (x : Range). x.first + w) (sym range-is) in
        let l : p.rows ≡ length (declared.behind ++ wire-stmt declared.body declared.name ∷ declared.before) =
        sym (rows_before h) ∙ sym (length-reverse h.statements) ∙ ap length declared.all in
        ap₂ (wire_line rows) l (sym k) ∙ line-found parts declared.body declared.name declared.before declared.behind all-fronts

    text-is : text_at strings rows (hdlname_row names rows (wire_line rows p.rows (own.first + w)) 0) ≡ hdlname (settings_before declared.before)
    unfolding text_at hdlname
    text-is =
        let s : Statement = wire-stmt declared.body declared.name in
        let f : Fronts (rooms_of declared.before) parts =
        fronts-before s declared.before (fronts-behind declared.behind (s ∷ declared.before) all-fronts) in
        rw line-is (hdlname-found parts declared.before f [] 0 refl ∙ ap hdlname (append-nil (settings_before declared.before)))

    -- so the wire as it is now has the name now and the name to show that the tables tell
    pub wire-shown :
        (o : Object Wire)
        × (wire_at (now (design h.statements) h.renames) m w ≡ some o)
        × (o.name ≡ table.name_now names wires rows p.rows renames m w (own.first + w))
        × (or_else (hdlname o.attributes) (plain_name o.name) ≡ shown_name names strings wires rows p.rows renames m w (own.first + w))
    unfolding shown_name wire_now
    wire-shown = (
      wire_now h.renames m w (object (settings_before declared.before) declared.name declared.body),
      wire-now (design h.statements) h.renames m w ∙ ap (Option.map (wire_now h.renames m w)) wire-is,
      sym name-now,
      rw (text-is, name-now),
    )

    show-is : show (now (design h.statements) h.renames) m w ≡ accepted (shown_name names strings wires rows p.rows renames m w (own.first + w))
    unfolding show Option-elim
    show-is =
        let q = wire-shown in
        ap (λ (o : Option (Object Wire)). Option-elim o (refused 8) (λ x. accepted (or_else (hdlname x.attributes) (plain_name x.name)))) q.1 ∙ ap accepted q.3

    part_in : shown_in (lent names strings bits wires rows renames room) p m w ≡ Ok (shown_part names strings wires rows p.rows renames m w (own.first + w))
    unfolding shown_in
    part_in = rw (← eo, lt-leb own.count w b)

    pub shown-there :
        (r : Shown) → r ≡ shown_part names strings wires rows p.rows renames m w (own.first + w) → Answered (lent names strings bits wires rows renames room) m w (Ok r)
    unfolding answer number_of bytes_in
    shown-there r e =
        let q = shown-part names strings wires rows p.rows renames m w (own.first + w) in (
          shown-in h m w (Ok r) (ap Ok e ∙ sym part_in),
          (rw e q.0, holding h.statements h.renames h.lengths h.holds (rw (e, q.1, show-is))),
        )

  -- THE WIRE IS NOT THERE
  none_in : own.count ≤ w → shown_in (lent names strings bits wires rows renames room) p m w ≡ Err 8
  unfolding shown_in
  none_in b = rw (← eo, le-leb own.count w b)

  pub shown-missing : own.count ≤ w → Answered (lent names strings bits wires rows renames room) m w (Err 8)
  unfolding answer show Option-elim number_of bytes_in
  shown-missing b =
      let e : wire_at (design h.statements) m w ≡ none = none-by _ (missing (lies h) m w true (λ (x : Wire). false) (rw (← eo) b)) in
      let q : wire_at (now (design h.statements) h.renames) m w ≡ none =
      wire-now (design h.statements) h.renames m w ∙ ap (Option.map (wire_now h.renames m w)) e in
      (shown-in h m w (Err 8) (sym (none_in b)), (tt, holding h.statements h.renames h.lengths h.holds (rw q)))

-- THE MEMORY IS NOT OPEN
pub shown-refused : (M : Memory) (m w n : ℕ) → NotOpen M n → Answered M m w (Err n)
unfolding number_of bytes_in
shown-refused M m w n h = (not-open Err _ n h, (tt, not-open (λ e. (e, [])) _ n h))

-- THE PART RETURNED
module _ (M : Memory) (m w : ℕ) (names strings : ℕ × ℕ) (r : Result Shown ℕ) (h : Answered M m w r) where
  abbrev Returned : Result Shown ℕ → Type 0
  Returned x = ShownAs M m w (number_of x) (bytes_in M.names M.strings x) × LiesAt M m w names strings (first_byte names strings x)

  returned : Returned r
  returned = (h.1.1, called-turn (λ n p. ap (first_byte names strings)) (λ ss rs. ap (first_byte names strings)) h.0)

  pub shown-name :
      (p : Span) → r ≡ Ok (Shown.Name p) →
      ShownAs M m w 0 (take (p.end - p.start) (drop p.start M.names)) × LiesAt M m w names strings (names.0, p.start + names.1)
  unfolding number_of bytes_at bytes_in byte_at first_byte
  shown-name p q = subst Returned q returned

  pub shown-text :
      (p : Span) → r ≡ Ok (Shown.Text p) →
      ShownAs M m w 0 (take (p.end - p.start) (drop p.start M.strings)) × LiesAt M m w names strings (strings.0, p.start + strings.1)
  unfolding number_of bytes_at bytes_in byte_at first_byte
  shown-text p q = subst Returned q returned

  -- the part of the names from 0 up to 0
  pub shown-none : (n : ℕ) → r ≡ Err n → ShownAs M m w n [] × LiesAt M m w names strings (names.0, 0 + names.1)
  unfolding number_of bytes_in first_byte
  shown-none n q = let e : 0 + names.1 ≡ names.1 = omega arith in rw e (subst Returned q returned)
