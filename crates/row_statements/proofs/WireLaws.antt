-- Connections and wires: where the row and the parts of such a statement stand, and where not.
-- Assumes nothing.
use Prim.Native.Nat.{ℕ, ◌+◌, ◌-◌, ◌*◌, ◌/◌, ◌≤◌, ◌<◌}
use mathlib.Core.Path.{◌≡◌, refl, sym, ap, ◌∙◌}
use mathlib.Core.List.{List, [], ◌∷◌, flat_map, zip, zip_with, append-nil}
use mathlib.Core.Option.{Option-elim}
use mathlib.Core.Bool.{Bool, true, false, cond, ◌&&◌, ◌||◌}
use native.Mathlib.Omega.{arith}
use lib.Dec.{eqb, leb}
use lib.ListN.{length}
use Rattle.std.specs.Prelude.{Some, None}
use Rattle.std.specs.Prelude.{Option as Optional}
use borrow.Author.Tests.{eq-eqb, eqb-true, leb-false, lt-leb}
use Rattle.rules.specs.Bytes.{same, all}
use Rattle.rules.specs.Tokens.{Name}
use Rattle.rules.specs.Statements.{Wire, contents, holds, code}
use Rattle.rules.specs.Signals.{Wires, twos_complement}
use Rattle.rules.specs.Judgement.{sum, equal, signal_size, name_size}
use Rattle.rules.specs.Layout.{Used, padded, row, name_bytes, flags, wire_row, wire_rows, columns, statement_row}
use Rattle.numbers.specs.Kinds.{signal_of}
use Rattle.admitted.specs.Admitted.{own_wire, fine_wire, fine_signal, fine_alone, fine_parts}
use Rattle.admitted.specs.AdmitLaws.{fine-parts}
use Rattle.tables.specs.Row.{words, row_at}
use Rattle.tables.specs.declared.Row.{Row}
use Rattle.numbers.specs.Signed.{signed_of}
use Rattle.numbers.specs.SignedLaws.{word-signed}
use Rattle.lists.specs.Lists.{same_at}
use Rattle.lists.specs.Tests.{by-test, and-true-left, and-true-right, never}
use Rattle.lists.specs.Bytes.{same_refl, same-eq}
use Rattle.wires.specs.Rows.{word_at, column, port_of, wire_of, wires_from}
use Rattle.wires.specs.RowLaws.{length-wire-row, flags-few, flags-back, port-number-back}
use Rattle.row_statements.specs.Parts.{span, name_stands, signal_stands}
use Rattle.netlist.specs.Spans.{Has, row_has, has-row, has-long}
use Rattle.row_statements.specs.Reads.{part_tables, even_signals, Decides, Tells, TellsWire, TellsCellConnection, TellsConnection, WireRowStands}
use Rattle.row_statements.specs.declared.statements.Found.{Found}
use Rattle.row_statements.proofs.Spans.{whole_long, has-none, has_span, spans}
use Rattle.numbers.specs.KindLaws.{codes-back, length-signal}
use Rattle.row_statements.proofs.CodeLaws.{signal-fine, signal-whole, signal-long}
use Rattle.row_statements.proofs.ReadLaws.{found, name-legal, name-long, first-not, laid}

-- a signal that stands there has as many bits as its row says, and keeps the rules
module _ (ws : Wires) (bits : List ℕ) (at n : ℕ) where
  signal-bits : signal_stands ws bits at n ≡ true → n ≡ length (signal_of (span bits at n))
  signal-bits h = sym (length-signal (span bits at n) ∙ whole_long bits at n (signal-whole ws bits at n h))

  signal-good : signal_stands ws bits at n ≡ true → fine_signal ws (signal_of (span bits at n)) ≡ true
  signal-good h = sym (signal-fine ws bits at n (signal-whole ws bits at n h)) ∙ h

  signal-not : {P : Type 0} → signal_stands ws bits at n ≡ false → n ≡ length (signal_of (span bits at n)) → fine_signal ws (signal_of (span bits at n)) ≡ true → P
  signal-not h e f = never (signal_stands ws bits at n) (signal-fine ws bits at n (signal-long bits at n e) ∙ f) h

-- ---- a connection of a cell

module _ (names bits wires : List ℕ) (u : Used) (first : ℕ) (r : Row) where
  abbrev here : Wires
  here = wires_from names wires first (u.wires - first)

  pub port-name : name_stands names u.names r.b ≡ false → TellsCellConnection names bits wires u first r None
  unfolding Tells statement_row columns contents holds row padded
  port-name h strings d = first-not d h refl refl

  pub port-signal : signal_stands here bits u.bits r.d ≡ false → TellsCellConnection names bits wires u first r None
  unfolding Tells statement_row columns contents holds words row padded all
  port-signal h strings d = signal-not here bits u.bits r.d h (same_at 4 d.row) (and-true-left _ _ (fine-parts here _ d.fine).signals)

  pub port-settled :
      name_stands names u.names r.b ≡ true → signal_stands here bits u.bits r.d ≡ true →
      (x : Row) → words x ≡ row (9 ∷ u.names ∷ r.b ∷ u.bits ∷ r.d ∷ []) → (f : Optional Found) →
      f ≡ cond (same (words r) (words x)) (Some (found 1 r.d 0 0 r.b)) None → TellsCellConnection names bits wires u first r f
  unfolding statement_row columns code contents holds fine_alone fine_parts even_signals equal all name_bytes wire_rows flat_map zip zip_with signal_size name_size sum
  port-settled h k x ex f ef strings =
      let l : r.b ≡ length (span names u.names r.b) = name-long names u.names r.b h in
      let m : r.d ≡ length (signal_of (span bits u.bits r.d)) = signal-bits here bits u.bits r.d k in
      laid (part_tables names strings bits wires) u here r x _ refl (rw (← l, ← m) ex) (rw append-nil (has_span names u.names r.b)) (rw (append-nil, codes-back) (has_span bits u.bits r.d)) (has-none _ _)
      (rw (name-legal names u.names r.b h, signal-good here bits u.bits r.d k)) refl refl (omega arith) (omega arith) f ef

-- ---- a connection of a module

module _ (bits wires : List ℕ) (u : Used) (first : ℕ) (r : Row) where
  abbrev inside : List ℕ → Wires
  inside names = wires_from names wires first (u.wires - first)

  pub connection-left : ((names : List ℕ) → signal_stands (inside names) bits u.bits r.b ≡ false) → TellsConnection bits wires u first r None
  unfolding Tells statement_row columns contents holds words row padded all
  connection-left h names strings d =
      signal-not (inside names) bits u.bits r.b (h names) (same_at 2 d.row) (and-true-left _ _ (fine-parts (inside names) _ d.fine).signals)

  pub connection-right : ((names : List ℕ) → signal_stands (inside names) bits (u.bits + r.b) r.d ≡ false) → TellsConnection bits wires u first r None
  unfolding Tells statement_row columns contents holds words row padded all
  connection-right h names strings d =
      signal-not (inside names) bits (u.bits + r.b) r.d (h names) (same_at 4 d.row) (and-true-left _ _ (and-true-right (fine_signal (inside names) (signal_of (span bits u.bits r.b))) _ (fine-parts (inside names) _ d.fine).signals))

  pub connection-widths : (r.b ≡ r.d → ⊥) → TellsConnection bits wires u first r None
  unfolding Tells statement_row columns contents holds words row padded even_signals equal all
  connection-widths h names strings d =
      let m = length (signal_of (span bits u.bits r.b)) in
      let n = length (signal_of (span bits (u.bits + r.b) r.d)) in
      let e : m ≡ n = eqb-true m n (and-true-left (eqb m n) true (and-true-left (eqb m n && true) _ d.even)) in
      h (same_at 2 d.row ∙ e ∙ sym (same_at 4 d.row))

  pub connection-settled :
      ((names : List ℕ) → signal_stands (inside names) bits u.bits r.b ≡ true) → ((names : List ℕ) → signal_stands (inside names) bits (u.bits + r.b) r.d ≡ true) → r.b ≡ r.d →
      (x : Row) → words x ≡ row (10 ∷ u.bits ∷ r.b ∷ (u.bits + r.b) ∷ r.d ∷ []) → (f : Optional Found) →
      f ≡ cond (same (words r) (words x)) (Some (found 2 (r.b + r.d) 0 0 0)) None → TellsConnection bits wires u first r f
  unfolding statement_row columns code contents holds fine_alone fine_parts even_signals equal all name_bytes wire_rows flat_map zip zip_with signal_size name_size sum
  connection-settled h k e x ex f ef names strings =
      let l : r.b ≡ length (signal_of (span bits u.bits r.b)) = signal-bits (inside names) bits u.bits r.b (h names) in
      let m : r.d ≡ length (signal_of (span bits (u.bits + r.b) r.d)) = signal-bits (inside names) bits (u.bits + r.b) r.d (k names) in
      laid (part_tables names strings bits wires) u (inside names) r x _ refl (rw (← l, ← m) ex) (has-none _ _) (rw (append-nil, codes-back, codes-back, spans) (has_span bits u.bits (r.b + r.d))) (has-none _ _)
      (rw (signal-good (inside names) bits u.bits r.b (h names), signal-good (inside names) bits (u.bits + r.b) r.d (k names))) (rw (← l, ← m, eq-eqb r.b r.d e)) refl (omega arith) refl f ef

-- ---- a wire

module _ (names wires : List ℕ) (u : Used) (first : ℕ) (r : Row) where
  abbrev before : Wires
  before = wires_from names wires first (u.wires - first)

  abbrev named : Name
  named = span names u.names r.b

  pub wire-name : name_stands names u.names r.b ≡ false → TellsWire names wires u first r None
  unfolding Tells statement_row columns contents holds row padded
  wire-name h strings bits d = first-not d h refl refl

  pub wire-rules : fine_wire before (wire_of wires u.wires) ≡ false → TellsWire names wires u first r None
  unfolding Tells contents holds all fine_wire
  wire-rules h strings bits d =
      let f = fine-parts before _ d.fine in
      never (fine_wire before (wire_of wires u.wires)) (rw (and-true-left (own_wire (wire_of wires u.wires)) _ f.wires) (and-true-left _ _ f.ports)) h

  pub wire-row : (b : Bool) → WireRowStands wires u r.b b → b ≡ false → TellsWire names wires u first r None
  unfolding Tells Decides statement_row columns contents holds wire_rows flat_map zip zip_with words row padded
  wire-row b h e strings bits d =
      let k = rw e at (h named (sym (same_at 2 d.row))) in
      k (rw append-nil at d.parts.wires-has)

  pub wire-settled :
      name_stands names u.names r.b ≡ true → (b : Bool) → WireRowStands wires u r.b b → b ≡ true → fine_wire before (wire_of wires u.wires) ≡ true →
      (x : Row) → words x ≡ row (5 ∷ u.names ∷ r.b ∷ u.wires ∷ []) → (f : Optional Found) →
      f ≡ cond (same (words r) (words x)) (Some (found 0 0 0 0 r.b)) None → TellsWire names wires u first r f
  unfolding Decides statement_row columns code contents holds fine_wire fine_alone fine_parts even_signals equal all name_bytes wire_rows flat_map zip zip_with signal_size name_size sum
  wire-settled h b q e k x ex f ef strings bits =
      let l : r.b ≡ length named = name-long names u.names r.b h in
      let w = rw e at (q named (sym l)) in
      laid (part_tables names strings bits wires) u before r x _ refl (rw (← l) ex) (rw append-nil (has_span names u.names r.b)) (has-none _ _) (rw append-nil w)
      (rw (name-legal names u.names r.b h, and-true-left (own_wire (wire_of wires u.wires)) _ k, and-true-right (own_wire (wire_of wires u.wires)) _ k)) refl refl refl (omega arith) f ef

-- ---- the row of a wire in the table of wires

module _ (wires : List ℕ) (k : ℕ) where
  no-port : column wires k 5 < 4 → Option-elim (wire_of wires k).port 0 (λ q. q.1) ≡ 0
  unfolding wire_of Option-elim port_of
  no-port h = let e : column wires k 5 / 4 ≡ 0 = omega arith in rw e

module _ (wires : List ℕ) (u : Used) (size : ℕ) where
  pub wire-short : length wires < 8 * u.wires + 8 → WireRowStands wires u size false
  unfolding Decides
  wire-short h n e d = omega (arith, has-long wires u.wires (wire_row u (n, wire_of wires u.wires)) (length-wire-row u (n, wire_of wires u.wires)) d)

  module _ (h : 8 * u.wires + 8 ≤ length wires) (q : Row) (eq : q ≡ row_at wires (8 * u.wires)) where
    row_is : (n : Name) → Has wires (8 * u.wires) (wire_row u (n, wire_of wires u.wires)) → words q ≡ wire_row u (n, wire_of wires u.wires)
    row_is n d = ap words eq ∙ row_has wires u.wires (wire_row u (n, wire_of wires u.wires)) (length-wire-row u (n, wire_of wires u.wires)) h d

    columns-are : (q.c ≡ column wires u.wires 3) × (q.d ≡ column wires u.wires 4) × (q.e ≡ column wires u.wires 5) × (q.f ≡ column wires u.wires 6)
    unfolding row_at column word_at
    columns-are = rw eq (refl, refl, refl, refl)

    pub wire-flags : 15 < q.e → WireRowStands wires u size false
    unfolding Decides words wire_row row padded
    wire-flags g n e d =
        let z : q.e ≡ flags (wire_of wires u.wires) = same_at 5 (row_is n d) in
        omega (arith, flags-few (wire_of wires u.wires))

    pub wire-number : leb 4 q.e || eqb q.f 0 ≡ false → WireRowStands wires u size false
    unfolding Decides words wire_row row padded
    wire-number g n e d =
        by-test (leb 4 q.e) (λ y. never (leb 4 q.e || eqb q.f 0) (rw y) g)
        (λ y. let l : q.e < 4 = leb-false 4 q.e y in
        let z : q.f ≡ 0 = same_at 6 (row_is n d) ∙ no-port wires u.wires (omega (arith, columns-are.2)) in
        never (leb 4 q.e || eqb q.f 0) (rw (y, z)) g)

    numbered : leb 4 q.e || eqb q.f 0 ≡ true → q.e < 4 → q.f ≡ 0
    numbered g l = let y = lt-leb 4 q.e l in eqb-true q.f 0 (rw y at g)

    pub wire-row-settled :
        q.e ≤ 15 → leb 4 q.e || eqb q.f 0 ≡ true → q.d < 4294967296 → (x : Row) → words x ≡ (u.modules - 1) ∷ u.names ∷ size ∷ q.c ∷ q.d ∷ q.e ∷ q.f ∷ 0 ∷ [] →
        (b : Bool) → b ≡ same (words q) (words x) → WireRowStands wires u size b
    unfolding Decides wire_row row padded wire_of
    wire-row-settled g z o x ex b eb n e =
        let w : Wire = wire_of wires u.wires in
        let ff : flags w ≡ q.e = flags-back wires u.wires (omega (arith, columns-are.2)) ∙ sym columns-are.2 in
        let fp : Option-elim w.port 0 (λ q. q.1) ≡ q.f = port-number-back wires u.wires (omega (arith, columns-are.2)) (λ y. sym columns-are.3 ∙ numbered z (omega (arith, columns-are.2))) ∙ sym columns-are.3 in
        let fo = ap (λ (m : ℕ). twos_complement (signed_of m)) (sym columns-are.1) ∙ word-signed q.d o in
        let rx : words x ≡ wire_row u (n, w) = ex ∙ rw (ff, fp, fo, e, ← columns-are.0) in
        by-test (same (words q) (words x))
        (λ t. rw (eb, t) (has-row wires u.wires (wire_row u (n, w)) (length-wire-row u (n, w)) h (sym (ap words eq) ∙ same-eq (words q) (words x) t ∙ rx)))
        (λ t. rw (eb, t) (λ d. never (same (words q) (words x)) (ap (same (words q)) (rx ∙ sym (row_is n d)) ∙ same_refl (words q)) t))
