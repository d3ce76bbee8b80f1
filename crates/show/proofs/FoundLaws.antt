-- In tables that begin with statements, the rows found are the wire's statement and its attribute `\hdlname`.
-- Assumes nothing.
use Prim.Native.Nat.{ℕ, suc, ◌<◌}
use mathlib.Core.Path.{◌≡◌, refl, sym, ap, ◌∙◌}
use mathlib.Core.List.{List, [], ◌∷◌, ◌++◌, flat_map, zip, zip_with, append-nil, append_assoc}
use mathlib.Core.Bool.{false, not, cond}
use native.Mathlib.Omega.{arith}
use lib.ListN.{length}
use borrow.Author.Tests.{eq-eqb, ne_eqb, eqb-false}
use Rattle.rules.specs.Bytes.{bytes, same, any}
use Rattle.rules.specs.Tokens.{Name}
use Rattle.rules.specs.Statements.{Statement, Constant, value, integer, string, bytes_of, Wire, attr-stmt, wire-stmt, an_attribute, code, contents, is, statements_open}
use Rattle.rules.specs.Judgement.{Past, until, sum, among, count, of_object}
use Rattle.rules.specs.Design.{Setting, setting_in}
use Rattle.rules.specs.Session.{hdlname}
use Rattle.rules.specs.Layout.{used, padded, row, bytes_of_string, constant_columns, columns, statement_row}
use Rattle.lists.specs.Tests.{by-test}
use Rattle.lists.specs.Lists.{flat_map-back}
use Rattle.lists.specs.Parts.{slice-span}
use Rattle.context.specs.Forms.{by_form}
use Rattle.context.specs.Place.{wires_in}
use Rattle.wires.specs.Rows.{column, span_at}
use Rattle.netlist.specs.Rows.{kind_at, name_at}
use Rattle.netlist.specs.Kinds.{of_kinds, has_name}
use Rattle.netlist.specs.RowLaws.{row-own}
use Rattle.netlist.specs.Laid.{rooms_of}
use Rattle.modules.specs.AttributeLaws.{settings_before}
use Rattle.netlist.specs.UsedLaws.{used-wires}
use Rattle.modules.specs.WireLaws.{Adds, a-wire, no-wire, adds}
use Rattle.netlist.specs.Spans.{Has}
use Rattle.netlist.specs.Tables.{Tables}
use Rattle.netlist.specs.Fronts.{Fronts}
use Rattle.netlist.specs.FrontLaws.{fronts-before, fronts-stand, fronts-row, fronts-kind, fronts-wire}
use Rattle.show.specs.Rows.{declares, wire_line, is_hdlname, hdlname_row, text_at}

module _ (t : Tables) where
  -- THE WIRE'S STATEMENT is the last that declares it: one behind it declares no wire, or a later one
  wire-declares : (b : Wire) (n : Name) (ss : Past) → Fronts (rooms_of (wire-stmt b n ∷ ss)) t → (kind_at t.rows (length ss) ≡ 5) × (column t.rows (length ss) 3 ≡ wires_in ss)
  unfolding statements_open
  wire-declares b n ss f = (fronts-kind (wire-stmt b n) ss f, fronts-wire b n ss f ∙ used-wires ss)

  other-declares : (s : Statement) (ss : Past) (w : ℕ) → Adds s → Fronts (rooms_of (s ∷ ss)) t → w < wires_in ss → declares t.rows (length ss) w ≡ false
  unfolding declares is code
  other-declares s ss w (a-wire b n) f h =
      let d = wire-declares b n ss f in
      rw (d.0, ne_eqb (column t.rows (length ss) 3) w (λ e. omega (arith, d.1)))
  other-declares s ss w (no-wire e z) f h =
      let k : kind_at t.rows (length ss) ≡ code (contents s).kind = fronts-kind s ss f in
      rw (k, ne_eqb (code (contents s).kind) 5 (λ q. eqb-false 5 (code (contents s).kind) e (sym q)))

  more-wires : (b : Wire) (n : Name) (before xs : Past) → wires_in before < wires_in (xs ++ wire-stmt b n ∷ before)
  unfolding wires_in sum count among any statements_open
  more-wires b n before [] = omega arith
  more-wires b n before (x ∷ xs) = omega (arith, more-wires b n before xs)

  pub line-found :
      (b : Wire) (n : Name) (before xs : Past) → Fronts (rooms_of (xs ++ wire-stmt b n ∷ before)) t →
      wire_line t.rows (length (xs ++ wire-stmt b n ∷ before)) (wires_in before) ≡ length before
  unfolding wire_line declares
  line-found b n before [] f =
      let d = wire-declares b n before f in
      rw (d.0, d.1, eq-eqb (wires_in before) (wires_in before) refl)
  line-found b n before (x ∷ xs) f =
      let ss : Past = xs ++ wire-stmt b n ∷ before in
      rw (other-declares x ss (wires_in before) (adds x) f (more-wires b n before xs)) (line-found b n before xs (fronts-before x ss f))

  -- AN ATTRIBUTE'S ROW: its name, and its string
  attribute-name : (n : Name) (c : Constant) (ss : Past) → Fronts (rooms_of (attr-stmt n c ∷ ss)) t → name_at t.names t.rows (length ss) ≡ n
  unfolding Has has_name of_kinds any statements_open
  attribute-name n c ss f =
      row-own t.names t.rows (length ss) (used (rooms_of ss)) (attr-stmt n c) (fronts-row (attr-stmt n c) ss f) refl (fronts-stand (attr-stmt n c) ss f).parts.names-has

  attribute-text : (n : Name) (c : Constant) (ss : Past) → Fronts (rooms_of (attr-stmt n c ∷ ss)) t → text_at t.strings t.rows (suc (length ss)) ≡ bytes_of c
  unfolding text_at span_at Has bytes_of_string flat_map statement_row columns constant_columns row padded bytes_of statements_open
  attribute-text n (value ds) ss f = rw (fronts-row (attr-stmt n (value ds)) ss f 3 (omega arith))
  attribute-text n (integer i) ss f = rw (fronts-row (attr-stmt n (integer i)) ss f 3 (omega arith))
  attribute-text n (string s) ss f =
      let r = fronts-row (attr-stmt n (string s)) ss f in
      rw (r 3 (omega arith), r 4 (omega arith), r 5 (omega arith))
      (slice-span (used (rooms_of ss)).strings (length s) t.strings ∙ (rw append-nil at (fronts-stand (attr-stmt n (string s)) ss f).parts.strings-has))

-- statements by whether they are attributes
data Attributed : Statement → Type 0 where
  an-attribute : (n : Name) (c : Constant) → Attributed (attr-stmt n c)
  no-attribute : {s : Statement} → is an_attribute s ≡ false → Attributed s

attributed : (s : Statement) → Attributed s
unfolding statements_open
attributed =
    by_form Attributed (λ i. no-attribute refl) an-attribute (λ n. no-attribute refl) (λ n c. no-attribute refl) (λ w n. no-attribute refl) (λ m n. no-attribute refl)
    (λ t n. no-attribute refl) (λ o n c. no-attribute refl) (λ n x. no-attribute refl) (λ x y. no-attribute refl) (λ n. no-attribute refl) (λ p xs. no-attribute refl) (no-attribute refl)

settings-none : (s : Statement) (ss : Past) → is an_attribute s ≡ false → settings_before (s ∷ ss) ≡ []
unfolding settings_before of_object until flat_map
settings-none s ss e = rw e

settings-more : (n : Name) (c : Constant) (ss : Past) → settings_before (attr-stmt n c ∷ ss) ≡ settings_before ss ++ (n, c) ∷ []
unfolding settings_before of_object until setting_in zip zip_with statements_open
settings-more n c ss = flat_map-back setting_in (attr-stmt n c) (until (λ s. not (is an_attribute s)) ss)

-- THE ATTRIBUTE FOUND has what `hdlname` gives of the attributes right before the wire's statement
module _ (t : Tables) where
  abbrev Found : Past → List Setting → ℕ → Type 0
  Found ss rest at = text_at t.strings t.rows (hdlname_row t.names t.rows (length ss) at) ≡ hdlname (settings_before ss ++ rest)

  found_here :
      (n : Name) (c : Constant) (ss : Past) → Fronts (rooms_of (attr-stmt n c ∷ ss)) t → (rest : List Setting) (at : ℕ) → text_at t.strings t.rows at ≡ hdlname rest →
      text_at t.strings t.rows (cond (is_hdlname t.names t.rows (length ss)) (suc (length ss)) at) ≡ hdlname ((n, c) ∷ rest)
  unfolding is_hdlname hdlname
  found_here n c ss f rest at e =
      let a : name_at t.names t.rows (length ss) ≡ n = attribute-name t n c ss f in
      by-test (same n (bytes "\\hdlname")) (λ q. rw (a, q) (attribute-text t n c ss f)) (λ q. rw (a, q) e)

  found-step :
      (s : Statement) (ss : Past) → Attributed s → Fronts (rooms_of (s ∷ ss)) t →
      ((rest : List Setting) (at : ℕ) → text_at t.strings t.rows at ≡ hdlname rest → Found ss rest at) →
      (rest : List Setting) (at : ℕ) → text_at t.strings t.rows at ≡ hdlname rest → Found (s ∷ ss) rest at
  unfolding hdlname_row statements_open
  found-step s ss (an-attribute n c) f earlier rest at e =
      let k : kind_at t.rows (length ss) ≡ 2 = fronts-kind (attr-stmt n c) ss f in
      let l : settings_before (attr-stmt n c ∷ ss) ++ rest ≡ settings_before ss ++ (n, c) ∷ rest =
      ap (λ (x : List Setting). x ++ rest) (settings-more n c ss) ∙ append_assoc (settings_before ss) ((n, c) ∷ []) rest in
      rw (k, l) (earlier ((n, c) ∷ rest) _ (found_here n c ss f rest at e))
  found-step s ss (no-attribute h) f earlier rest at e =
      let k : kind_at t.rows (length ss) ≡ code (contents s).kind = fronts-kind s ss f in
      rw (k, ne_eqb (code (contents s).kind) 2 (λ q. eqb-false 2 (code (contents s).kind) h (sym q)), settings-none s ss h) e

  pub hdlname-found : (ss : Past) → Fronts (rooms_of ss) t → (rest : List Setting) (at : ℕ) → text_at t.strings t.rows at ≡ hdlname rest → Found ss rest at
  unfolding hdlname_row settings_before of_object until flat_map
  hdlname-found [] f rest at e = e
  hdlname-found (s ∷ ss) f rest at e = found-step s ss (attributed s) f (hdlname-found ss (fronts-before s ss f)) rest at e
