-- A statement of a row: where its row is as it should be and its parts stand there.
-- Assumes nothing.
use Prim.Native.Nat.{ℕ, ◌*◌}
use mathlib.Core.Path.{◌≡◌, sym, ap, ap₂, ◌∙◌}
use mathlib.Core.List.{List, [], ◌∷◌, ◌++◌, map, flat_map, zip, zip_with, append-nil}
use mathlib.Core.Bool.{true, false, cond, ◌&&◌, and-true}
use native.Mathlib.Omega.{arith}
use lib.ListN.{length, get_or}
use Rattle.std.specs.Prelude.{Some, None}
use Rattle.std.specs.Prelude.{Option as Optional}
use Rattle.rules.specs.Bytes.{same, all, legal}
use Rattle.rules.specs.Tokens.{Name}
use Rattle.rules.specs.Statements.{Sort, Statement, Constant, digits_of, bytes_of, Kind, contents, holds}
use Rattle.rules.specs.Signals.{Wires}
use Rattle.rules.specs.Judgement.{sum, equal, signal_size, value_size, string_size, name_size}
use Rattle.rules.specs.Layout.{Used, padded, row, name_bytes, bytes_of_string, bit_code, bit_codes, wire_rows, constant_columns, statement_row}
use Rattle.admitted.specs.Admitted.{fine_constant, fine_alone, fine_parts}
use Rattle.admitted.specs.AdmitLaws.{fine-parts}
use Rattle.tables.specs.Flat.{flat}
use Rattle.tables.specs.Row.{words}
use Rattle.tables.specs.declared.Row.{Row}
use Rattle.lists.specs.Lists.{same_at}
use Rattle.lists.specs.Tests.{by-test, and-true-left, and-true-right, never}
use Rattle.lists.specs.Bytes.{same_refl, same-eq}
use Rattle.lists.specs.Elements.{all_first}
use Rattle.row_statements.specs.Parts.{span, whole, name_stands}
use Rattle.netlist.specs.Spans.{Has}
use Rattle.netlist.specs.Fronts.{Parts}
use Rattle.row_statements.specs.Reads.{PartTables, part_tables, constant_of, ReadsConstant, TellsConstant, even_signals, Reads, Counts, Tells, TellsNamed, TellsValued}
use Rattle.row_statements.specs.declared.statements.Found.{Found}
use Rattle.row_statements.specs.declared.statements.HeldConstant.{HeldConstant}
use Rattle.row_statements.proofs.Spans.{whole_long, long-whole, has-none, has_span}
use Rattle.row_statements.proofs.CodeLaws.{held, constant-read}

-- what a statement holds
abbrev pub found : (c g v z n : ℕ) → Found
found c g v z n = record { count = c; signals = g; values = v; strings = z; names = n }

-- with the parts there, the row decides
pub settled :
    {u : Used} {s : Statement} (t : PartTables) (ws : Wires) (r x : Row) {c g v z n : ℕ} → words x ≡ statement_row u s → Parts t.names t.strings t.bits t.wires u s → fine_parts ws s ≡ true → even_signals s ≡ true → Counts s c g v z n →
    (f : Optional Found) → f ≡ cond (same (words r) (words x)) (Some (found c g v z n)) None → Tells t u ws r s f
unfolding Tells
settled t ws r x ex p w v q f e =
    by-test (same (words r) (words x))
    (λ h. rw (e, h) (record { parts = p; row = same-eq (words r) (words x) h ∙ ex; fine = w; even = v }, q))
    (λ h. rw (e, h) (λ d. never (same (words r) (words x)) (ap (same (words r)) (ex ∙ sym d.row) ∙ same_refl (words r)) h))

-- a name
pub name-legal : (names : List ℕ) (at n : ℕ) → name_stands names at n ≡ true → legal (span names at n) ≡ true
unfolding name_stands
name-legal names at n h = and-true-right (whole names at n) _ h

pub name-long : (names : List ℕ) (at n : ℕ) → name_stands names at n ≡ true → n ≡ length (span names at n)
unfolding name_stands
name-long names at n h = sym (whole_long names at n (and-true-left _ _ h))

pub name-not : {P : Type 0} (names : List ℕ) (at n : ℕ) → name_stands names at n ≡ false → n ≡ length (span names at n) → legal (span names at n) ≡ true → P
unfolding name_stands
name-not names at n h e l = never (whole names at n && legal (span names at n)) (rw (long-whole names at n (sym e), l)) h

-- a statement whose first name does not stand is not there
pub first-not :
    {P : Type 0} {t : PartTables} {u : Used} {ws : Wires} {r : Row} {s : Statement} {ns : List Name} → Reads t u ws r s → name_stands t.names u.names r.b ≡ false →
    (contents s).names ≡ span t.names u.names r.b ∷ ns → get_or (statement_row u s) 2 0 ≡ length (span t.names u.names r.b) → P
unfolding words
first-not {ws = ws} {s = s} d h e q =
    name-not _ _ _ h (same_at 2 d.row ∙ q) (all_first legal _ _ (ap (all legal) (sym e) ∙ (fine-parts ws s d.fine).names))

-- the same of a statement without constants
pub laid :
    (t : PartTables) (u : Used) (ws : Wires) (r x : Row) (s : Statement) → (contents s).constants ≡ [] → words x ≡ statement_row u s →
    Has t.names u.names (name_bytes s) → Has t.bits u.bits (flat_map (map bit_code) (contents s).signals) → Has t.wires (8 * u.wires) (flat (wire_rows u s)) →
    fine_parts ws s ≡ true → even_signals s ≡ true → {c g n : ℕ} → c ≡ length (contents s).signals → g ≡ signal_size s → n ≡ name_size s → (f : Optional Found) → f ≡ cond (same (words r) (words x)) (Some (found c g 0 0 n)) None → Tells t u ws r s f
unfolding bytes_of_string bit_codes flat_map value_size string_size sum
laid t u ws r x s e ex hn hb hw w v c g n f ef =
    settled t ws r x ex
    (record { names-has = hn; strings-has = rw e (has-none _ _); bits-has = rw e hb; wires-has = hw })
    w v
    (record { count = c; signals = g; values = rw e; strings = rw e; names = n })
    f ef

-- ---- a name and nothing else, by the statement's contents

module _ (names : List ℕ) (u : Used) (r : Row) (kind : ℕ) where
  pub named-not : name_stands names u.names r.b ≡ false → TellsNamed names u r kind None
  unfolding Tells holds row padded
  named-not h strings bits wires ws s k e q d = first-not d h (ap (λ c. c.names) e) (same_at 2 q)

  pub named-settled :
      name_stands names u.names r.b ≡ true → (x : Row) → words x ≡ row (kind ∷ u.names ∷ r.b ∷ []) → (f : Optional Found) →
      f ≡ cond (same (words r) (words x)) (Some (found 0 0 0 0 r.b)) None → TellsNamed names u r kind f
  unfolding fine_alone fine_parts even_signals equal all holds name_bytes wire_rows flat_map zip zip_with signal_size name_size sum
  named-settled h x ex f ef strings bits wires ws s k e q =
      let l : r.b ≡ length (span names u.names r.b) = name-long names u.names r.b h in
      laid (part_tables names strings bits wires) u ws r x s (rw e) (rw (q, ← l) ex) (rw (e, append-nil) (has_span names u.names r.b)) (rw e (has-none _ _)) (rw e (has-none _ _))
      (rw (e, name-legal names u.names r.b h)) (rw e) (rw e) (rw e) (rw e (omega arith)) f ef

-- ---- a name and a constant

module _ (names strings bits : List ℕ) (u : Used) (r : Row) (kind sort : ℕ) where
  module _ (wires : List ℕ) (ws : Wires) (s : Statement) (k : Kind) (os : List Sort) (n : Name) (c : Constant) (e : contents s ≡ holds k (n ∷ []) (c ∷ []) [] [] [] [] os []) where
    valued-fine : fine_parts ws s ≡ legal n && fine_constant c
    unfolding fine_alone fine_parts all holds
    valued-fine = rw e (simp and-true)

    read-constant : statement_row u s ≡ row (kind ∷ u.names ∷ length n ∷ constant_columns u c ++ sort ∷ []) → Reads (part_tables names strings bits wires) u ws r s → ReadsConstant strings bits u r.c r.d r.e c
    unfolding holds bytes_of_string bit_codes flat_map
    read-constant q d =
        record {
          columns = (constant-read u c r kind u.names (length n) sort (d.row ∙ q)).0;
          strings-has = rw (e, append-nil) at d.parts.strings-has;
          bits-has = rw (e, append-nil, append-nil) at d.parts.bits-has;
          fine = and-true-right (legal n) (fine_constant c) (sym valued-fine ∙ d.fine);
        }

    valued-parts : Has names u.names n → ReadsConstant strings bits u r.c r.d r.e c → Parts names strings bits wires u s
    unfolding holds name_bytes bytes_of_string bit_codes wire_rows flat_map zip zip_with
    valued-parts h d =
        record {
          names-has = rw (e, append-nil) h;
          strings-has = rw (e, append-nil) d.strings-has;
          bits-has = rw (e, append-nil, append-nil) d.bits-has;
          wires-has = rw e (has-none wires (8 * u.wires));
        }

    valued-even : even_signals s ≡ true
    unfolding even_signals equal holds
    valued-even = rw e

    valued-counts : (v z m : ℕ) → v ≡ length (digits_of c) → z ≡ length (bytes_of c) → m ≡ length n → Counts s 0 0 v z m
    unfolding holds signal_size value_size string_size name_size sum
    valued-counts v z m ev ez em = record { count = rw e; signals = rw e; values = rw e (omega arith); strings = rw e (omega arith); names = rw e (omega arith) }

  pub valued_not : name_stands names u.names r.b ≡ false → TellsValued names strings bits u r kind sort None
  unfolding Tells holds row padded
  valued_not h wires ws s k os e q d = first-not d h (ap (λ c. c.names) e) (same_at 2 q)

  pub valued-lacks :
      (h : Optional HeldConstant) → TellsConstant strings bits u r.c r.d r.e (constant_of strings bits u r.c r.d r.e) h → h ≡ None →
      TellsValued names strings bits u r kind sort None
  unfolding Tells TellsConstant
  valued-lacks h d eh wires ws s k os e q w = let f = rw eh at d in f (read-constant wires ws s k os _ _ e q w)

  pub valued-settled :
      name_stands names u.names r.b ≡ true → (h : Optional HeldConstant) (v z : ℕ) → TellsConstant strings bits u r.c r.d r.e (constant_of strings bits u r.c r.d r.e) h →
      h ≡ Some (held v z) → (x : Row) → words x ≡ row (kind ∷ u.names ∷ r.b ∷ r.c ∷ r.d ∷ r.e ∷ sort ∷ []) → (f : Optional Found) →
      f ≡ cond (same (words r) (words x)) (Some (found 0 0 v z r.b)) None → TellsValued names strings bits u r kind sort f
  unfolding TellsConstant
  valued-settled h held v z d eh x ex f ef wires ws s k os e q =
      let n = span names u.names r.b in
      let c = constant_of strings bits u r.c r.d r.e in
      let l : r.b ≡ length n = name-long names u.names r.b h in
      let g = rw eh at d in
      settled (part_tables names strings bits wires) ws r x
      (ex
      ∙ ap₂ (λ (m : ℕ) (cs : List ℕ). row (kind ∷ u.names ∷ m ∷ cs ++ sort ∷ [])) l (sym g.0.columns)
      ∙ sym q)
      (valued-parts wires ws s k os n c e (has_span names u.names r.b) g.0)
      (valued-fine wires ws s k os n c e ∙ rw (name-legal names u.names r.b h, g.0.fine))
      (valued-even wires ws s k os n c e)
      (valued-counts wires ws s k os n c e v z r.b g.1 g.2 l)
      f ef
