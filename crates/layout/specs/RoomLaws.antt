-- The tables and what is used of them after one statement more, in the rules' words.
-- Assumes nothing.
use Rattle.std.specs.Prelude.{ℕ, ◌+◌, ◌*◌, ◌≤◌, ◌≡◌}
use Rattle.std.proofs.Math.Path.{refl}
use Rattle.std.proofs.Common.{sym, ap, ◌∙◌, arith, length-append}
use mathlib.Core.List.{List, [], ◌∷◌, ◌++◌, flat_map, zip}
use Rattle.std.proofs.Math.ListN.{length}
use Rattle.std.proofs.lemmas.List.{length-map}
use Rattle.rules.specs.Limits.{most_wires, names_length, strings_length, bits_length, wires_length, rows_length}
use Rattle.rules.specs.Tokens.{Name}
use Rattle.rules.specs.Statements.{Statement, Constant, Signal, Wire, contents, digits_of, bytes_of}
use Rattle.rules.specs.Layout.{Rooms, Used, padded, used, name_bytes, bytes_of_string, bit_codes, wire_row, wire_rows, statement_row, put, memory}
use Rattle.lists.specs.Lists.{flat_map-append}
use Rattle.lists.specs.Elements.{each-mapped}
use Rattle.tables.specs.Store.{store, store-none}
use Rattle.tables.specs.Padded.{store-padded}
use Rattle.tables.specs.Flat.{flat, Eights, length-flat, store-row}
use Rattle.wires.specs.RowLaws.{length-wire-row}
use Rattle.netlist.specs.RowLaws.{length-statement-row}
use Rattle.netlist.specs.Tables.{Tables}
use Rattle.layout.specs.Put.{tables_of, Puts, used_after, RoomFor, Fits}
use Rattle.layout.specs.PartLaws.{one_name, two-names, one-string, one_value, one-signal, two-signals, no-wire, one-wire}

-- ---- what is used

pub used-put : (R : Rooms) (s : Statement) → used (put R s) ≡ used_after (used R) s
unfolding used put used_after
used-put R s = simp length-append

-- ---- rows of eight columns

pub record Rowed (R : Rooms) : Type 0 where
  pub wires : Eights R.wires
  pub rows : Eights R.rows

eights-wires : (u : Used) (s : Statement) → Eights (wire_rows u s)
unfolding wire_rows
eights-wires u s = each-mapped (wire_row u) _ (length-wire-row u) (zip (contents s).names (contents s).wires)

-- ---- the tables

wires-padded :
    (n : ℕ) (rs ss : List (List ℕ)) (t : List ℕ) (at : ℕ) → t ≡ padded n (flat rs) → at ≡ 8 * length rs → Eights rs → Eights ss → 8 * (length rs + length ss) ≤ n →
    store t at (flat ss) ≡ padded n (flat (rs ++ ss))
wires-padded n rs ss t at e ea h k room =
    let a : length (flat rs) ≡ 8 * length rs = length-flat rs h in
    let b : length (flat ss) ≡ 8 * length ss = length-flat ss k in
    store-padded n (flat rs) (flat ss) t at e (omega arith) (omega arith) ∙ ap (padded n) (sym (flat_map-append (λ r. r) rs ss))

-- the statement's parts stored in the tables of the rooms give the tables of the rooms with the statement
module _ (R : Rooms) (s : Statement) (k : ℕ) (h : Rowed R) (room : RoomFor (used R) s) where
  puts-used : (t t' : Tables) → t ≡ tables_of (memory R k) → Puts (used R) s t t' → t' ≡ tables_of (memory (put R s) k)
  unfolding tables_of memory used put
  puts-used t t' e p =
      let names : t'.names ≡ padded names_length (R.names ++ name_bytes s) =
      p.names-put ∙ store-padded names_length R.names (name_bytes s) t.names (length R.names) (ap (λ (x : Tables). x.names) e) refl room.names in
      let strings : t'.strings ≡ padded strings_length (R.strings ++ bytes_of_string s) =
      p.strings-put ∙ store-padded strings_length R.strings (bytes_of_string s) t.strings (length R.strings) (ap (λ (x : Tables). x.strings) e) refl room.strings in
      let bits : t'.bits ≡ padded bits_length (R.bits ++ bit_codes s) =
      p.bits_put ∙ store-padded bits_length R.bits (bit_codes s) t.bits (length R.bits) (ap (λ (x : Tables). x.bits) e) refl room.bits in
      let wires : t'.wires ≡ padded wires_length (flat (R.wires ++ wire_rows (used R) s)) =
      p.wires-put
      ∙ wires-padded wires_length R.wires (wire_rows (used R) s) t.wires (8 * length R.wires) (ap (λ (x : Tables). x.wires) e) refl h.wires (eights-wires (used R) s) (omega (arith, room.wires)) in
      let rows : t'.rows ≡ padded rows_length (flat (R.rows ++ statement_row (used R) s ∷ [])) =
      p.rows-put
      ∙ store-row rows_length R.rows (statement_row (used R) s) t.rows (8 * length R.rows) (ap (λ (x : Tables). x.rows) e) refl h.rows (length-statement-row (used R) s) (omega (arith, room.rows)) in
      λ i. record { names = names i; strings = strings i; bits = bits i; wires = wires i; rows = rows i }

pub tables-put :
    (R : Rooms) (s : Statement) (k : ℕ) (u : Used) (t t' : Tables) → t ≡ tables_of (memory R k) → u ≡ used R → Rowed R → RoomFor u s → Puts u s t t' →
    t' ≡ tables_of (memory (put R s) k)
tables-put R s k u t t' e eu h room p =
    puts-used R s k h (rw eu at room) t t' e (rw eu at p)

-- ---- a table into which a statement puts nothing

module _ (t : List ℕ) (at : ℕ) where
  pub nothing_put : {vs : List ℕ} → vs ≡ [] → t ≡ store t at vs
  nothing_put e = sym (ap (store t at) e ∙ store-none t at)

  pub wires-same : (s : Statement) (u : Used) → (contents s).wires ≡ [] → t ≡ store t at (flat (wire_rows u s))
  unfolding flat_map
  wires-same s u e = nothing_put (ap flat (no-wire s u e))

-- ---- room for a statement's parts in tables of the stated lengths

module _ (u : Used) (s : Statement) (room : RoomFor u s) (t : List ℕ) where
  pub name-fits : (n : Name) → (contents s).names ≡ n ∷ [] → length t ≡ names_length → Fits u.names (length n) t
  name-fits n e l = let h : u.names + length n ≤ names_length = rw (one_name s n e) at room.names in omega arith

  pub names-fit : (m n : Name) → (contents s).names ≡ m ∷ n ∷ [] → length t ≡ names_length → Fits u.names (length m + length n) t
  names-fit m n e l = let h : u.names + (length m + length n) ≤ names_length = rw (two-names s m n e, length-append) at room.names in omega arith

  pub string-fits : (c : Constant) → (contents s).constants ≡ c ∷ [] → length t ≡ strings_length → Fits u.strings (length (bytes_of c)) t
  string-fits c e l = let h : u.strings + length (bytes_of c) ≤ strings_length = rw (one-string s c e) at room.strings in omega arith

  pub value-fits : (c : Constant) → (contents s).constants ≡ c ∷ [] → (contents s).signals ≡ [] → length t ≡ bits_length → Fits u.bits (length (digits_of c)) t
  value-fits c e g l = let h : u.bits + length (digits_of c) ≤ bits_length = rw (one_value s c e g, length-map) at room.bits in omega arith

  pub signal-fits : (x : Signal) → (contents s).constants ≡ [] → (contents s).signals ≡ x ∷ [] → length t ≡ bits_length → Fits u.bits (length x) t
  signal-fits x e g l = let h : u.bits + length x ≤ bits_length = rw (one-signal s x e g, length-map) at room.bits in omega arith

  pub signals-fit : (x y : Signal) → (contents s).constants ≡ [] → (contents s).signals ≡ x ∷ y ∷ [] → length t ≡ bits_length → Fits u.bits (length x + length y) t
  signals-fit x y e g l =
      let h : u.bits + (length x + length y) ≤ bits_length = simp (two-signals s x y e g, length-append, length-map) at room.bits in omega arith

  pub wire-fits : (n : Name) (w : Wire) → (contents s).names ≡ n ∷ [] → (contents s).wires ≡ w ∷ [] → length t ≡ wires_length → 8 * u.wires + 8 ≤ length t
  wire-fits n w e g l = let h : u.wires + 1 ≤ most_wires = rw (one-wire s u n w e g) at room.wires in omega arith

  pub row_fits : length t ≡ rows_length → 8 * u.rows + 8 ≤ length t
  row_fits l = omega (arith, room.rows)
