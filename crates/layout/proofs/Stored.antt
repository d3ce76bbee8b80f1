-- From what storing an answer needs to what its parts need, and from what the parts store to what the statement puts.
-- Assumes nothing.
use Prim.Native.Nat.{ℕ, ◌+◌, ◌*◌, ◌≤◌, ◌<◌}
use Rattle.std.specs.Prelude.{Option as Optional, Some, None}
use mathlib.Core.Path.{◌≡◌, refl, sym, ap, ◌∙◌}
use mathlib.Core.List.{List, [], ◌∷◌, map, Option-to_list}
use mathlib.Core.Option
use mathlib.Core.Option.{Option, none, some, Option-elim}
use native.Mathlib.Omega.{arith}
use lib.ListN.{length}
use Rattle.rules.specs.Tokens.{Name}
use Rattle.rules.specs.Statements as rules
use Rattle.rules.specs.Statements.{autoidx-stmt, attr-stmt, module-stmt, param-stmt, wire-stmt, memory-stmt, cell-stmt, cell-param-stmt, cell-conn-stmt, conn-stmt, proc-stmt, end-stmt, code, holds, contents}
use Rattle.rules.specs.Layout as rooms
use Rattle.rules.specs.Layout.{padded, row, digit_code, bytes_of_string, bit_codes, columns, statement_row}
use Rattle.tables.specs.Store.{store}
use Rattle.numbers.specs.Signed.{signed_of}
use Rattle.numbers.specs.SignedLaws.{word-signed}
use Rattle.tokens.specs.declared.ConstantSpan.{ConstantSpan}
use Rattle.wires.specs.Rows.{word_at, column, wire_of}
use Rattle.wires.specs.RowLaws.{flags-back, port-number-back}
use Rattle.numbers.specs.Kinds.{sort_of}
use Rattle.numbers.specs.KindLaws.{sort-code}
use Rattle.line_forms.specs.Forms.{name_in, value_in}
use Rattle.scanner.specs.declared.parts.Span.{Span}
use Rattle.syntax.specs.Statements.{fault_of, wire_from, memory_from, signal_in, statement_in, GoodConstant, GoodOptional, Sound}
use Rattle.syntax.specs.declared.Statement.{Statement}
use Rattle.syntax.specs.declared.Statement.TheVariants.{Autoidx, Attribute, Module, Parameter, Wire as WireOf, Memory as MemoryOf, Cell, CellParameter, CellConnection, Connection, Step as StepOf, End, Process}
use Rattle.netlist.specs.Tables.{Tables, tabled}
use Rattle.layout.specs.Put.{names_put, bits_put_at, rows_put, Puts, RoomFor, Fits, constant_in, optional_in, optional_columns, optional_bytes, optional_digits, valued_row, OptionalFits, WireHas, WirePut}
use Rattle.layout.specs.PartLaws.{no_names, no-string, one-string, no_bits, one_value}
use Rattle.syntax.specs.SignalLaws.{signal-long}
use Rattle.layout.specs.RoomLaws.{nothing_put, wires-same, name-fits, names-fit, string-fits, value-fits, signal-fits, signals-fit, wire-fits, row_fits}
use Rattle.layout.specs.Stored.{Storable, PutIs, ValuedHas, Plain, PlainStorable, PlainPut}
use Rattle.netlist.specs.declared.used.Used.{Used}
use Rattle.netlist.specs.Used.{used_of}
use Rattle.netlist.specs.RowLaws.{row_zero}
use Rattle.layout.proofs.PutLaws.{name-put}

-- what is put for the statement that the answer stands for
pub puts-is : (f s : List ℕ) (r : Statement) (u : Used) (t t' : Tables) (y : rules.Statement) → statement_in f s r ≡ some y → Puts (used_of u) y t t' → PutIs f s r u t t'
puts-is f s r u t t' y e p = rw e p

-- ---- a wire and a sort by their numbers

wire-has : (w t k p : ℕ) → t < 4294967296 → k < 16 → (k < 4 → p ≡ 0) → WireHas w t k p (wire_from w t k p)
unfolding wire_from wire_of column word_at
wire-has w t k p ht hk hp =
    let r : List ℕ = 0 ∷ 0 ∷ 0 ∷ w ∷ t ∷ k ∷ p ∷ 0 ∷ [] in
    record {
      width_is = refl;
      offset-is = word-signed t ht;
      flags-are = flags-back r 0 (omega arith);
      port-is = port-number-back r 0 (omega arith) hp;
    }

-- ---- answers without a constant or a wire's row

-- what their parts need
module _ (f s : List ℕ) (r : Statement) (u : Used) (names bits wires rows : List ℕ) (h : PlainStorable f s r u names bits wires rows) where
  row_room : (x : rules.Statement) → statement_in f s r ≡ some x → 8 * u.rows + 8 ≤ length rows
  row_room x e = row_fits (used_of u) x (h.room x e) rows h.rows_long

  named-room : (x : rules.Statement) (n : Name) → statement_in f s r ≡ some x → (contents x).names ≡ n ∷ [] → (Fits u.names (length n) names) × (8 * u.rows + 8 ≤ length rows)
  named-room x n e k = (name-fits (used_of u) x (h.room x e) names n k h.names-long, row_room x e)

  pub autoidx-room : (w : ℕ) → r ≡ Autoidx w → 8 * u.rows + 8 ≤ length rows
  unfolding statement_in
  autoidx-room w e = row_room (autoidx-stmt (signed_of w)) (ap (statement_in f s) e)

  pub end-room : r ≡ End → 8 * u.rows + 8 ≤ length rows
  unfolding statement_in
  end-room e = row_room end-stmt (ap (statement_in f s) e)

  pub memory-room : (n : Span) (w z t : ℕ) → r ≡ MemoryOf n w z t → (Fits u.names (length (name_in f n)) names) × (8 * u.rows + 8 ≤ length rows)
  unfolding statement_in holds contents
  memory-room n w z t e = named-room (memory-stmt (memory_from w z t) (name_in f n)) (name_in f n) (ap (statement_in f s) e) refl

  pub cell_room : (k n : Span) → r ≡ Cell k n → (Fits u.names (length (name_in f k) + length (name_in f n)) names) × (8 * u.rows + 8 ≤ length rows)
  unfolding statement_in holds contents
  cell_room k n e =
      let x : rules.Statement = cell-stmt (name_in f k) (name_in f n) in
      let q : statement_in f s r ≡ some x = ap (statement_in f s) e in
      (names-fit (used_of u) x (h.room x q) names (name_in f k) (name_in f n) refl h.names-long, row_room x q)

  pub cell-connection-room :
      (n : Span) (w l : ℕ) → r ≡ CellConnection n w l →
      (Fits u.names (length (name_in f n)) names) × ((w ≤ length s) × ((Fits u.bits w bits) × (8 * u.rows + 8 ≤ length rows)))
  unfolding statement_in holds contents fault_of
  cell-connection-room n w l e =
      let x : rules.Statement = cell-conn-stmt (name_in f n) (signal_in s 0 w) in
      let q : statement_in f s r ≡ some x = ap (statement_in f s) e in
      let fault : l ≡ 0 = rw e at h.settled in
      let sound : l ≡ 0 → w ≤ 2048 = rw e at h.sound in
      let k : w ≤ length s = omega (arith, sound fault, h.scratch) in
      let b : Fits u.bits (length (signal_in s 0 w)) bits = signal-fits (used_of u) x (h.room x q) bits (signal_in s 0 w) refl refl h.bits-long in
      (name-fits (used_of u) x (h.room x q) names (name_in f n) refl h.names-long, (k, (rw (signal-long s 0 w (omega arith)) at b, row_room x q)))

  pub connection-room :
      (a b l : ℕ) → r ≡ Connection a b l →
      ((a ≤ 2048) × (2048 + b ≤ length s)) × ((Fits u.bits (a + b) bits) × (8 * u.rows + 8 ≤ length rows))
  unfolding statement_in holds contents fault_of
  connection-room a b l e =
      let x : rules.Statement = conn-stmt (signal_in s 0 a) (signal_in s 2048 b) in
      let q : statement_in f s r ≡ some x = ap (statement_in f s) e in
      let fault : l ≡ 0 = rw e at h.settled in
      let sound : l ≡ 0 → (a ≤ 2048) × (b ≤ 2048) = rw e at h.sound in
      let ka : a ≤ 2048 = (sound fault).0 in
      let kb : 2048 + b ≤ length s = omega (arith, (sound fault).1, h.scratch) in
      let g : Fits u.bits (length (signal_in s 0 a) + length (signal_in s 2048 b)) bits =
      signals-fit (used_of u) x (h.room x q) bits (signal_in s 0 a) (signal_in s 2048 b) refl refl h.bits-long in
      ((ka, kb), (rw (signal-long s 0 a (omega (arith, h.scratch)), signal-long s 2048 b kb) at g, row_room x q))

  pub wire-room :
      (n : Span) (w o k p : ℕ) → r ≡ WireOf n w o k p →
      (Fits u.names (length (name_in f n)) names) × ((8 * u.wires + 8 ≤ length wires) × (8 * u.rows + 8 ≤ length rows))
  unfolding statement_in holds contents
  wire-room n w o k p e =
      let x : rules.Statement = wire-stmt (wire_from w o k p) (name_in f n) in
      let q : statement_in f s r ≡ some x = ap (statement_in f s) e in
      let g : 8 * u.wires + 8 ≤ length wires = wire-fits (used_of u) x (h.room x q) wires (name_in f n) (wire_from w o k p) refl refl h.wires-long in
      (name-fits (used_of u) x (h.room x q) names (name_in f n) refl h.names-long, (g, row_room x q))

-- what they put
module _ (f s : List ℕ) (r : Statement) (u : Used) (names names' bits bits' wires rows rows' : List ℕ) where
  plain-is :
      (y : rules.Statement) → statement_in f s r ≡ some y → (contents y).constants ≡ [] → (contents y).wires ≡ [] →
      names' ≡ names_put (used_of u) y names → bits' ≡ bits_put_at (used_of u) y bits → rows' ≡ rows_put (used_of u) y rows →
      PlainPut f s r u names names' bits bits' wires wires rows rows'
  plain-is y e c w en eb er k strings =
      puts-is f s r u (tabled names strings bits wires rows) (tabled names' strings bits' wires rows') y e
      (record {
        names-put = en;
        strings-put = nothing_put strings u.strings (no-string y c);
        bits_put = eb;
        wires-put = wires-same wires (8 * u.wires) y (used_of u) w;
        rows-put = er;
      })

module _ (f s : List ℕ) (r : Statement) (u : Used) (names bits wires rows rows' : List ℕ) where
  pub autoidx-put : (w : ℕ) → w < 4294967296 → r ≡ Autoidx w → rows' ≡ store rows (8 * u.rows) (row (1 ∷ w ∷ 0 ∷ 0 ∷ 0 ∷ 0 ∷ 0 ∷ [])) → PlainPut f s r u names names bits bits wires wires rows rows'
  unfolding statement_in statement_row columns code holds contents row padded
  autoidx-put w b e q =
      let x : rules.Statement = autoidx-stmt (signed_of w) in
      plain-is f s r u names names bits bits wires rows rows' x (ap (statement_in f s) e) refl refl (nothing_put names u.names (no_names x refl)) (nothing_put bits u.bits (no_bits x refl refl)) (rw (word-signed w b) q)

  pub end-put : r ≡ End → rows' ≡ store rows (8 * u.rows) (row (12 ∷ 0 ∷ 0 ∷ 0 ∷ 0 ∷ 0 ∷ 0 ∷ [])) → PlainPut f s r u names names bits bits wires wires rows rows'
  unfolding statement_in statement_row columns code holds contents row padded
  end-put e q = plain-is f s r u names names bits bits wires rows rows' end-stmt (ap (statement_in f s) e) refl refl (nothing_put names u.names (no_names end-stmt refl)) (nothing_put bits u.bits (no_bits end-stmt refl refl)) q

module _ (f s : List ℕ) (r : Statement) (u : Used) (names names' bits wires rows rows' : List ℕ) where
  pub memory-put :
      (n : Span) (w z t : ℕ) → t < 4294967296 → r ≡ MemoryOf n w z t → names' ≡ store names u.names (name_in f n) →
      rows' ≡ store rows (8 * u.rows) (row (6 ∷ u.names ∷ length (name_in f n) ∷ w ∷ z ∷ t ∷ 0 ∷ [])) → PlainPut f s r u names names' bits bits wires wires rows rows'
  unfolding statement_in memory_from statement_row columns code holds contents row padded
  memory-put n w z t b e en er =
      let x : rules.Statement = memory-stmt (memory_from w z t) (name_in f n) in
      plain-is f s r u names names' bits bits wires rows rows' x (ap (statement_in f s) e) refl refl (name-put x names names' u.names (name_in f n) refl en) (nothing_put bits u.bits (no_bits x refl refl)) (rw (word-signed t b) er)

  pub cell-put :
      (k n : Span) → r ≡ Cell k n → let x = cell-stmt (name_in f k) (name_in f n) in
      names' ≡ names_put (used_of u) x names → rows' ≡ rows_put (used_of u) x rows → PlainPut f s r u names names' bits bits wires wires rows rows'
  unfolding statement_in holds contents
  cell-put k n e en er =
      let x : rules.Statement = cell-stmt (name_in f k) (name_in f n) in
      plain-is f s r u names names' bits bits wires rows rows' x (ap (statement_in f s) e) refl refl en (nothing_put bits u.bits (no_bits x refl refl)) er

module _ (f s : List ℕ) (r : Statement) (u : Used) (names names' bits bits' wires rows rows' : List ℕ) where
  pub cell-connection-put :
      (n : Span) (w l : ℕ) → r ≡ CellConnection n w l → let x = cell-conn-stmt (name_in f n) (signal_in s 0 w) in
      names' ≡ names_put (used_of u) x names → bits' ≡ bits_put_at (used_of u) x bits → rows' ≡ rows_put (used_of u) x rows → PlainPut f s r u names names' bits bits' wires wires rows rows'
  unfolding statement_in holds contents
  cell-connection-put n w l e en eb er = plain-is f s r u names names' bits bits' wires rows rows' (cell-conn-stmt (name_in f n) (signal_in s 0 w)) (ap (statement_in f s) e) refl refl en eb er

module _ (f s : List ℕ) (r : Statement) (u : Used) (names bits bits' wires rows rows' : List ℕ) where
  pub connection-put :
      (a b l : ℕ) → r ≡ Connection a b l → let x = conn-stmt (signal_in s 0 a) (signal_in s 2048 b) in
      bits' ≡ bits_put_at (used_of u) x bits → rows' ≡ rows_put (used_of u) x rows → PlainPut f s r u names names bits bits' wires wires rows rows'
  unfolding statement_in holds contents
  connection-put a b l e eb er =
      let x : rules.Statement = conn-stmt (signal_in s 0 a) (signal_in s 2048 b) in
      plain-is f s r u names names bits bits' wires rows rows' x (ap (statement_in f s) e) refl refl (nothing_put names u.names (no_names x refl)) eb er

module _ (f s : List ℕ) (r : Statement) (u : Used) (names names' bits wires wires' rows rows' : List ℕ) where
  pub wire-puts :
      (n : Span) (w o k p : ℕ) → o < 4294967296 → r ≡ WireOf n w o k p → Sound f r → WirePut u (name_in f n) w o k p names names' wires wires' rows rows' →
      PlainPut f s r u names names' bits bits wires wires' rows rows'
  unfolding statement_in holds contents
  wire-puts n w o k p ho e g q i strings =
      let x : rules.Statement = wire-stmt (wire_from w o k p) (name_in f n) in
      let b : (k < 16) × (k < 4 → p ≡ 0) = rw e at g in
      let z = q (wire_from w o k p) (wire-has w o k p ho b.0 b.1) in
      puts-is f s r u (tabled names strings bits wires rows) (tabled names' strings bits wires' rows') x (ap (statement_in f s) e)
      (record {
        names-put = z.0;
        strings-put = nothing_put strings u.strings (no-string x refl);
        bits_put = nothing_put bits u.bits (no_bits x refl refl);
        wires-put = z.1;
        rows-put = z.2;
      })

-- ---- answers of a name and, if they have one, a constant

module _ (f s : List ℕ) where
  valued :
      {r : Statement} {kind : ℕ} {n : Span} {c : Optional ConstantSpan} {sort : ℕ} (x : rules.Statement) → statement_in f s r ≡ some x → (contents x).names ≡ name_in f n ∷ [] →
      (contents x).constants ≡ Option-to_list (optional_in f c) → (contents x).signals ≡ [] → (contents x).wires ≡ [] → GoodOptional f c →
      ((u : rooms.Used) → statement_row u x ≡ valued_row u kind (name_in f n) (optional_in f c) sort) → ValuedHas f s r kind n c sort
  valued x e n c k w g q = record { x = x; is = e; names-are = n; constants-are = c; no-signals = k; no-wires = w; good = g; row_is = q }

  pub attribute-valued : (r : Statement) (n : Span) (c : ConstantSpan) → r ≡ Attribute n c → Sound f r → ValuedHas f s r 2 n (Some c) 0
  unfolding statement_in holds contents value_in Option-to_list Option-elim statement_row columns code valued_row optional_columns
  attribute-valued r n c e g =
      valued (attr-stmt (name_in f n) (constant_in f c)) (ap (statement_in f s) e) refl refl refl refl (rw e at g) (λ u. sym (row_zero u (constant_in f c) 2 u.names (length (name_in f n))))

  pub cell-parameter-valued : (r : Statement) (z : ℕ) (n : Span) (c : ConstantSpan) → r ≡ CellParameter z n c → Sound f r → ValuedHas f s r 8 n (Some c) z
  unfolding statement_in holds contents value_in Option-to_list Option-elim statement_row columns code valued_row optional_columns
  cell-parameter-valued r z n c e g =
      let k : (z ≤ 2) × GoodConstant f c = rw e at g in
      valued (cell-param-stmt (sort_of z) (name_in f n) (constant_in f c)) (ap (statement_in f s) e) refl refl refl refl k.1 (λ u. rw (sort-code z k.0))

  parameter-row : (u : rooms.Used) (n : Name) (c : Optional ConstantSpan) → statement_row u (param-stmt n (optional_in f c)) ≡ valued_row u 4 n (optional_in f c) 0
  unfolding holds contents value_in Option-elim statement_row columns code valued_row optional_columns row padded
  parameter-row u n (Some c) = sym (row_zero u (constant_in f c) 4 u.names (length n))
  parameter-row u n None = refl

  pub parameter-valued : (r : Statement) (n : Span) (c : Optional ConstantSpan) → r ≡ Parameter n c → Sound f r → ValuedHas f s r 4 n c 0
  unfolding statement_in holds contents
  parameter-valued r n c e g = valued (param-stmt (name_in f n) (optional_in f c)) (ap (statement_in f s) e) refl refl refl refl (rw e at g) (λ u. parameter-row u (name_in f n) c)

  pub module-valued : (r : Statement) (n : Span) → r ≡ Module n → Sound f r → ValuedHas f s r 3 n None 0
  unfolding statement_in holds contents value_in Option-to_list Option-elim statement_row columns code valued_row optional_columns row padded
  module-valued r n e g = valued (module-stmt (name_in f n)) (ap (statement_in f s) e) refl refl refl refl tt (λ u. refl)

  pub process-valued : (r : Statement) (n : Span) → r ≡ Process n → Sound f r → ValuedHas f s r 11 n None 0
  unfolding statement_in holds contents value_in Option-to_list Option-elim statement_row columns code valued_row optional_columns row padded
  process-valued r n e g = valued (proc-stmt (name_in f n)) (ap (statement_in f s) e) refl refl refl refl tt (λ u. refl)

-- what they need
module _ (f s : List ℕ) (r : Statement) (u : Used) (t : Tables) (h : Storable f s r u t) where
  constant-room :
      (x : rules.Statement) (c : Optional ConstantSpan) → statement_in f s r ≡ some x → (contents x).constants ≡ Option-to_list (optional_in f c) → (contents x).signals ≡ [] → GoodOptional f c →
      OptionalFits f c u t.strings t.bits
  unfolding value_in Option-to_list
  constant-room x (Some c) e kc ks g =
      record {
        good = g.good;
        whole = g.whole;
        strings-fit = string-fits (used_of u) x (h.room x e) t.strings (constant_in f c) kc h.sized.strings;
        bits_fit = value-fits (used_of u) x (h.room x e) t.bits (constant_in f c) kc ks h.sized.bits;
      }
  constant-room x None e kc ks g = tt

  pub valued-room :
      (kind : ℕ) (n : Span) (c : Optional ConstantSpan) (sort : ℕ) → ValuedHas f s r kind n c sort →
      (Fits u.names (length (name_in f n)) t.names) × ((OptionalFits f c u t.strings t.bits) × ((2048 ≤ length s) × (8 * u.rows + 8 ≤ length t.rows)))
  valued-room kind n c sort v =
      let room : RoomFor (used_of u) v.x = h.room v.x v.is in (
        name-fits (used_of u) v.x room t.names (name_in f n) v.names-are h.sized.names,
        (constant-room v.x c v.is v.constants-are v.no-signals v.good, (omega (arith, h.scratch), row_fits (used_of u) v.x room t.rows h.sized.rows)),
      )

  pub plain-room : PlainStorable f s r u t.names t.bits t.wires t.rows
  plain-room =
      record {
        sound = h.sound;
        settled = h.settled;
        room = h.room;
        names-long = h.sized.names;
        bits-long = h.sized.bits;
        wires-long = h.sized.wires;
        rows_long = h.sized.rows;
        scratch = h.scratch;
      }

-- what they put
bytes-put : (x : rules.Statement) (t : List ℕ) (at : ℕ) (o : Option rules.Constant) → (contents x).constants ≡ Option-to_list o → store t at (optional_bytes o) ≡ store t at (bytes_of_string x)
unfolding optional_bytes Option-elim Option-to_list
bytes-put x t at (some c) e = ap (store t at) (sym (one-string x c e))
bytes-put x t at none e = ap (store t at) (sym (no-string x e))

digits-put :
    (x : rules.Statement) (t : List ℕ) (at : ℕ) (o : Option rules.Constant) → (contents x).constants ≡ Option-to_list o → (contents x).signals ≡ [] →
    store t at (map digit_code (optional_digits o)) ≡ store t at (bit_codes x)
unfolding optional_digits Option-elim Option-to_list
digits-put x t at (some c) e g = ap (store t at) (sym (one_value x c e g))
digits-put x t at none e g = ap (store t at) (sym (no_bits x e g))

module _ (f s : List ℕ) (r : Statement) (u : Used) (names names' strings strings' bits bits' wires rows rows' : List ℕ) where
  pub valued-put :
      (kind : ℕ) (n : Span) (c : Optional ConstantSpan) (sort : ℕ) → ValuedHas f s r kind n c sort →
      names' ≡ store names u.names (name_in f n) → strings' ≡ store strings u.strings (optional_bytes (optional_in f c)) →
      bits' ≡ store bits u.bits (map digit_code (optional_digits (optional_in f c))) → rows' ≡ store rows (8 * u.rows) (valued_row (used_of u) kind (name_in f n) (optional_in f c) sort) →
      PutIs f s r u (tabled names strings bits wires rows) (tabled names' strings' bits' wires rows')
  valued-put kind n c sort v en es eb er =
      puts-is f s r u (tabled names strings bits wires rows) (tabled names' strings' bits' wires rows') v.x v.is
      (record {
        names-put = name-put v.x names names' u.names (name_in f n) v.names-are en;
        strings-put = es ∙ bytes-put v.x strings u.strings (optional_in f c) v.constants-are;
        bits_put = eb ∙ digits-put v.x bits u.bits (optional_in f c) v.constants-are v.no-signals;
        wires-put = wires-same wires (8 * u.wires) v.x (used_of u) v.no-wires;
        rows-put = er ∙ ap (store rows (8 * u.rows)) (sym (v.row_is (used_of u)));
      })
