-- A row of tables that begin with admitted statements decodes to its statement.
-- Assumes nothing.
use Rattle.std.specs.Prelude.{ℕ, ◌+◌, ◌≡◌, false, ◌&&◌, eqb, drop}
use Rattle.std.proofs.Math.Path.{refl, sym, ap, ap₂}
use Rattle.std.proofs.Common.{subst, ◌∙◌, arith}
use mathlib.Core.List.{List, [], ◌∷◌, ◌++◌, map, flat_map, append-nil, Option-to_list}
use Rattle.std.proofs.Math.Option
use Rattle.std.proofs.Math.Option.{Option, none, some, Option-elim}
use Rattle.std.proofs.Math.Bool.{true}
use Rattle.std.proofs.lemmas.Bool.{false≢true}
use Rattle.std.proofs.Math.Dec.{leb}
use Rattle.std.proofs.Math.ListN.{length, length-map}
use Rattle.rules.specs.Bytes.{all, within}
use Rattle.rules.specs.Tokens.{Name}
use Rattle.rules.specs.Statements.{Sort, Statement, Constant, value, integer, string, digits_of, bytes_of, Wire, Memory, Signal, Step, is, contents, holds, code, autoidx-stmt, attr-stmt, module-stmt, param-stmt, wire-stmt, memory-stmt, cell-stmt, cell-param-stmt, cell-conn-stmt, conn-stmt, proc-stmt, step-stmt, end-stmt, step_code}
use Rattle.rules.specs.Signals.{Wires, twos_complement}
use Rattle.rules.specs.Numbers.{int32}
use Rattle.rules.specs.Judgement.{Past, wires, equal, step_widths, fit_widths}
use Rattle.rules.specs.Layout.{Used, padded, row, digit_code, bit_code, name_bytes, bytes_of_string, bit_codes, constant_columns, sort_code, each_length, columns, statement_row, used}
use Rattle.lists.specs.Tests.{and-true-left, and-true-right}
use Rattle.lists.specs.Lists.{flat_map-map}
use Rattle.lists.specs.Elements.{Each, each-through, each_of, map_back}
use Rattle.numbers.specs.Kinds.{digit_of, signal_of}
use Rattle.numbers.specs.Signed.{signed_of}
use Rattle.numbers.specs.SignedLaws.{signed_word}
use Rattle.numbers.specs.KindLaws.{sort-back}
use Rattle.wires.specs.Rows.{column, wire_of}
use Rattle.wires.specs.RowLaws.{RowIs, span-has, row-wire}
use Rattle.netlist.specs.Rows.{kind_at, name_from}
use Rattle.netlist.specs.RowLaws.{row_zero}
use Rattle.netlist.specs.Statements.{constant_at, optional_at, signal_at, memory_at, sort_at, statement_by, statement_at}
use Rattle.admitted.specs.Admitted.{fine_constant, fine_memory, fine_signal, fine_parts, admitted}
use Rattle.admitted.specs.AdmitLaws.{fine-parts, fine-fits, admitted-before, admitted-last}
use Rattle.netlist.specs.Spans.{Has, has_first, has-second}
use Rattle.netlist.specs.Laid.{rooms_of}
use Rattle.netlist.specs.Steps.{step_named, pieces, signals_at}
use Rattle.netlist.specs.StepLaws.{step_back, has-pieces, even-widths, equal-last}
use Rattle.netlist.specs.Tables.{Tables}
use Rattle.netlist.specs.Fronts.{Fronts, Parts}
use Rattle.netlist.specs.FrontLaws.{fronts-stand, fronts-row, parts-wire}
use Rattle.modules.specs.CodeLaws.{digits-back, narrow, narrow-past, signal-back}

-- ---- a constant, in the columns from the third on

abbrev Columned : List ℕ → ℕ → Used → Constant → Type 0
Columned rows k u (value ds) = (column rows k 3 ≡ 1) × (column rows k 4 ≡ u.bits) × (column rows k 5 ≡ length ds)
Columned rows k u (integer i) = (column rows k 3 ≡ 2) × (column rows k 4 ≡ twos_complement i) × (column rows k 5 ≡ 0)
Columned rows k u (string s) = (column rows k 3 ≡ 3) × (column rows k 4 ≡ u.strings) × (column rows k 5 ≡ length s)

module _ (rows : List ℕ) (k : ℕ) (u : Used) (kind a b : ℕ) where
  columned-more : (c : Constant) (x : ℕ) → RowIs rows k (row (kind ∷ a ∷ b ∷ constant_columns u c ++ x ∷ [])) → Columned rows k u c × (column rows k 6 ≡ x)
  unfolding row padded constant_columns
  columned-more (value ds) x h = ((h 3 (omega arith), h 4 (omega arith), h 5 (omega arith)), h 6 (omega arith))
  columned-more (integer i) x h = ((h 3 (omega arith), h 4 (omega arith), h 5 (omega arith)), h 6 (omega arith))
  columned-more (string s) x h = ((h 3 (omega arith), h 4 (omega arith), h 5 (omega arith)), h 6 (omega arith))

  columned : (c : Constant) → RowIs rows k (row (kind ∷ a ∷ b ∷ constant_columns u c)) → Columned rows k u c
  columned c h = (columned-more c 0 (subst (RowIs rows k) (sym (row_zero u c kind a b)) h)).0

module _ (strings bits rows : List ℕ) (k : ℕ) (u : Used) where
  constant-is :
      (c : Constant) → Columned rows k u c → Has strings u.strings (bytes_of c) → Has bits u.bits (map digit_code (digits_of c)) → fine_constant c ≡ true →
      constant_at strings bits rows k 3 ≡ c
  unfolding constant_at bytes_of digits_of fine_constant Has
  constant-is (value ds) h hs hb f =
      rw h.0 (ap value (ap (map digit_of) (span-has bits rows k 4 u.bits (map digit_code ds) h.1 (h.2 ∙ sym (length-map ds digit_code)) hb) ∙ digits-back ds))
  constant-is (integer i) h hs hb f = rw (h.0, h.1) (ap integer (signed_word i f))
  constant-is (string s) h hs hb f = rw h.0 (ap string (span-has strings rows k 4 u.strings s h.1 h.2 hs))

  constant-there : (c : Constant) → Columned rows k u c → eqb (column rows k 3) 0 ≡ false
  constant-there (value ds) h = rw h.0
  constant-there (integer i) h = rw h.0
  constant-there (string s) h = rw h.0

sort-is : (rows : List ℕ) (k : ℕ) (o : Sort) → column rows k 6 ≡ sort_code o → sort_at rows k 6 ≡ o
unfolding sort_at
sort-is rows k o e = rw e (sort-back o)

-- ---- THE STATEMENT OF A ROW
module _ (names strings bits wires rows : List ℕ) (u : Used) (ws : Wires) (wide : narrow ws ≡ true) (k : ℕ) where
  by_kind : (n : ℕ) → kind_at rows k ≡ n → statement_at names strings bits wires rows k ≡ statement_by names strings bits wires rows k n
  unfolding statement_at
  by_kind n e = ap (statement_by names strings bits wires rows k) e

  first-name : (n : Name) → column rows k 1 ≡ u.names → column rows k 2 ≡ length n → Has names u.names (n ++ []) → name_from names rows k 1 ≡ n
  unfolding name_from Has
  first-name n a l p = span-has names rows k 1 u.names n a l (rw append-nil at p)

  signal-is : (c at : ℕ) (x : Signal) → column rows k c ≡ at → column rows k (c + 1) ≡ length x → Has bits at (map bit_code x) → fine_signal ws x ≡ true → signal_at bits rows k c ≡ x
  unfolding signal_at Has
  signal-is c at x ea en h f =
      ap signal_of (span-has bits rows k c at (map bit_code x) ea (en ∙ sym (length-map x bit_code)) h) ∙ signal-back ws wide x f

  valued : (c : Constant) → Columned rows k u c → Has strings u.strings (bytes_of c ++ []) → Has bits u.bits ((map digit_code (digits_of c) ++ []) ++ []) → fine_constant c ≡ true → constant_at strings bits rows k 3 ≡ c
  valued c h hs hb f = constant-is strings bits rows k u c h (rw append-nil at hs) (rw (append-nil, append-nil) at hb) f

  signals-are :
      (xs : List Signal) → column rows k 2 ≡ u.bits → column rows k 3 ≡ each_length xs → column rows k 4 ≡ length xs →
      Has bits u.bits (flat_map (map bit_code) xs) → all (fine_signal ws) xs ≡ true → equal (map length xs) ≡ true → signals_at bits rows k ≡ xs
  unfolding signals_at
  signals-are xs ea ew en h f e =
      let codes : List (List ℕ) = map (map bit_code) xs in
      let even : Each (λ c. length c ≡ each_length xs) codes = each-through _ (map bit_code) _ (λ x q. length-map x bit_code ∙ q) xs (even-widths xs e) in
      let cut : pieces (each_length xs) (length xs) (drop u.bits bits) ≡ codes =
      ap (λ (n : ℕ). pieces (each_length xs) n (drop u.bits bits)) (sym (length-map xs (map bit_code)))
      ∙ has-pieces bits (each_length xs) codes even u.bits (rw (flat_map-map (λ x. x) (map bit_code) xs) h) in
      rw (ea, ew, en, cut) (map_back (map bit_code) signal_of xs (each_of _ (fine_signal ws) (signal-back ws wide) xs f))

  memory-is : (m : Memory) → column rows k 3 ≡ m.width → column rows k 4 ≡ m.size → signed_of (column rows k 5) ≡ m.offset → memory_at rows k ≡ m
  unfolding memory_at
  memory-is m w z e = λ i. record { width = w i; size = z i; offset = e i }

  pub decodes : (s : Statement) → Parts names strings bits wires u s → RowIs rows k (statement_row u s) → fine_parts ws s ≡ true → equal (map length (contents s).signals) ≡ true → statement_at names strings bits wires rows k ≡ some s
  unfolding statement_by statement_row columns code contents holds is row padded name_bytes bytes_of_string bit_codes flat_map optional_at Option-elim Option-to_list all fine_memory kind_at name_from Has
  decodes (autoidx-stmt i) d r g p =
      let f = fine-parts ws (autoidx-stmt i) g in
      by_kind 1 (r 0 (omega arith)) ∙ ap (λ z. some (autoidx-stmt z)) (ap signed_of (r 1 (omega arith)) ∙ signed_word i (and-true-left (int32 i) true f.integers))
  decodes (attr-stmt n c) d r g p =
      let f = fine-parts ws (attr-stmt n c) g in
      by_kind 2 (r 0 (omega arith))
      ∙ ap₂ (λ (x : Name) (y : Constant). some (attr-stmt x y)) (first-name n (r 1 (omega arith)) (r 2 (omega arith)) d.names-has)
      (valued c (columned rows k u 2 u.names (length n) c r) d.strings-has d.bits-has (and-true-left (fine_constant c) true f.constants))
  decodes (module-stmt n) d r g p = by_kind 3 (r 0 (omega arith)) ∙ ap (λ x. some (module-stmt x)) (first-name n (r 1 (omega arith)) (r 2 (omega arith)) d.names-has)
  decodes (param-stmt n none) d r g p =
      by_kind 4 (r 0 (omega arith))
      ∙ ap₂ (λ (x : Name) (y : Option Constant). some (param-stmt x y)) (first-name n (r 1 (omega arith)) (r 2 (omega arith)) d.names-has) (rw (r 3 (omega arith)))
  decodes (param-stmt n (some c)) d r g p =
      let f = fine-parts ws (param-stmt n (some c)) g in
      let h = columned rows k u 4 u.names (length n) c r in
      by_kind 4 (r 0 (omega arith))
      ∙ ap₂ (λ (x : Name) (y : Option Constant). some (param-stmt x y)) (first-name n (r 1 (omega arith)) (r 2 (omega arith)) d.names-has)
      (rw (constant-there strings bits rows k u c h) (ap some (valued c h d.strings-has d.bits-has (and-true-left (fine_constant c) true f.constants))))
  decodes (wire-stmt w n) d r g p =
      by_kind 5 (r 0 (omega arith))
      ∙ ap₂ (λ (x : Wire) (y : Name). some (wire-stmt x y))
      (ap (wire_of wires) (r 3 (omega arith)) ∙ row-wire wires u.wires u n w (parts-wire u w n d) (and-true-left (int32 w.offset) true (fine-fits ws (wire-stmt w n) g)))
      (first-name n (r 1 (omega arith)) (r 2 (omega arith)) d.names-has)
  decodes (memory-stmt m n) d r g p =
      let f = fine-parts ws (memory-stmt m n) g in
      let o : int32 m.offset ≡ true = and-true-right (within 1 2048 m.width && leb m.size 2147483647) _ (and-true-left (fine_memory m) true f.memories) in
      by_kind 6 (r 0 (omega arith))
      ∙ ap₂ (λ (x : Memory) (y : Name). some (memory-stmt x y))
      (memory-is m (r 3 (omega arith)) (r 4 (omega arith)) (ap signed_of (r 5 (omega arith)) ∙ signed_word m.offset o))
      (first-name n (r 1 (omega arith)) (r 2 (omega arith)) d.names-has)
  decodes (cell-stmt y n) d r g p =
      by_kind 7 (r 0 (omega arith))
      ∙ ap₂ (λ (x z : Name). some (cell-stmt x z))
      (span-has names rows k 1 u.names y (r 1 (omega arith)) (r 2 (omega arith)) (has_first names u.names y (n ++ []) d.names-has))
      (span-has names rows k 3 (u.names + length y) n (r 3 (omega arith)) (r 4 (omega arith)) (rw append-nil at (has-second names u.names y (n ++ []) (u.names + length y) refl d.names-has)))
  decodes (cell-param-stmt o n c) d r g p =
      let f = fine-parts ws (cell-param-stmt o n c) g in
      let h = columned-more rows k u 8 u.names (length n) c (sort_code o) r in
      let x : sort_at rows k 6 ≡ o = sort-is rows k o h.1 in
      let y : name_from names rows k 1 ≡ n = first-name n (r 1 (omega arith)) (r 2 (omega arith)) d.names-has in
      let z : constant_at strings bits rows k 3 ≡ c = valued c h.0 d.strings-has d.bits-has (and-true-left (fine_constant c) true f.constants) in
      by_kind 8 (r 0 (omega arith)) ∙ (λ i. some (cell-param-stmt (x i) (y i) (z i)))
  decodes (cell-conn-stmt n x) d r g p =
      let f = fine-parts ws (cell-conn-stmt n x) g in
      by_kind 9 (r 0 (omega arith))
      ∙ ap₂ (λ (y : Name) (z : Signal). some (cell-conn-stmt y z)) (first-name n (r 1 (omega arith)) (r 2 (omega arith)) d.names-has)
      (signal-is 3 u.bits x (r 3 (omega arith)) (r 4 (omega arith)) (rw append-nil at d.bits-has) (and-true-left (fine_signal ws x) true f.signals))
  decodes (conn-stmt x y) d r g p =
      let f = fine-parts ws (conn-stmt x y) g in
      let q : Has bits (u.bits + length x) (map bit_code y) =
      rw append-nil at (has-second bits u.bits (map bit_code x) (map bit_code y ++ []) (u.bits + length x) (ap (λ (n : ℕ). u.bits + n) (sym (length-map x bit_code))) d.bits-has) in
      by_kind 10 (r 0 (omega arith))
      ∙ ap₂ (λ (a b : Signal). some (conn-stmt a b))
      (signal-is 1 u.bits x (r 1 (omega arith)) (r 2 (omega arith)) (has_first bits u.bits (map bit_code x) (map bit_code y ++ []) d.bits-has) (and-true-left (fine_signal ws x) _ f.signals))
      (signal-is 3 (u.bits + length x) y (r 3 (omega arith)) (r 4 (omega arith)) q (and-true-left (fine_signal ws y) true (and-true-right (fine_signal ws x) _ f.signals)))
  decodes (proc-stmt n) d r g p = by_kind 11 (r 0 (omega arith)) ∙ ap (λ x. some (proc-stmt x)) (first-name n (r 1 (omega arith)) (r 2 (omega arith)) d.names-has)
  decodes (step-stmt q xs) d r g p =
      let f = fine-parts ws (step-stmt q xs) g in
      by_kind 13 (r 0 (omega arith))
      ∙ ap₂ (λ (y : Option Step) (z : List Signal). Option.map (λ x. step-stmt x z) y) (ap step_named (r 1 (omega arith)) ∙ step_back q)
      (signals-are xs (r 2 (omega arith)) (r 3 (omega arith)) (r 4 (omega arith)) d.bits-has f.signals p)
  decodes end-stmt d r g p = by_kind 12 (r 0 (omega arith))

-- ---- the last of admitted statements

pub decodes-last :
    {t : Tables} (s : Statement) (ss : Past) → Fronts (rooms_of (s ∷ ss)) t → admitted (s ∷ ss) ≡ true →
    statement_at t.names t.strings t.bits t.wires t.rows (length ss) ≡ some s
unfolding fit_widths
decodes-last {t} s ss f e =
    let a = admitted-last s ss e in
    decodes t.names t.strings t.bits t.wires t.rows (used (rooms_of ss)) (wires ss) (narrow-past ss (admitted-before s ss e)) (length ss) s
    (fronts-stand s ss f).parts (fronts-row s ss f) a.parts (equal-last (flat_map (step_widths ss) (contents s).steps) _ a.widths)
