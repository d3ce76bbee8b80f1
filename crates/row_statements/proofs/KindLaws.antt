-- Each kind of statement: where its row and its parts stand, and where not.
-- Assumes nothing.
use Prim.Native.Nat.{ℕ, ◌+◌, ◌≤◌, ◌<◌}
use mathlib.Core.Path.{◌≡◌, refl, sym, ap, subst}
use mathlib.Core.List.{List, [], ◌∷◌, flat_map, zip, zip_with, append-nil, Option-to_list}
use mathlib.Core.Option.{Option-elim}
use mathlib.Core.Bool.{true, false, cond}
use native.Mathlib.Omega.{arith}
use lib.Dec.{leb}
use lib.ListN.{length, get_or}
use Rattle.std.specs.Prelude.{Some, None}
use Rattle.std.specs.Prelude.{Option as Optional}
use borrow.Author.Tests.{eq-eqb, ne_eqb}
use Rattle.rules.specs.Bytes.{same, all, within, legal}
use Rattle.rules.specs.Statements.{Sort, plain, signed, real, Statement, contents, holds, code, attr-stmt, module-stmt, memory-stmt, proc-stmt, end-stmt}
use Rattle.rules.specs.Signals.{Wires}
use Rattle.rules.specs.Judgement.{sum, equal, signal_size, name_size}
use Rattle.rules.specs.Layout.{Used, padded, row, name_bytes, wire_rows, sort_code, columns, statement_row}
use Rattle.admitted.specs.Admitted.{fine_memory, fine_alone, fine_parts}
use Rattle.admitted.specs.AdmitLaws.{fine-parts}
use Rattle.tables.specs.Row.{words}
use Rattle.tables.specs.declared.Row.{Row}
use Rattle.numbers.specs.SignedLaws.{word-signed, signed-int32}
use Rattle.lists.specs.Lists.{same_at}
use Rattle.lists.specs.Tests.{and-true-left, and-true-right, never}
use Rattle.lists.specs.Elements.{test_at}
use Rattle.row_statements.specs.Parts.{span, name_stands}
use Rattle.numbers.specs.Kinds.{sort_of}
use Rattle.numbers.specs.KindLaws.{sort-code}
use Rattle.netlist.specs.RowLaws.{row_zero}
use Rattle.row_statements.specs.Reads.{PartTables, part_tables, constant_of, optional_of, memory_of, even_signals, statement_by, statement_of, Reads, Tells, TellsNamed, TellsValued, TellsAutoidx, TellsEnd, TellsMemory, TellsCell, TellsParameter, TellsCellParameter}
use Rattle.row_statements.specs.declared.statements.Found.{Found}
use Rattle.row_statements.proofs.Spans.{has-none, has_span, spans}
use Rattle.row_statements.proofs.CodeLaws.{constant-read}
use Rattle.row_statements.proofs.ReadLaws.{found, name-legal, name-long, name-not, first-not, laid}

-- ---- a statement without parts

module _ (u : Used) (r x : Row) (f : Optional Found) (ef : f ≡ cond (same (words r) (words x)) (Some (found 0 0 0 0 0)) None) where
  pub tells-autoidx : words x ≡ row (1 ∷ r.a ∷ []) → r.a < 4294967296 → TellsAutoidx u r f
  unfolding statement_row columns code contents holds fine_alone fine_parts even_signals equal all name_bytes wire_rows flat_map zip zip_with signal_size name_size sum
  tells-autoidx ex h t ws = laid t u ws r x _ refl (rw (word-signed r.a h) ex) (has-none _ _) (has-none _ _) (has-none _ _) (rw (signed-int32 r.a)) refl refl refl refl f ef

  pub tells-end : words x ≡ row (12 ∷ []) → TellsEnd u r f
  unfolding statement_row columns code contents holds fine_alone fine_parts even_signals equal all name_bytes wire_rows flat_map zip zip_with signal_size name_size sum
  tells-end ex t ws = laid t u ws r x _ refl ex (has-none _ _) (has-none _ _) (has-none _ _) refl refl refl refl refl f ef

-- ---- a memory

module _ (names : List ℕ) (u : Used) (r : Row) where
  memory-facts :
      {strings bits wires : List ℕ} {ws : Wires} → Reads (part_tables names strings bits wires) u ws r (memory-stmt (memory_of r) (span names u.names r.b)) →
      (i : ℕ) → get_or (within 1 2048 r.c ∷ leb r.d 2147483647 ∷ []) i true ≡ true
  unfolding contents holds all fine_memory memory_of
  memory-facts {ws = ws} d = test_at _ (_ ∷ []) (and-true-left _ _ (and-true-left _ _ (fine-parts ws _ d.fine).memories))

  pub memory-name : name_stands names u.names r.b ≡ false → TellsMemory names u r None
  unfolding Tells statement_row columns contents holds row padded
  memory-name h strings bits wires ws d = first-not d h refl refl

  pub memory-width : within 1 2048 r.c ≡ false → TellsMemory names u r None
  unfolding Tells
  memory-width h strings bits wires ws d = never (within 1 2048 r.c) (memory-facts d 0) h

  pub memory-size : leb r.d 2147483647 ≡ false → TellsMemory names u r None
  unfolding Tells
  memory-size h strings bits wires ws d = never (leb r.d 2147483647) (memory-facts d 1) h

  pub memory-settled :
      name_stands names u.names r.b ≡ true → within 1 2048 r.c ≡ true → leb r.d 2147483647 ≡ true → r.e < 4294967296 →
      (x : Row) → words x ≡ row (6 ∷ u.names ∷ r.b ∷ r.c ∷ r.d ∷ r.e ∷ []) → (f : Optional Found) →
      f ≡ cond (same (words r) (words x)) (Some (found 0 0 0 0 r.b)) None → TellsMemory names u r f
  unfolding statement_row columns code contents holds fine_alone fine_parts even_signals equal all fine_memory memory_of name_bytes wire_rows flat_map zip zip_with signal_size name_size sum
  memory-settled h w z o x ex f ef strings bits wires ws =
      let l : r.b ≡ length (span names u.names r.b) = name-long names u.names r.b h in
      laid (part_tables names strings bits wires) u ws r x _ refl (rw (← l, word-signed r.e o) ex) (rw append-nil (has_span names u.names r.b)) (has-none _ _) (has-none _ _)
      (rw (name-legal names u.names r.b h, w, z, signed-int32 r.e)) refl refl refl (omega arith) f ef

-- ---- a cell

module _ (names : List ℕ) (u : Used) (r : Row) where
  pub cell-type : name_stands names u.names r.b ≡ false → TellsCell names u r None
  unfolding Tells statement_row columns contents holds row padded
  cell-type h strings bits wires ws d = first-not d h refl refl

  pub cell-name : name_stands names (u.names + r.b) r.d ≡ false → TellsCell names u r None
  unfolding Tells statement_row columns contents holds words row padded all
  cell-name h strings bits wires ws d =
      name-not names (u.names + r.b) r.d h (same_at 4 d.row) (and-true-left _ _ (and-true-right (legal (span names u.names r.b)) _ (fine-parts ws _ d.fine).names))

  pub cell-settled :
      name_stands names u.names r.b ≡ true → name_stands names (u.names + r.b) r.d ≡ true →
      (x : Row) → words x ≡ row (7 ∷ u.names ∷ r.b ∷ (u.names + r.b) ∷ r.d ∷ []) → (f : Optional Found) →
      f ≡ cond (same (words r) (words x)) (Some (found 0 0 0 0 (r.b + r.d))) None → TellsCell names u r f
  unfolding statement_row columns code contents holds fine_alone fine_parts even_signals equal all name_bytes wire_rows flat_map zip zip_with signal_size name_size sum
  cell-settled h k x ex f ef strings bits wires ws =
      let l : r.b ≡ length (span names u.names r.b) = name-long names u.names r.b h in
      let m : r.d ≡ length (span names (u.names + r.b) r.d) = name-long names (u.names + r.b) r.d k in
      laid (part_tables names strings bits wires) u ws r x _ refl (rw (← l, ← m) ex) (rw (append-nil, spans) (has_span names u.names (r.b + r.d))) (has-none _ _) (has-none _ _)
      (rw (name-legal names u.names r.b h, name-legal names (u.names + r.b) r.d k)) refl refl refl (omega arith) f ef

-- ---- parameters

sort-few : (o : Sort) → sort_code o ≤ 2
unfolding sort_code
sort-few plain = omega arith
sort-few signed = omega arith
sort-few real = omega arith

module _ (names strings bits : List ℕ) (u : Used) (r : Row) (f : Optional Found) where
  pub attribute-told :
      TellsValued names strings bits u r 2 0 f → (wires : List ℕ) (ws : Wires) →
      Tells (part_tables names strings bits wires) u ws r (attr-stmt (span names u.names r.b) (constant_of strings bits u r.c r.d r.e)) f
  unfolding statement_row columns code contents holds
  attribute-told h wires ws = h wires ws _ _ _ refl (sym (row_zero u (constant_of strings bits u r.c r.d r.e) 2 u.names (length (span names u.names r.b))))

  pub parameter-none : r.c ≡ 0 → TellsNamed names u r 4 f → TellsParameter names strings bits u r f
  unfolding optional_of statement_row columns code contents holds Option-to_list Option-elim
  parameter-none e h wires ws = rw (eq-eqb r.c 0 e) (h strings bits wires ws _ _ refl refl)

  pub parameter-some : (r.c ≡ 0 → ⊥) → TellsValued names strings bits u r 4 0 f → TellsParameter names strings bits u r f
  unfolding optional_of statement_row columns code contents holds Option-to_list Option-elim
  parameter-some e h wires ws =
      rw (ne_eqb r.c 0 e)
      (h wires ws _ _ _ refl (sym (row_zero u (constant_of strings bits u r.c r.d r.e) 4 u.names (length (span names u.names r.b)))))

  pub cell-parameter-told : r.f ≤ 2 → TellsValued names strings bits u r 8 r.f f → TellsCellParameter names strings bits u r f
  unfolding statement_row columns code contents holds
  cell-parameter-told e h wires ws = h wires ws _ _ _ refl (rw (sort-code r.f e))

pub cell-parameter-not : (names strings bits : List ℕ) (u : Used) (r : Row) → 2 < r.f → TellsCellParameter names strings bits u r None
unfolding Tells statement_row columns code contents holds
cell-parameter-not names strings bits u r h wires ws d =
    let e : r.f ≡ sort_code (sort_of r.f) = (constant-read u (constant_of strings bits u r.c r.d r.e) r 8 u.names (length (span names u.names r.b)) (sort_code (sort_of r.f)) d.row).1 in
    absurd (omega (arith, sort-few (sort_of r.f)))

-- ---- by the row's kind

module _ (t : PartTables) (u : Used) (ws : Wires) (r : Row) (f : Optional Found) where
  pub by_kind : (k : ℕ) → r.kind ≡ k → Tells t u ws r (statement_by t u r k) f → Tells t u ws r (statement_of t u r) f
  unfolding statement_of
  by_kind k e h = subst (λ (s : Statement). Tells t u ws r s f) (ap (statement_by t u r) (sym e)) h

  -- a kind that no other statement has is taken for an end, which its row then is not
  pub other-kind :
      (r.kind ≡ 1 → ⊥) → (r.kind ≡ 2 → ⊥) → (r.kind ≡ 3 → ⊥) → (r.kind ≡ 4 → ⊥) → (r.kind ≡ 5 → ⊥) → (r.kind ≡ 6 → ⊥) → (r.kind ≡ 7 → ⊥) → (r.kind ≡ 8 → ⊥) → (r.kind ≡ 9 → ⊥) →
      (r.kind ≡ 10 → ⊥) → (r.kind ≡ 11 → ⊥) → (r.kind ≡ 13 → ⊥) → Tells t u ws r end-stmt f → Tells t u ws r (statement_of t u r) f
  unfolding statement_of statement_by
  other-kind a b c d e g h i j k l m q =
      rw (ne_eqb r.kind 1 a, ne_eqb r.kind 2 b, ne_eqb r.kind 3 c, ne_eqb r.kind 4 d, ne_eqb r.kind 5 e, ne_eqb r.kind 6 g, ne_eqb r.kind 7 h, ne_eqb r.kind 8 i, ne_eqb r.kind 9 j, ne_eqb r.kind 10 k, ne_eqb r.kind 11 l, ne_eqb r.kind 13 m) q

module _ (names : List ℕ) (u : Used) (r : Row) (f : Optional Found) where
  pub module-told :
      TellsNamed names u r 3 f → (strings bits wires : List ℕ) (ws : Wires) → Tells (part_tables names strings bits wires) u ws r (module-stmt (span names u.names r.b)) f
  unfolding statement_row columns code contents holds
  module-told h strings bits wires ws = h strings bits wires ws _ _ refl refl

  pub process-told :
      TellsNamed names u r 11 f → (strings bits wires : List ℕ) (ws : Wires) → Tells (part_tables names strings bits wires) u ws r (proc-stmt (span names u.names r.b)) f
  unfolding statement_row columns code contents holds
  process-told h strings bits wires ws = h strings bits wires ws _ _ refl refl
