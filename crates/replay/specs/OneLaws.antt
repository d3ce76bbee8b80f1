-- PartTables hold one list of statements only: it begins with all admitted statements that the tables begin with.
-- Assumes nothing.
use Rattle.std.specs.Prelude.{ℕ, ◌+◌, ◌*◌, ◌≡◌, refl, ◌⊎◌, true}
use Rattle.std.proofs.Common.{sym, ◌∙◌, subst, inl, inr, ⊎_elim, arith}
use Rattle.std.proofs.Math.Path.{ap}
use mathlib.Core.List.{List, [], ◌∷◌, ◌++◌, reverse, append-nil, reverse_aux-eq, reverse-reverse}
use Rattle.std.proofs.Math.ListN.{length}
use Rattle.rules.specs.Bytes.{within}
use Rattle.rules.specs.Statements.{Statement, Kind, an_autoidx, an_attribute, a_module, a_parameter, a_wire, a_memory, a_cell, a_cell_parameter, a_cell_connection, a_connection, a_process, an_end, a_step, code, contents}
use Rattle.rules.specs.Judgement.{Past}
use Rattle.lists.specs.Tests.{never}
use Rattle.lists.specs.Lists.{first_next, both-begin}
use Rattle.admitted.specs.Admitted.{admitted}
use Rattle.admitted.specs.AdmitLaws.{admitted-before, admitted-past}
use Rattle.wires.specs.Rows.{word_at, column}
use Rattle.netlist.specs.Rows.{kind_at}
use Rattle.netlist.specs.Laid.{rooms_of}
use Rattle.netlist.specs.LaidLaws.{length-rows}
use Rattle.netlist.specs.Fronts.{Fronts}
use Rattle.netlist.specs.FrontLaws.{fronts-before, fronts-behind, fronts-kind}
use Rattle.modules.specs.DecodeLaws.{decodes-last}
use Rattle.row_statements.specs.Reads.{PartTables}
use Rattle.replay.specs.Begins.{with_rows, is_statement, Stored}

statement-kind : (k : Kind) → is_statement (code k) ≡ true
unfolding is_statement within code
statement-kind an_autoidx = refl
statement-kind an_attribute = refl
statement-kind a_module = refl
statement-kind a_parameter = refl
statement-kind a_wire = refl
statement-kind a_memory = refl
statement-kind a_cell = refl
statement-kind a_cell_parameter = refl
statement-kind a_cell_connection = refl
statement-kind a_connection = refl
statement-kind a_process = refl
statement-kind an_end = refl
statement-kind a_step = refl

-- a list is these statements, or goes on with one more that the tables begin with too
abbrev pub GoesOn : PartTables → List ℕ → (qs ss : Past) → Type 0
GoesOn t rows qs ss =
    (qs ≡ ss) ⊎ ((init : Past) × (x : Statement) × (qs ≡ init ++ x ∷ ss) × Fronts (rooms_of (x ∷ ss)) (with_rows t rows) × (admitted (x ∷ ss) ≡ true))

module _ {t : PartTables} {rows : List ℕ} where
  -- behind the statements stands the row of the next
  pub next-kind : (x : Statement) (ss : Past) → Fronts (rooms_of (x ∷ ss)) (with_rows t rows) → is_statement (word_at rows (8 * length (rooms_of ss).rows)) ≡ true
  unfolding kind_at column
  next-kind x ss f =
      let z : 8 * length (rooms_of ss).rows ≡ 8 * length ss + 0 = omega (arith, length-rows ss) in
      ap (λ (i : ℕ). is_statement (word_at rows i)) z ∙ ap is_statement (fronts-kind x ss f) ∙ statement-kind (contents x).kind

  goes_on : (qs ss more : Past) → Stored t rows qs → qs ≡ more ++ ss → GoesOn t rows qs ss
  goes_on qs ss more h m =
      ⊎_elim (λ e. inl (m ∙ e))
      (λ q.
      let e : qs ≡ q.0 ++ q.1 ∷ ss = m ∙ q.2 in
      let f : Fronts (rooms_of (q.1 ∷ ss)) (with_rows t rows) = fronts-behind q.0 (q.1 ∷ ss) (subst (λ (l : Past). Fronts (rooms_of l) (with_rows t rows)) e h.begins.fronts) in
      inr (q.0, q.1, e, f, admitted-past (reverse q.0) (q.1 ∷ ss) (rw (reverse_aux-eq, reverse-reverse, ← e) h.admits)))
      (first_next more ss)

  pub stored-begins : (qs ss : Past) → Stored t rows qs → admitted ss ≡ true → Fronts (rooms_of ss) (with_rows t rows) → (more : Past) × (qs ≡ more ++ ss)
  stored-begins qs [] h a f = (qs, sym (append-nil qs))
  stored-begins qs (x ∷ ss) h a f =
      let b = stored-begins qs ss h (admitted-before x ss a) (fronts-before x ss f) in
      ⊎_elim
      (λ e. never (is_statement (word_at rows (8 * length (rooms_of ss).rows))) (next-kind x ss f) (ap (λ (l : Past). is_statement (word_at rows (8 * length (rooms_of l).rows))) (sym e) ∙ h.begins.ends))
      (λ q.
      let n : q.1 ≡ x = cc (decodes-last x ss f a, decodes-last q.1 ss q.3 q.4) in
      (q.0, q.2 ∙ ap (λ (y : Statement). q.0 ++ y ∷ ss) n))
      (goes_on qs ss b.0 h b.1)

  pub stored_next : (qs ss : Past) → Stored t rows qs → admitted ss ≡ true → Fronts (rooms_of ss) (with_rows t rows) → GoesOn t rows qs ss
  stored_next qs ss h a f = let b = stored-begins qs ss h a f in goes_on qs ss b.0 h b.1

  pub stored_one : {ss qs : Past} → Stored t rows ss → Stored t rows qs → ss ≡ qs
  stored_one {ss} {qs} h g =
      let a = stored-begins qs ss g h.admits h.begins.fronts in
      let b = stored-begins ss qs h g.admits g.begins.fronts in
      both-begin qs ss a.0 b.0 a.1 b.1
