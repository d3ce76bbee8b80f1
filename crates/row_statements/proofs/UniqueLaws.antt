-- A row and the parts that stand there make one statement only: the one that the row decodes to.
-- Assumes nothing.
use native.Mathlib.Nat.{zero-add}
use mathlib.Core.Path.{◌≡◌, sym, ◌∙◌}
use mathlib.Core.List.{[], ◌∷◌, Option-to_list}
use mathlib.Core.Option.{none, some, Option-elim}
use mathlib.Core.Bool.{true}
use lib.ListN.{length}
use Rattle.rules.specs.Statements.{Statement, Constant, value, integer, string, contents, holds, code, autoidx-stmt, attr-stmt, module-stmt, param-stmt, wire-stmt, memory-stmt, cell-stmt, cell-param-stmt, cell-conn-stmt, conn-stmt, proc-stmt, step-stmt, end-stmt}
use Rattle.rules.specs.Signals.{Wires}
use Rattle.rules.specs.Layout.{Used, padded, row, constant_columns, sort_code, columns, statement_row}
use Rattle.numbers.specs.Kinds.{signal_of}
use Rattle.lists.specs.Lists.{same_at}
use Rattle.tables.specs.Row.{words}
use Rattle.tables.specs.declared.Row.{Row}
use Rattle.wires.specs.Rows.{word_at, column, span_at}
use Rattle.netlist.specs.Rows.{kind_at, name_from}
use Rattle.netlist.specs.RowLaws.{row_zero}
use Rattle.netlist.specs.Statements as netlist
use Rattle.netlist.specs.Statements.{constant_at, optional_at, signal_at, memory_at, sort_at, statement_at}
use Rattle.netlist.specs.Steps.{signals_at}
use Rattle.netlist.specs.StepLaws.{step_back}
use Rattle.lists.specs.Tests.{and-true-left}
use Rattle.modules.specs.CodeLaws.{narrow}
use Rattle.modules.specs.DecodeLaws.{decodes}
use Rattle.row_statements.specs.Parts.{span}
use Rattle.row_statements.specs.Reads.{PartTables, constant_of, optional_of, memory_of, step_or, signals_of, even_signals, statement_by, statement_of, Reads}
use Rattle.row_statements.proofs.CodeLaws.{constant-read}

-- where a row's columns are those of a statement, its parts are where the row says
module _ (t : PartTables) (u : Used) (r : Row) where
  constant-placed : (c : Constant) → constant_columns u c ≡ r.c ∷ r.d ∷ r.e ∷ [] → constant_at t.strings t.bits (words r) 0 3 ≡ constant_of t.strings t.bits u r.c r.d r.e
  unfolding constant_at constant_of constant_columns column word_at words span_at span
  constant-placed (value ds) e = rw (sym (same_at 0 e), sym (same_at 1 e))
  constant-placed (integer i) e = rw (sym (same_at 0 e))
  constant-placed (string s) e = rw (sym (same_at 0 e), sym (same_at 1 e))

  constant-there : (c : Constant) → constant_columns u c ≡ r.c ∷ r.d ∷ r.e ∷ [] → optional_at t.strings t.bits (words r) 0 3 ≡ optional_of t.strings t.bits u r.c r.d r.e
  unfolding optional_at optional_of column word_at words
  constant-there c e = rw (constant-placed c e)

  constant-none : r.c ≡ 0 → optional_at t.strings t.bits (words r) 0 3 ≡ optional_of t.strings t.bits u r.c r.d r.e
  unfolding optional_at optional_of column word_at words
  constant-none e = rw e

  placed : (s : Statement) → words r ≡ statement_row u s → statement_at t.names t.strings t.bits t.wires (words r) 0 ≡ some (statement_of t u r)
  unfolding statement_at netlist.statement_by statement_of statement_by kind_at name_from signals_at signals_of step_or signal_at signal_of memory_at memory_of sort_at span_at span column word_at words statement_row columns code contents holds row padded Option-elim Option-to_list
  placed (autoidx-stmt i) e = rw (same_at 0 e)
  placed (attr-stmt n c) e = rw (constant-placed c (constant-read u c r 2 u.names (length n) 0 (e ∙ sym (row_zero u c 2 u.names (length n)))).0, same_at 0 e, same_at 1 e)
  placed (module-stmt n) e = rw (same_at 0 e, same_at 1 e)
  placed (param-stmt n none) e = rw (constant-none (same_at 3 e), same_at 0 e, same_at 1 e)
  placed (param-stmt n (some c)) e = rw (constant-there c (constant-read u c r 4 u.names (length n) 0 (e ∙ sym (row_zero u c 4 u.names (length n)))).0, same_at 0 e, same_at 1 e)
  placed (wire-stmt w n) e = rw (same_at 0 e, same_at 1 e, same_at 3 e)
  placed (memory-stmt m n) e = rw (same_at 0 e, same_at 1 e)
  placed (cell-stmt y n) e = rw (same_at 0 e, same_at 1 e, same_at 3 e, same_at 2 e)
  placed (cell-param-stmt o n c) e = rw (constant-placed c (constant-read u c r 8 u.names (length n) (sort_code o) e).0, same_at 0 e, same_at 1 e)
  placed (cell-conn-stmt n x) e = rw (same_at 0 e, same_at 1 e, same_at 3 e)
  placed (conn-stmt x y) e = rw (same_at 0 e, same_at 1 e, same_at 3 e, same_at 2 e)
  placed (proc-stmt n) e = rw (same_at 0 e, same_at 1 e)
  placed (step-stmt q xs) e = rw (same_at 0 e, same_at 1 e, same_at 2 e, step_back q)
  placed end-stmt e = rw (same_at 0 e)

pub read_only : (t : PartTables) (u : Used) (ws : Wires) → narrow ws ≡ true → (r : Row) (s : Statement) → Reads t u ws r s → statement_of t u r ≡ s
unfolding column word_at even_signals
read_only t u ws wide r s d =
    let e : statement_at t.names t.strings t.bits t.wires (words r) 0 ≡ some s =
    decodes t.names t.strings t.bits t.wires (words r) u ws wide 0 s d.parts (λ c l. rw zero-add (same_at c d.row)) d.fine (and-true-left _ _ d.even) in
    cc (placed t u r s d.row, e)
