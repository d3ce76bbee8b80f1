-- The word's number lies between two, or doesn't.
use native.Mathlib.Omega.{arith}
use mathlib.Core.Logic.{⊎_elim}
use Rattle.line_forms.specs.Processes.{process_kind_of}
use Rattle.line_forms.proofs.ProcessLaws.{no-sync, synced, sync-from}
use Rattle.line_forms.proofs.sync_line.Goals as goal

pub returns-then-c-lt-GLOBAL : goal.returns-then-c-lt-GLOBAL
returns-then-c-lt-GLOBAL c = (λ f. no-sync _ _ c.word_at-c.ensures (λ a b. ⊎_elim (λ l. omega arith) (λ l. omega arith) c.then-c-lt-GLOBAL.either) f, tt)

pub returns : goal.returns
unfolding process_kind_of
returns c = (λ f. synced _ _ c.word_at-c.ensures c.if-c-lt-GLOBAL.false c.if-c-gt-EDGE.false f, sync-from _ _ c.word_at-c.ensures c.if-c-lt-GLOBAL.false c.if-c-gt-EDGE.false)
