use mathlib.Core.Path.{ap, ◌∙◌}
use Rattle.rename_rules.specs.Judged.{refusal}
use Rattle.rename_rules.proofs.IndexedLaws.{number-judged}
use Rattle.rename_rules.proofs.judge_rename.Goals as goal

pub returns : goal.returns
returns c = c.judge_by.ensures ∙ ap refusal (number-judged _ _ _ _ _ _ _ c.module_of-module.ensures _ _ _ _ c.is_taken-taken.ensures)
