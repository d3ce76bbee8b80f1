use mathlib.Core.Path.{ap, ◌∙◌}
use Rattle.name_index.specs.IndexLaws.{indexed-upto}
use Rattle.wire_names.specs.declared.Module.{Module}
use Rattle.rename_rules.specs.Judged.{refusal}
use Rattle.rename_rules.proofs.IndexedLaws.{module-indexed, number-judged}
use Rattle.rename_rules.proofs.indexed_rename.Goals as goal

pub indexed_is_taken-taken-requires : goal.indexed_is_taken-taken-requires
indexed_is_taken-taken-requires c =
    let pre = c.requires in
    let args = c.args in record {
      indexed = indexed-upto (ap (λ (x : Module). x.from) c.module_of-module.ensures) pre.indexed;
      module_indexed = module-indexed _ _ args.design.now.rows.now args.place args.standing args.m.0 _ c.module_of-module.ensures
          pre.indexed_2;
    }

pub returns : goal.returns
returns c = c.judge_by.ensures ∙ ap refusal (number-judged _ _ _ _ _ _ _ c.module_of-module.ensures _ _ _ _ c.indexed_is_taken-taken.ensures)
