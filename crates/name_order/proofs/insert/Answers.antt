use Rattle.name_order.specs.NamedLaws.{put-moved}
use Rattle.name_order.proofs.insert.Goals as goal

pub returns : goal.returns
returns c = put-moved c.args.index.now c.args.at c.args.count c.requires _ c.args.wire c.copy_within.ensures.after
