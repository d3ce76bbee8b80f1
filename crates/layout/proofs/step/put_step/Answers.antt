use Rattle.layout.proofs.StepLaws.{step-stored}
use Rattle.layout.proofs.step.put_step.Goals as goal

pub returns : goal.returns
returns c =
    let args = c.args in
    let pre = c.requires in
    let put-signals = c.put_signals in
    let each_width = c.each_width-each in
    let put-columns = c.put_columns in
    step-stored args.step args.width args.count _ args.u args.scratch.now args.bits.now _ args.rows.now _
    pre.stand each_width.ensures put-signals.ensures put-columns.ensures
