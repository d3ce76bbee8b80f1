use Rattle.netlist.specs.Results.{lent}
use Rattle.calls.specs.Calls.{calls_in}
use Rattle.calls.proofs.RunLaws.{run-refused, run-open, run-done}
use Rattle.calls.proofs.run_calls.Goals as goal

pub returns-then-left-ne0 : goal.returns-then-left-ne0
returns-then-left-ne0 c =
    let args = c.args in
    let fill = c.fill-left in
    run-refused args.f.now
    (lent args.names.now args.strings.now args.bits.now args.wires.now args.rows.now args.renames args.room)
    _ (calls_in args.calls.now args.texts.now) args.answers.now fill.ensures c.if-left-ne0.true

pub make_calls-requires : goal.make_calls-requires
make_calls-requires c =
    let args = c.args in
    let fill = c.fill-left in
    let if1 = c.if-left-ne0 in
    run-open args.f.now
    (lent args.names.now args.strings.now args.bits.now args.wires.now args.rows.now args.renames args.room)
    _ fill.ensures if1.false

pub returns : goal.returns
returns c =
    let args = c.args in
    let fill = c.fill-left in
    let if1 = c.if-left-ne0 in
    let make-calls = c.make_calls in
    run-done args.f.now
    (lent args.names.now args.strings.now args.bits.now args.wires.now args.rows.now args.renames args.room)
    _ (calls_in args.calls.now args.texts.now) args.answers.now fill.ensures if1.false _ _
    make-calls.ensures
