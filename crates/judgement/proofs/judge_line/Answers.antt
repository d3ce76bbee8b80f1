-- The statement in its place, and the verdict on it.
use native.Mathlib.Omega.{arith}
use Rattle.std.specs.Prelude.{Ok, Err}
use Rattle.std.proofs.lemmas.Result.{err_from_is_err_and}
use Rattle.syntax.proofs.Verdicts.{says-refused}
use Rattle.judgement.proofs.Verdicts.{line-sound, line-says}
use Rattle.judgement.proofs.judge_line.Goals as goal

pub returns-in_err-statement-clause-judged_as : goal.returns-in_err-statement-clause-judged_as
returns-in_err-statement-clause-judged_as c =
    let args = c.args in
    let p = err_from_is_err_and c.from_residual.result c.from_residual.ensures.1 in
    rw (p.1, p.2)
    (λ ss st. says-refused ss _ _ _ _
    (line-says args.place args.f.now args.tokens.now args.names.now args.wires.now c.line_statement.new.scratch (Err _) c.in_err-statement.ensures ss _ _ st))

pub judge_statement-requires-clause-sound : goal.judge_statement-requires-clause-sound
judge_statement-requires-clause-sound c =
    let args = c.args in
    line-sound args.place args.f.now args.tokens.now args.names.now args.wires.now c.line_statement.new.scratch _ c.in_ok-statement.ensures

pub returns-clause-judged_as : goal.returns-clause-judged_as
returns-clause-judged_as c =
    let args = c.args in
    λ ss st. c.judge_statement.ensures.judges_as ss args.wires.now c.line_statement.new.scratch _ st
    (omega (arith, c.line_statement.auto, c.requires.ready.room))
    (line-says args.place args.f.now args.tokens.now args.names.now args.wires.now c.line_statement.new.scratch (Ok _) c.in_ok-statement.ensures ss _ _ st)
