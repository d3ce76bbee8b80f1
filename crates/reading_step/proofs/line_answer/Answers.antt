use Rattle.std.proofs.Common.{rules}
use Rattle.std.proofs.lemmas.Result.{err_from_is_err_and}
use Rattle.reading_step.proofs.LineLaws.{outcome-none, outcome-open, outcome-shaped, rows-ready, mapped-ok, answer-bad, answer-judged, answer-refused}
use Rattle.reading_step.proofs.line_answer.Goals as goal

pub returns-in_err-n-clause-answer_as : goal.returns-in_err-n-clause-answer_as
returns-in_err-n-clause-answer_as c =
    let p = err_from_is_err_and c.from_residual.result c.from_residual.ensures.1 in
    rw (p.1, p.2) (λ ss st. answer-bad ss _ _ _ c.args.line _ c.lex_line.ensures c.requires.line_fits.0.high _ (λ b r q. search rules) _ _ c.map_err.ensures.cases c.in_err-n.was)

pub returns-then-n-eq0-clause-answer_as : goal.returns-then-n-eq0-clause-answer_as
returns-then-n-eq0-clause-answer_as c = λ ss st.
    outcome-none ss _ _ _ c.args.line _ c.lex_line.ensures _ (mapped-ok _ _ _ _ c.map_err.ensures.cases c.in_ok-n.was) c.if-n-eq0.true

pub returns-then-not-line-clause-answer_as : goal.returns-then-not-line-clause-answer_as
returns-then-not-line-clause-answer_as c = λ ss st.
    let fits = c.requires.line_fits in
    answer-refused ss _ c.args.line _ _ c.refused_at.ensures
    (outcome-open ss _ _ _ c.args.line _ c.lex_line.ensures _ (mapped-ok _ _ _ _ c.map_err.ensures.cases c.in_ok-n.was) fits.0.high fits.0.file fits.1 c.if-n-eq0.false c.if-not-line.true)

pub judge_line-requires-clause-ready : goal.judge_line-requires-clause-ready
judge_line-requires-clause-ready c =
    let fits = c.requires.line_fits in
    rows-ready _ _ _ c.args.line _ c.lex_line.ensures _ (mapped-ok _ _ _ _ c.map_err.ensures.cases c.in_ok-n.was) fits.0.high fits.0.file fits.1 _ _ fits.0.scratch-long c.requires.place_fits.few c.if-n-eq0.false

pub returns-clause-answer_as : goal.returns-clause-answer_as
returns-clause-answer_as c = λ ss st.
    let fits = c.requires.line_fits in
    answer-judged ss _ _ _ c.args.line _ _ (λ x o p. p) (λ n r q. search rules) _ _ _ c.map.ensures.cases c.map_err-2.ensures.cases
    (outcome-shaped ss _ _ _ c.args.line _ c.lex_line.ensures _ (mapped-ok _ _ _ _ c.map_err.ensures.cases c.in_ok-n.was) fits.0.high fits.0.file fits.1 c.if-n-eq0.false c.if-not-line.false)
    (c.judge_line.ensures.judged_as ss st)
