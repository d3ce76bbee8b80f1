use mathlib.Core.Path.{◌≡◌, ap, ◌∙◌}
use Rattle.std.specs.Prelude.{Err}
use native.Mathlib.Omega.{arith}
use Rattle.context.proofs.PlaceLaws.{after_is}
use Rattle.context.specs.Place.{place_after}
use Rattle.context.specs.declared.place.Place.{Place}
use Rattle.name_index.specs.LineLaws.{lines-upto}
use Rattle.reading_step.specs.Steps.{line_of}
use Rattle.reading_step.proofs.StepLaws.{done-fits, done-stands, done-rows, put-storable, step-stated, step-skipped, step-refused, step-indexed, done-few, done-wires}
use Rattle.reading_step.proofs.take_line.Goals as goal

pub line_answer-answer-requires-clause-place_fits : goal.line_answer-answer-requires-clause-place_fits
line_answer-answer-requires-clause-place_fits c = done-fits c.requires.some_done.done

pub returns-in_default-clause-step_as : goal.returns-in_default-clause-step_as
returns-in_default-clause-step_as c =
    let e : c.map.result ≡ Err c.in_default.field-0 = rw c.in_default.is at c.map.ensures.cases in
    rw e (λ ss d. step-refused d _ _ _ (c.line_answer-answer.ensures.answer_as ss (done-stands d)) _ c.in_default.is)

pub returns-in_default-found-clause-step_as : goal.returns-in_default-found-clause-step_as
returns-in_default-found-clause-step_as c = λ ss d. step-skipped d _ _ _ (c.line_answer-answer.ensures.answer_as ss (done-stands d)) _ c.in-Ok.is c.in_default-found.not-Some

pub used_from-u-requires : goal.used_from-u-requires
used_from-u-requires c = (done-fits c.requires.some_done.done).within

pub put_statement-requires : goal.put_statement-requires
put_statement-requires c =
    let pre = c.requires in
    let line-answer = c.line_answer-answer in
    put-storable pre.some_done.done (line_of c.args.f.now c.args.line) _ _ c.in-Ok.is c.in-Some.is
    (line-answer.ensures.answer_as _ (done-stands pre.some_done.done)) line-answer.ensures.storable _ c.used_from-u.ensures
    (line-answer.auto.scratch ∙ pre.line_fits.0.scratch-long)

pub index_line-requires : goal.index_line-requires
index_line-requires c =
    let pre = c.requires in
    let line-answer = c.line_answer-answer in record {
      lines_indexed = step-indexed pre.some_done.done (line_of c.args.f.now c.args.line) _ _ c.in-Ok.is c.in-Some.is
          (line-answer.ensures.answer_as _ (done-stands pre.some_done.done)) line-answer.ensures.storable _ _ c.used_from-u.ensures
          c.put_statement.ensures _ _ pre.lines_indexed;
      row_lt_row_room = (omega (arith, done-few pre.some_done.done), done-wires pre.some_done.done);
    }

pub after-requires : goal.after-requires
after-requires c =
    record {
      rows_bound = done-rows c.requires.some_done.done;
      bounds = (done-fits c.requires.some_done.done).bounds;
    }

pub returns : goal.returns
unfolding place_after
returns c =
    let line-answer = c.line_answer-answer in record {
      step_as = λ ss d. step-stated d _ _ _ c.in-Ok.is c.in-Some.is (line-answer.ensures.answer_as ss (done-stands d))
          line-answer.ensures.storable _ _ _ _ _ c.used_from-u.ensures c.put_statement.ensures c.kind_code-kind.ensures
          c.step_code.ensures (after_is _ _ _ _ c.after.ensures);
      step_indexed = lines-upto (ap (λ (p : Place). p.rows) c.after.ensures) (ap (λ (p : Place). p.wires) c.after.ensures)
          c.index_line.ensures;
    }
