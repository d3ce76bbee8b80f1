-- A legal name's form is made in a room of its own.
use mathlib.Core.Path.{sym, ◌∙◌}
use native.Mathlib.Omega.{arith}
use borrow.Author.Tests.{not-false}
use Rattle.plain.specs.Put.{put-part}
use Rattle.plain.specs.FormLaws.{form-length}
use Rattle.plain.proofs.is_form_of.Goals as goal

pub put_form-end-requires : goal.put_form-end-requires
put_form-end-requires c = omega (arith, form-length c.args.name.now (sym c.legal.ensures ∙ not-false _ c.if-not-legal.false-raw))

pub slice_bounds-same_bytes-end : goal.slice_bounds-same_bytes-end
slice_bounds-same_bytes-end c =
    omega (
      arith,
      c.put_form-end.ensures.place,
      form-length c.args.name.now (sym c.legal.ensures ∙ not-false _ c.if-not-legal.false-raw),
    )

pub returns : goal.returns
returns c =
    let args = c.args in
    let legal = c.legal in
    let if1 = c.if-not-legal in
    let put-form = c.put_form-end in
    let same_bytes = c.same_bytes in
    rw (sym legal.ensures ∙ not-false _ if1.false-raw, ← put-part put-form.ensures (omega (arith, form-length args.name.now (sym legal.ensures ∙ not-false _ if1.false-raw)))) same_bytes.ensures
