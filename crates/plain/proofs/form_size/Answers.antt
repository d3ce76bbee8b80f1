-- The first byte, and those behind it.
use mathlib.Core.Path.{sym, ap}
use native.Mathlib.Omega.{arith}
use lib.ListN.{length}
use Rattle.plain.specs.FormLaws.{form-most}
use Rattle.plain.proofs.AnswerLaws.{form-none, form-some}
use Rattle.plain.proofs.form_size.Goals as goal

pub returns-then-name-eq0 : goal.returns-then-name-eq0
returns-then-name-eq0 c = sym (ap length (form-none _ c.if-name-eq0.true))

pub overflow_add-result : goal.overflow_add-result
overflow_add-result c = omega (arith, c.requires, c.later_size.ensures, ap length (form-some c.args.name.now c.if-name-eq0.false), form-most c.args.name.now)

pub returns : goal.returns
returns c = omega (arith, c.later_size.ensures, ap length (form-some c.args.name.now c.if-name-eq0.false))
