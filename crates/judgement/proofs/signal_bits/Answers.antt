-- Few bits: neither number is past its word.
use mathlib.Core.Path.{sym}
use native.Mathlib.Omega.{arith}
use Rattle.judgement.proofs.PartLaws.{bits-step, bits-pair}
use Rattle.judgement.proofs.signal_bits.Goals as goal

pub overflow_mul-result : goal.overflow_mul-result
overflow_mul-result c = omega (arith, bits-step c.args.parts c.if-parts-eq-STEP_KIND.true, c.requires)

pub overflow_cast-result : goal.overflow_cast-result
overflow_cast-result c = omega (arith, bits-step c.args.parts c.if-parts-eq-STEP_KIND.true, c.requires)

pub returns-then-parts-eq-STEP_KIND : goal.returns-then-parts-eq-STEP_KIND
returns-then-parts-eq-STEP_KIND c = sym (bits-step c.args.parts c.if-parts-eq-STEP_KIND.true)

pub overflow_add-result : goal.overflow_add-result
overflow_add-result c = omega (arith, bits-pair c.args.parts c.if-parts-eq-STEP_KIND.false, c.requires)

pub overflow_cast-result-2 : goal.overflow_cast-result-2
overflow_cast-result-2 c = omega (arith, bits-pair c.args.parts c.if-parts-eq-STEP_KIND.false, c.requires)

pub returns : goal.returns
returns c = sym (bits-pair c.args.parts c.if-parts-eq-STEP_KIND.false)
