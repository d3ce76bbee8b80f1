-- `word_code` meets its contract. The invariant: n is the code of the bytes from i on.
-- Assumes nothing.
use mathlib.Core.Path.{refl}
use Prim.Native.Nat.{◌-◌}
use native.Mathlib.Omega.{arith}
use lib.ListN.{length}
use Rattle.scanner.proofs.CodeLaws.{code-start, code_fits, code-more, code-whole}
use Rattle.scanner.proofs.words.word_code.Goals as goal

pub loop-i-init : goal.loop-i-init
loop-i-init c = let w = c.args.w.now in (omega arith, code-start w (length w) refl)

pub overflow_mul-n : goal.overflow_mul-n
overflow_mul-n c = omega (arith, code_fits _ _ _ c.loop-i-test.true c.loop-i.invariant.1 (λ k. omega (arith, c.type_inv.w k)) c.requires)

pub overflow_add-n : goal.overflow_add-n
overflow_add-n c = omega (arith, code_fits _ _ _ c.loop-i-test.true c.loop-i.invariant.1 (λ k. omega (arith, c.type_inv.w k)) c.requires, c.type_inv.w (c.loop-i.i - 1))

pub loop-i-preserved : goal.loop-i-preserved
loop-i-preserved c = (omega arith, code-more _ _ _ c.loop-i-test.true c.loop-i.invariant.1 c.loop-i.invariant.0)

pub returns : goal.returns
returns c = code-whole _ _ _ c.loop-i.invariant.1 c.loop-i-test.false
