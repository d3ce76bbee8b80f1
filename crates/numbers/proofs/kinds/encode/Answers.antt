-- `kinds::encode` meets its contract.
use Prim.Native.Nat.{ℕ, ◌+◌, ◌*◌, ◌<◌}
use mathlib.Core.Path.{◌≡◌, sym, subst}
use native.Mathlib.Omega.{arith}
use Rattle.rules.specs.Layout.{bit_code}
use Rattle.numbers.specs.Kinds.{bit_of, Valid}
use Rattle.numbers.specs.KindLaws.{code-digit}
use Rattle.numbers.specs.declared.kinds.SignalBit.{SignalBit}
use Rattle.numbers.specs.declared.kinds.WireNumber.{WireNumber}
use Rattle.numbers.proofs.kinds.encode.Goals as goal

small : {b : SignalBit} {w : WireNumber} {i : ℕ} → Valid b → b ≡ SignalBit.Wire w i → 6 + 2048 * w.0 + i < 1048582
unfolding Valid
small v e = omega (arith, subst Valid e v)

pub overflow_mul-result : goal.overflow_mul-result
overflow_mul-result c = omega (arith, small c.requires c.in-Wire.is)

pub overflow_add-result : goal.overflow_add-result
overflow_add-result c = omega (arith, small c.requires c.in-Wire.is)

pub overflow_add-result-in-Wire : goal.overflow_add-result-in-Wire
overflow_add-result-in-Wire c = omega (arith, small c.requires c.in-Wire.is)

pub returns-in-Digit : goal.returns-in-Digit
unfolding bit_code bit_of Valid
returns-in-Digit c = rw c.in-Digit.is (sym (code-digit _ (subst Valid c.in-Digit.is c.requires)))

pub returns-in-Wire : goal.returns-in-Wire
unfolding bit_code bit_of
returns-in-Wire c = rw c.in-Wire.is
