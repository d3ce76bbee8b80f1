use native.Mathlib.Omega.{arith}
use Rattle.rules.specs.Tokens.{octal_byte, onto}
use Rattle.strings.specs.Machine.{machine_open}
use Rattle.lists.specs.Bytes.{within-yes, within-below, within-above}
use Rattle.strings.proofs.octal_whole.Goals as goal

pub returns-in-1-to-255 : goal.returns-in-1-to-255
unfolding octal_byte onto machine_open
returns-in-1-to-255 c = rw (within-yes 1 255 c.args.n (omega arith) (omega arith))

pub returns-in_default : goal.returns-in_default
unfolding octal_byte onto machine_open
returns-in_default c = rw (within-below 1 255 c.args.n (omega arith))

pub returns-in_default-2 : goal.returns-in_default-2
unfolding octal_byte onto machine_open
returns-in_default-2 c = rw (within-above 1 255 c.args.n (omega arith))
