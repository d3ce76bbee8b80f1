use mathlib.Core.Path.{◌≡◌}
use mathlib.Core.Bool.{false}
use native.Mathlib.Omega.{arith}
use borrow.Author.Tests.{ne_eqb}
use Rattle.rules.specs.Bytes.{is_octal, within}
use Rattle.rules.specs.Tokens.{escape_turn}
use Rattle.lists.specs.Bytes.{within-yes, within-below, within-above}
use Rattle.strings.specs.Machine.{machine_open}
use Rattle.strings.proofs.escape_turn.Goals as goal
use Rattle.strings.proofs.escape_turn.Goals.{in_default-via-then-b-lt48, in_default-via-else-b-lt48+else-b-lt56}

pub returns-in-110 : goal.returns-in-110
unfolding escape_turn is_octal within machine_open
returns-in-110 c = rw c.in-110.is

pub returns-in-116 : goal.returns-in-116
unfolding escape_turn is_octal within machine_open
returns-in-116 c = rw c.in-116.is

pub returns-in-48-to-55 : goal.returns-in-48-to-55
unfolding escape_turn is_octal machine_open
returns-in-48-to-55 c = rw (within-yes 48 55 c.args.b (omega arith) (omega arith))

pub returns-in_default : goal.returns-in_default
unfolding escape_turn is_octal machine_open
returns-in_default c =
    let b = c.args.b in
    let outside : within 48 55 b ≡ false = elim c.in_default.branch [
      | in_default-via-then-b-lt48 w ↦ within-below 48 55 b (omega arith)
      | in_default-via-else-b-lt48+else-b-lt56 w ↦ within-above 48 55 b (omega arith)
    ] in
    rw (outside, ne_eqb b 110 (λ e. omega arith), ne_eqb b 116 (λ e. omega arith), ← c.is_string_byte.ensures, c.if-is_string_byte.true)

pub returns-in_default-2 : goal.returns-in_default-2
unfolding escape_turn is_octal machine_open
returns-in_default-2 c =
    let b = c.args.b in
    let outside : within 48 55 b ≡ false = elim c.in_default.branch [
      | in_default-via-then-b-lt48 w ↦ within-below 48 55 b (omega arith)
      | in_default-via-else-b-lt48+else-b-lt56 w ↦ within-above 48 55 b (omega arith)
    ] in
    rw (outside, ne_eqb b 110 (λ e. omega arith), ne_eqb b 116 (λ e. omega arith), ← c.is_string_byte.ensures, c.if-is_string_byte.false)
