use mathlib.Core.Path.{sym, ◌∙◌}
use Rattle.rules.specs.Tokens.{octal_turn}
use Rattle.strings.proofs.Turns.{octal-digit}
use Rattle.strings.proofs.third_turn.Goals as goal

pub overflow_sub-m : goal.overflow_sub-m
overflow_sub-m c = octal-digit _ (sym c.is_octal.ensures ∙ c.if-is_octal.true)

pub returns-then-is_octal : goal.returns-then-is_octal
unfolding octal_turn
returns-then-is_octal c = rw (← c.is_octal.ensures, c.if-is_octal.true) c.octal_whole.ensures

pub returns : goal.returns
unfolding octal_turn
returns c = rw (← c.is_octal.ensures, c.if-is_octal.false) c.octal_before.ensures
