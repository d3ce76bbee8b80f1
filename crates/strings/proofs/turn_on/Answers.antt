use Rattle.rules.specs.Tokens.{turn}
use Rattle.strings.specs.Machine.{inside_of}
use Rattle.strings.proofs.turn_on.Goals as goal

pub returns-in-Plain : goal.returns-in-Plain
unfolding turn inside_of
returns-in-Plain c = rw c.in-Plain.is c.plain_turn.ensures

pub returns-in-Escape : goal.returns-in-Escape
unfolding turn inside_of
returns-in-Escape c = rw c.in-Escape.is c.escape_turn.ensures

pub returns-in-OneDigit : goal.returns-in-OneDigit
unfolding turn inside_of
returns-in-OneDigit c = rw c.in-OneDigit.is c.second_turn.ensures

pub returns-in-TwoDigits : goal.returns-in-TwoDigits
unfolding turn inside_of
returns-in-TwoDigits c = rw c.in-TwoDigits.is c.third_turn.ensures
