-- The two scopes outside of switches, by their words.
use Rattle.context.specs.Place.{scope_of}
use Rattle.line_forms.specs.Processes.{root_words}
use Rattle.line_forms.proofs.ProcessLaws.{process_open}
use Rattle.line_forms.proofs.begins_line.Goals as goal

pub returns-in-4 : goal.returns-in-4
unfolding process_open scope_of root_words
returns-in-4 c first = rw c.in-4.is c.begins_root.ensures

pub returns-in-5 : goal.returns-in-5
unfolding process_open scope_of root_words
returns-in-5 c first = rw c.in-5.is c.begins_root-in-5.ensures
