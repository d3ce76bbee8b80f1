-- An integer that has a word is below the cap with which its size is read.
use mathlib.Core.Path.{◌∙◌}
use Rattle.literal_rules.proofs.ReadLaws.{read_word}
use Rattle.layout.proofs.put.integer_word.Goals as goal

pub returns : goal.returns
returns c = c.word_of.ensures ∙ read_word _ c.args.z _ _ c.part.ensures c.decimal-size.ensures c.requires
