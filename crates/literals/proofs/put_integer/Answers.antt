-- An integer that has a word is below the cap with which its size is read.
use mathlib.Core.Path.{ap, ◌∙◌}
use Rattle.tables.specs.Store.{store}
use Rattle.literal_rules.proofs.ReadLaws.{read_word}
use Rattle.literals.proofs.CodeLaws.{integer-codes}
use Rattle.literals.proofs.put_integer.Goals as goal

pub returns : goal.returns
returns c =
    let args = c.args in
    let pre = c.requires in
    let part = c.part in
    let decimal = c.decimal-size in
    let word_of = c.word_of in
    let put-bits = c.put_bits in
    let w = read_word _ args.z _ _ part.ensures decimal.ensures pre.z_value in
    put-bits.ensures ∙ ap (store args.out.now args.at) (integer-codes _ _ (word_of.ensures ∙ w))
