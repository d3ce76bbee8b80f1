-- The size is read with a cap, above which no integer has a word.
use mathlib.Core.Path.{sym, ◌∙◌}
use Rattle.literal_rules.proofs.ReadLaws.{read_fits, read_word}
use Rattle.literal_rules.proofs.integer_of.Goals as goal

pub returns-then-fits : goal.returns-then-fits
returns-then-fits c =
    let ok = sym (read_fits _ c.args.z _ _ c.part.ensures c.decimal-size.ensures) ∙ sym c.fits.ensures ∙ c.if-fits.true in
    (ok, sym (c.word_of.ensures ∙ read_word _ c.args.z _ _ c.part.ensures c.decimal-size.ensures ok))

pub returns : goal.returns
returns c = sym (read_fits _ c.args.z _ _ c.part.ensures c.decimal-size.ensures) ∙ sym c.fits.ensures ∙ c.if-fits.false
