-- A value that keeps the number rules is below the cap with which its width is read.
use mathlib.Core.Path.{ap, ◌∙◌}
use Rattle.rules.specs.Tokens.{Literal}
use Rattle.tables.specs.Store.{store}
use Rattle.literals.specs.Codes.{codes}
use Rattle.literal_rules.proofs.ReadLaws.{read-few, read-room, read-literal}
use Rattle.literals.proofs.put_value.Goals as goal

pub put_digits-requires : goal.put_digits-requires
put_digits-requires c = (
  read-few _ _ _ _ _ _ c.part.ensures c.decimal-width.ensures _ c.value_digits.ensures c.requires.end_value,
  read-room _ _ _ _ _ _ c.part.ensures c.decimal-width.ensures _ c.value_digits.ensures c.requires.end_value _ _ c.requires.end_in_bounds,
)

pub returns : goal.returns
returns c =
    let pre = c.requires in
    let args = c.args in
    let part = c.part in
    let decimal = c.decimal-width in
    let value-digits = c.value_digits in
    let put-digits = c.put_digits in
    let e = read-literal _ _ _ _ _ _ part.ensures decimal.ensures _ value-digits.ensures pre.end_value in
    put-digits.ensures ∙ ap (λ (l : Literal). store args.out.now args.at (codes l)) e
