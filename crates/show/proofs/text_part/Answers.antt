-- By the constant's kind.
-- Assumes nothing.
use Prim.Native.Nat.{suc, ◌-◌}
use mathlib.Core.Path.{◌≡◌, sym, ◌∙◌}
use native.Mathlib.Omega.{arith}
use Rattle.show.proofs.StepLaws.{text-none, text-other, text-string}
use Rattle.show.proofs.text_part.Goals as goal

pub returns-then-behind-eq0 : goal.returns-then-behind-eq0
returns-then-behind-eq0 c = text-none c.args.design.now.strings.now c.args.design.now.rows.now c.args.behind c.if-behind-eq0.true

pub returns-then-column-ne-CONSTANT_STRING : goal.returns-then-column-ne-CONSTANT_STRING
returns-then-column-ne-CONSTANT_STRING c =
    let args = c.args in
    let e : args.behind ≡ suc (args.behind - 1) = omega arith in
    text-other args.design.now.strings.now args.design.now.rows.now args.behind (args.behind - 1) e
    (λ q. c.if-column-ne-CONSTANT_STRING.true (c.column.ensures ∙ q))

pub returns : goal.returns
returns c =
    let args = c.args in
    let column = c.column in
    let e : args.behind ≡ suc (args.behind - 1) = omega arith in
    c.span.ensures
    ∙ text-string args.design.now.strings.now args.design.now.rows.now args.behind (args.behind - 1) e
    (sym column.ensures ∙ c.if-column-ne-CONSTANT_STRING.false)
