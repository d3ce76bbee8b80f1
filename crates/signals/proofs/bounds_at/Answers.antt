-- `bounds_at` meets its contract: a law of the grammar for each return.
-- Assumes nothing.
use mathlib.Core.Path.{sym, ◌∙◌}
use native.Mathlib.Omega.{arith}
use Rattle.tokens.specs.Parts.{integer_gives}
use Rattle.signals.specs.Reads.{slot_in}
use Rattle.signals.proofs.Parses.{mark-below, bounds-no-high, bounds-one, bounds-open, bounds-no-low, bounds-unclosed, bounds-two}
use Rattle.signals.proofs.bounds_at.Goals as goal

pub returns-in_err-high : goal.returns-in_err-high
unfolding integer_gives
returns-in_err-high c = rw c.from_residual.ensures (λ f. bounds-no-high f _ _ (c.in_err-high.ensures f))

pub returns-then-is_mark : goal.returns-then-is_mark
unfolding integer_gives slot_in
returns-then-is_mark c =
    let m = sym c.is_mark.ensures ∙ c.if-is_mark.true in
    let b = mark-below _ _ _ m in
    (omega arith, omega arith, λ f. bounds-one f _ _ _ (c.in_ok-high.ensures f) m)

pub returns-then-not-is_mark : goal.returns-then-not-is_mark
unfolding integer_gives
returns-then-not-is_mark c f =
    bounds-open f _ _ _ (c.in_ok-high.ensures f) (sym c.is_mark.ensures ∙ c.if-is_mark.false) (sym c.is_mark-2.ensures ∙ c.if-not-is_mark.true)

pub returns-in_err-low : goal.returns-in_err-low
unfolding integer_gives
returns-in_err-low c =
    rw c.from_residual-in_err-low.ensures
    (λ f. bounds-no-low f _ _ _ (c.in_ok-high.ensures f) (sym c.is_mark-2.ensures ∙ c.if-not-is_mark.false) (c.in_err-low.ensures f))

pub returns-then-not-is_mark-2 : goal.returns-then-not-is_mark-2
unfolding integer_gives
returns-then-not-is_mark-2 c f =
    bounds-unclosed f _ _ _ (c.in_ok-high.ensures f) (sym c.is_mark-2.ensures ∙ c.if-not-is_mark.false) _ (c.in_ok-low.ensures f)
    (sym c.is_mark-3.ensures ∙ c.if-not-is_mark-2.true)

pub returns : goal.returns
unfolding integer_gives slot_in
returns c =
    let m = sym c.is_mark-3.ensures ∙ c.if-not-is_mark-2.false in
    let b = mark-below _ _ _ m in (
      omega arith,
      omega arith,
      λ f.
          bounds-two f _ _ _ (c.in_ok-high.ensures f) (sym c.is_mark-2.ensures ∙ c.if-not-is_mark.false) _ (c.in_ok-low.ensures f) m,
    )
