-- By the two cases of a byte.
use mathlib.Core.Path.{refl, sym, ap₂, ◌∙◌}
use mathlib.Core.List.{[], ◌∷◌}
use Prim.Native.Nat.{ℕ}
use Rattle.plain.specs.Put.{put-by}
use Rattle.plain.proofs.ByteLaws.{plain-kept, plain_other}
use Rattle.plain.proofs.put_plain.Goals as goal

pub store-requires : goal.store-requires
store-requires c = rw (plain-kept _ (sym c.is_plain.ensures ∙ c.if-is_plain.true)) at c.requires

pub returns-then-is_plain : goal.returns-then-is_plain
returns-then-is_plain c = put-by (plain-kept _ (sym c.is_plain.ensures ∙ c.if-is_plain.true)) c.store.ensures refl

pub store-requires-2 : goal.store-requires-2
store-requires-2 c = rw (plain_other _ (sym c.is_plain.ensures ∙ c.if-is_plain.false)) at c.requires

pub returns : goal.returns
returns c =
    put-by
    (plain_other _ (sym c.is_plain.ensures ∙ c.if-is_plain.false)
    ∙ ap₂ (λ (x y : ℕ). 95 ∷ x ∷ y ∷ []) (sym c.hex_digit.ensures) (sym c.hex_digit-2.ensures))
    c.store-2.ensures refl
