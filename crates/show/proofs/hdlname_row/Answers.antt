use Rattle.std.proofs.Common.{◌≡◌, ◌+◌, ◌-◌, sym, ◌∙◌, arith}
use Rattle.show.proofs.StepLaws.{hdlname-end, hdlname-stop, hdlname-here, hdlname-next}
use Rattle.show.proofs.hdlname_row.Goals as goal

pub returns-then-row_kind-ne-ATTRIBUTE_KIND : goal.returns-then-row_kind-ne-ATTRIBUTE_KIND
returns-then-row_kind-ne-ATTRIBUTE_KIND c =
    sym
    (c.loop-k.invariant
    ∙ hdlname-stop _ _ c.loop-k.k _ (c.loop-k.k - 1) (omega arith)
    (λ q. c.if-row_kind-ne-ATTRIBUTE_KIND.true (c.row_kind.ensures ∙ q)))

pub loop-k-preserved-then-is_hdlname : goal.loop-k-preserved-then-is_hdlname
loop-k-preserved-then-is_hdlname c =
    let row : c.loop-k.k - 1 + 1 ≡ c.loop-k.k = omega arith in
    rw row
    (c.loop-k.invariant
    ∙ hdlname-here _ _ c.loop-k.k _ (c.loop-k.k - 1) (omega arith)
    (sym c.row_kind.ensures ∙ c.if-row_kind-ne-ATTRIBUTE_KIND.false) _ c.is_hdlname.ensures
    c.if-is_hdlname.true)

pub loop-k-preserved : goal.loop-k-preserved
loop-k-preserved c =
    c.loop-k.invariant
    ∙ hdlname-next _ _ c.loop-k.k _ (c.loop-k.k - 1) (omega arith)
    (sym c.row_kind.ensures ∙ c.if-row_kind-ne-ATTRIBUTE_KIND.false) _ c.is_hdlname.ensures c.if-is_hdlname.false

pub returns : goal.returns
returns c = sym (c.loop-k.invariant ∙ hdlname-end _ _ c.loop-k.k _ (omega arith))
