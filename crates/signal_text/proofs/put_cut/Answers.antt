-- The wire, whole or with bounds.
-- Assumes nothing.
use mathlib.Core.Path.{◌≡◌, sym, ◌∙◌}
use Prim.Native.Nat.{suc, ◌+◌, ◌-◌}
use Rattle.wires.specs.Rows.{wire_of}
use Rattle.text.specs.Written.{written-most, written_then, written_as}
use Rattle.wire_names.specs.NowLaws.{wire-now, none_in}
use Rattle.signal_text.specs.CutLaws.{cut-none, cut-whole, cut-part}
use native.Mathlib.Omega.{arith}
use Rattle.signal_text.proofs.put_cut.Goals as goal
use Rattle.signal_text.proofs.put_cut.Goals.{else-wire-many, then-wire-many}

pub returns-then-many-eq0 : goal.returns-then-many-eq0
returns-then-many-eq0 c =
    let a = c.args in
    written_as c.put_bytes.ensures
    (cut-none _ a.low a.count (none_in a.design.now.names.now a.design.now.wires.now a.design.now.rows.now a.m (a.m.wires - (a.wire.0 + 1)) c.if-many-eq0.true))

pub shape_of-out-then-many-eq0 : goal.shape_of-out-then-many-eq0
shape_of-out-then-many-eq0 c = (returns-then-many-eq0 c).kept

pub put_token-end-requires : goal.put_token-end-requires
put_token-end-requires c = c.requires.0

pub returns-then-count-column : goal.returns-then-count-column
unfolding wire_of
returns-then-count-column c =
    let a = c.args in
    let n = c.if-wire-many.n in
    let e : a.m.wires ≡ (a.m.wires - (a.wire.0 + 1)) + suc n = (elim c.if-wire-many.branch [ then-wire-many w ↦ omega arith | else-wire-many w ↦ omega arith ]) in
    let at_n = wire-now a.design.now.names.now a.design.now.wires.now a.design.now.rows.now a.m a.wire.0 n e in
    written_as c.put_token-end.ensures (cut-whole _ _ _ c.name_now.ensures _ _ a.low a.count at_n (c.if-count-column.true ∙ c.column.ensures))

pub shape_of-out-then-count-column : goal.shape_of-out-then-count-column
shape_of-out-then-count-column c = (returns-then-count-column c).kept

pub put_bounds-requires : goal.put_bounds-requires
put_bounds-requires c = (written-most c.put_token-end.ensures, omega arith, omega arith, omega arith)

pub returns : goal.returns
unfolding wire_of
returns c =
    let args = c.args in
    let if1 = c.if-many-eq0 in
    let if2 = c.if-wire-many in
    let n = if2.n in
    let e : args.m.wires ≡ (args.m.wires - (args.wire.0 + 1)) + suc n =
    (elim if2.branch [ then-wire-many w ↦ omega (arith, if1.false) | else-wire-many w ↦ omega (arith, if1.false) ]) in
    let name-now = c.name_now in
    let put-token = c.put_token-end in
    let column = c.column in
    let if3 = c.if-count-column in
    let put-bounds = c.put_bounds in
    let at_n = wire-now args.design.now.names.now args.design.now.wires.now args.design.now.rows.now args.m args.wire.0 n e in
    written_as (written_then put-token.ensures put-bounds.ensures)
    (cut-part _ _ _ name-now.ensures _ _ args.low args.count at_n (λ q. if3.false (q ∙ sym column.ensures)))

pub shape_of-out : goal.shape_of-out
shape_of-out c = (returns c).kept
