-- The loop's invariant: the rows before k are written, but for attributes that wait, and no level is too deep.
-- Assumes nothing.
use Prim.Native.Nat.{◌<◌}
use native.Mathlib.Omega.{arith}
use Rattle.text.specs.Written.{written-most}
use Rattle.text.specs.Reaches.{reaches-start, reaches-next, reaches_end}
use Rattle.process_text.specs.Rows.{closes}
use Rattle.process_text.specs.RowLaws.{level-shallow, shallow-next, inside-next, inside-closed, inside-none}
use Rattle.process_text.proofs.put_inside.Goals as goal

pub loop-k-init : goal.loop-k-init
loop-k-init c = (record { opened = omega arith; level = omega arith }, reaches-start _ _ _ c.requires.0)

pub row_kind-kind-requires : goal.row_kind-kind-requires
row_kind-kind-requires c = tt

pub step_at-step-requires : goal.step_at-step-requires
step_at-step-requires c = tt

pub returns-then-kind-z : goal.returns-then-kind-z
unfolding closes
returns-then-kind-z c = reaches_end c.loop-k.invariant.1 (inside-closed _ _ c.loop-k.z _ _ _ _ c.row_kind-kind.ensures (omega arith) c.if-kind-z.true)

pub shape_of-out-then-kind-z : goal.shape_of-out-then-kind-z
shape_of-out-then-kind-z c = (returns-then-kind-z c).kept

pub level_of-level-requires : goal.level_of-level-requires
level_of-level-requires c = tt

pub put_row-end-requires : goal.put_row-end-requires
put_row-end-requires c =
    let loop = c.loop-k in
    let a = loop.invariant.0.opened in
    let b = level-shallow loop.z loop.k c.row_kind-kind.result c.step_at-step.result loop.invariant.0 in
    (written-most loop.invariant.1.written, c.requires.1, omega (arith, c.level_of-level.ensures), omega arith)

pub behind-z-requires : goal.behind-z-requires
behind-z-requires c =
    let loop = c.loop-k in
    let a = loop.invariant.0.opened in
    let b = loop.invariant.0.level in
    (omega arith, omega arith)

pub loop-k-preserved : goal.loop-k-preserved
unfolding closes
loop-k-preserved c =
    let args = c.args in
    let loop = c.loop-k in
    let below : loop.k < args.to = omega arith in
    let row-kind = c.row_kind-kind in
    let step-at = c.step_at-step in
    let if1 = c.if-kind-z in
    let level-of = c.level_of-level in
    let put-row = c.put_row-end in
    let behind = c.behind-z in (
      shallow-next loop.z _ loop.k _ _ behind.ensures loop.invariant.0,
      reaches-next loop.invariant.1 put-row.ensures
          (inside-next _ _ loop.z loop.first loop.k _ _ _ row-kind.ensures step-at.ensures _ _ _ below if1.false level-of.ensures behind.ensures c.waiting_from-first.ensures),
    )

pub shape_of-out : goal.shape_of-out
shape_of-out c = c.loop-k.invariant.1.written.kept

pub returns : goal.returns
returns c = reaches_end c.loop-k.invariant.1 (inside-none _ _ _ _ _ _ (omega arith))
