-- The loop's invariant: the lines of the first w wires are put.
use mathlib.Core.Path.{◌≡◌, ap}
use Prim.Native.Nat.{ℕ, ◌<◌}
use native.Mathlib.Omega.{arith}
use Rattle.plain.specs.Put.{put-none, put-kept, put_then, put_as}
use Rattle.listing.specs.Lines.{lines_at}
use Rattle.listing.proofs.LineLaws.{lines_more, lines_fit}
use Rattle.listing.proofs.put_lines.Goals as goal

pub loop-w-init : goal.loop-w-init
unfolding lines_at
loop-w-init c = put-none 0 c.args.out.now

pub put_line-end-requires : goal.put_line-end-requires
put_line-end-requires c =
    let args = c.args in
    let loop = c.loop-w in
    let pre = c.requires in
    let inside : loop.w < args.m.wires = omega arith in
    record {
      w_bound = omega (arith, pre);
      w_in_bounds = omega (arith, pre, loop.invariant.place, put-kept loop.invariant, lines_fit args.design.now.names.now args.design.now.strings.now args.design.now.wires.now args.design.now.rows.now args.m loop.w args.m.wires inside);
    }

pub loop-w-preserved : goal.loop-w-preserved
loop-w-preserved c =
    let args = c.args in
    let loop = c.loop-w in
    put_as (put_then loop.invariant c.put_line-end.ensures) (lines_more args.design.now.names.now args.design.now.strings.now args.design.now.wires.now args.design.now.rows.now args.m loop.w)

pub shape_of-out : goal.shape_of-out
shape_of-out c = put-kept c.loop-w.invariant

pub returns : goal.returns
returns c =
    let args = c.args in
    let loop = c.loop-w in
    let e : loop.w ≡ args.m.wires = omega arith in
    put_as loop.invariant (ap (λ (k : ℕ). lines_at args.design.now.names.now args.design.now.strings.now args.design.now.wires.now args.design.now.rows.now args.m k) e)
