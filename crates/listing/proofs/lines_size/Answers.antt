-- The loop's invariant: the size of the lines of the first w wires.
use mathlib.Core.Path.{◌≡◌, refl, ap, ◌∙◌}
use Prim.Native.Nat.{ℕ, ◌+◌}
use native.Mathlib.Omega.{arith}
use lib.ListN.{length}
use Rattle.listing.specs.Lines.{lines_at}
use Rattle.listing.proofs.LineLaws.{size-more, lines-most}
use Rattle.listing.proofs.lines_size.Goals as goal

pub loop-w-init : goal.loop-w-init
unfolding lines_at
loop-w-init c = refl

pub line_size-size-requires : goal.line_size-size-requires
line_size-size-requires c = record {
  w_bound = omega (arith, c.requires);
  names_len = c.requires.names_len;
}

pub overflow_add-size : goal.overflow_add-size
overflow_add-size c =
    let args = c.args in
    let loop = c.loop-w in
    let pre = c.requires in
    omega (arith, pre, size-more args.design.now.names.now args.design.now.strings.now args.design.now.wires.now args.design.now.rows.now args.m loop.w loop.size _ loop.invariant c.line_size-size.ensures, lines-most args.design.now.names.now args.design.now.strings.now args.design.now.wires.now args.design.now.rows.now args.m pre.names_len.0 pre.names_len.1 (loop.w + 1))

pub loop-w-preserved : goal.loop-w-preserved
loop-w-preserved c =
    let args = c.args in
    let loop = c.loop-w in
    size-more args.design.now.names.now args.design.now.strings.now args.design.now.wires.now args.design.now.rows.now args.m loop.w loop.size _ loop.invariant c.line_size-size.ensures

pub returns : goal.returns
returns c =
    let args = c.args in
    let loop = c.loop-w in
    let e : loop.w ≡ args.m.wires = omega arith in
    loop.invariant ∙ ap (λ (k : ℕ). length (lines_at args.design.now.names.now args.design.now.strings.now args.design.now.wires.now args.design.now.rows.now args.m k)) e
