-- The loop's invariant: the digits from i on are written, the highest first.
use Prim.Native.Nat.{◌-◌}
use native.Mathlib.Omega.{arith}
use lib.Seq.{drop-length}
use Rattle.text.specs.Written.{written_none, written-most, written_then, written_as}
use Rattle.constant_text.proofs.DigitLaws.{digits_more}
use Rattle.constant_text.proofs.put_digits.Goals as goal

pub loop-i-init : goal.loop-i-init
loop-i-init c = (omega arith, rw (drop-length c.args.bits.now) (written_none c.args.at c.args.out.now c.requires))

pub put_byte-end-requires : goal.put_byte-end-requires
put_byte-end-requires c = written-most c.loop-i.invariant.1

pub loop-i-preserved : goal.loop-i-preserved
loop-i-preserved c =
    let l = c.loop-i in
    let b = c.args.bits.now in
    (omega arith, written_as (written_then l.invariant.1 c.put_byte-end.ensures) (digits_more b l.i (l.i - 1) c.digit_byte.result (omega arith) (omega arith) c.digit_byte.ensures))
