-- The loop's invariant: the words of src from j to `to` are stored, last first.
use mathlib.Core.Path.{◌≡◌, sym}
use Prim.Native.Nat.{◌-◌}
use native.Mathlib.Omega.{arith}
use lib.Seq.{slice_empty}
use Rattle.tables.specs.Store.{store-none}
use Rattle.tables.proofs.TurnLaws.{reversed}
use Rattle.tables.proofs.reverse_words.Goals as goal

pub loop-j-init : goal.loop-j-init
loop-j-init c = record { within = omega arith; stored = rw (slice_empty, store-none) }

pub loop-j-preserved : goal.loop-j-preserved
loop-j-preserved c =
    record {
      within = omega arith;
      stored = reversed _ c.args.src.now _ c.args.at c.args.to _ _ _ c.loop-j.invariant.stored (omega arith) (omega arith) (omega arith) (omega arith);
    }

pub returns : goal.returns
returns c =
    let e : c.loop-j.j ≡ c.args.from = omega arith in
    rw e at c.loop-j.invariant.stored
