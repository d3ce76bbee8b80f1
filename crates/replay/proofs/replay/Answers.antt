-- The invariant: every list of statements that the tables hold begins with those replayed, and their names are indexed.
-- Assumes nothing.
use Prim.Native.Nat.{◌-◌}
use mathlib.Core.Path.{refl, sym, ap, ◌∙◌}
use native.Mathlib.Omega.{arith}
use Rattle.name_index.specs.IndexLaws.{indexed-upto}
use Rattle.context.specs.Place.{place_of}
use Rattle.context.specs.declared.place.Place.{Place}
use Rattle.replay.specs.Begins.{IndexLeft}
use Rattle.replay.proofs.LoopLaws.{done-start, done-ready, done_over, done_stuck, done_next, next-rows, index_over}
use Rattle.replay.proofs.replay.Goals as goal

pub loop-row-init : goal.loop-row-init
unfolding place_of
loop-row-init c = record {
  done = done-start _ _ _ _ c.start.ensures c.none.ensures;
  indexed = indexed-upto (ap (λ (p : Place). p.rows) c.start.ensures) c.requires.indexed;
}

pub one_more-requires-clause-ready : goal.one_more-requires-clause-ready
one_more-requires-clause-ready c = done-ready _ _ _ _ c.loop-row.invariant.done

pub index_row-requires-clause-row_in_bounds : goal.index_row-requires-clause-row_in_bounds
index_row-requires-clause-row_in_bounds c =
    let few = (done-ready _ _ _ _ c.loop-row.invariant.done).few in
    (omega (arith, few, c.requires.row_room_in_bounds, c.loop-row.auto.chain), omega (arith, few))

pub loop-row-smaller : goal.loop-row-smaller
loop-row-smaller c =
    let done = c.loop-row.invariant.done in
    omega (arith, (done-ready _ _ _ _ done).few, next-rows _ _ _ _ done _ c.word.ensures (sym c.is_statement.ensures ∙ c.loop-row-test.true) _ _ c.one_more.ensures c.in_ok-behind.was)

pub loop-row-preserved : goal.loop-row-preserved
loop-row-preserved c =
    let done = c.loop-row.invariant.done in
    let on = sym c.is_statement.ensures ∙ c.loop-row-test.true in
    record {
      done = done_next _ _ _ _ done _ c.word.ensures on _ _ c.one_more.ensures c.in_ok-behind.was;
      indexed = indexed-upto (next-rows _ _ _ _ done _ c.word.ensures on _ _ c.one_more.ensures c.in_ok-behind.was) c.index_row.ensures.indexed_2;
    }

pub returns-in_err-behind : goal.returns-in_err-behind
unfolding IndexLeft
returns-in_err-behind c = rw c.from_residual.ensures record {
  replays = done_stuck _ _ _ _ c.loop-row.invariant.done _ c.word.ensures (sym c.is_statement.ensures ∙ c.loop-row-test.true) _ c.one_more.ensures c.in_err-behind.was;
  index_left = tt;
}

pub returns : goal.returns
returns c = rw c.then_some.ensures record {
  replays = done_over _ _ _ _ c.loop-row.invariant.done _ c.word.ensures (sym c.is_statement.ensures ∙ c.loop-row-test.false) _ c.is_closed.ensures;
  index_left = index_over _ _ _ _ c.loop-row.behind c.loop-row.invariant.indexed _;
}
