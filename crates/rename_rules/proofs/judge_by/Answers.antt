-- The tests in the order of `number_by`.
-- Assumes nothing.
use mathlib.Core.Path.{sym, ◌∙◌}
use native.Mathlib.Omega.{arith}
use borrow.Author.Tests.{le-leb, lt-leb, not-false}
use Rattle.rename_rules.specs.Judged.{refusal, number_by}
use Rattle.lists.specs.Bytes.{legal-short}
use Rattle.rename_rules.proofs.judge_by.Goals as goal

pub returns-then-not-legal : goal.returns-then-not-legal
unfolding refusal number_by
returns-then-not-legal c = rw (← c.legal.ensures, c.if-not-legal.true-raw)

pub returns-then-m-wire : goal.returns-then-m-wire
unfolding refusal number_by
returns-then-m-wire c = rw (← c.legal.ensures, c.if-not-legal.false-raw, le-leb c.args.m.wires c.args.w.0 (omega arith))

pub returns-then-is_port : goal.returns-then-is_port
unfolding refusal number_by
returns-then-is_port c =
    let args = c.args in
    let legal = c.legal in
    let if1 = c.if-not-legal in
    rw
    (← legal.ensures, if1.false-raw, lt-leb args.m.wires args.w.0 (omega arith), ← c.is_port.ensures, c.if-is_port.true)

pub returns-then-taken : goal.returns-then-taken
unfolding refusal number_by
returns-then-taken c =
    let args = c.args in
    let legal = c.legal in
    let if1 = c.if-not-legal in
    let is-port = c.is_port in
    rw
    (← legal.ensures, if1.false-raw, lt-leb args.m.wires args.w.0 (omega arith), ← is-port.ensures, c.if-is_port.false, c.if-taken.true)

pub exceeds_room-requires : goal.exceeds_room-requires
exceeds_room-requires c =
    let args = c.args in
    let legal = c.legal in
    let if1 = c.if-not-legal in
    legal-short args.new.now (sym legal.ensures ∙ not-false _ if1.false-raw)

pub returns-then-exceeds_room : goal.returns-then-exceeds_room
unfolding refusal number_by
returns-then-exceeds_room c =
    let args = c.args in
    let legal = c.legal in
    let if1 = c.if-not-legal in
    let is-port = c.is_port in
    let if3 = c.if-is_port in
    let if4 = c.if-taken in
    rw (
      ← legal.ensures,
      if1.false-raw,
      lt-leb args.m.wires args.w.0 (omega arith),
      ← is-port.ensures,
      if3.false,
      if4.false,
      ← c.exceeds_room.ensures,
      c.if-exceeds_room.true,
    )

pub returns : goal.returns
unfolding refusal number_by
returns c =
    let args = c.args in
    let legal = c.legal in
    let if1 = c.if-not-legal in
    let is-port = c.is_port in
    let if3 = c.if-is_port in
    let if4 = c.if-taken in
    rw (
      ← legal.ensures,
      if1.false-raw,
      lt-leb args.m.wires args.w.0 (omega arith),
      ← is-port.ensures,
      if3.false,
      if4.false,
      ← c.exceeds_room.ensures,
      c.if-exceeds_room.false,
    )
