use Rattle.netlist.specs.Used.{used_of}
use borrow.Author.Tests.{not-true, not-false}
use Rattle.row_statements.specs.Reads.{part_tables}
use Rattle.replay.proofs.TurnLaws.{small-used, wires-fit, turn-short, turn-line, turn-not, turn-told, turn-counted}
use Rattle.replay.proofs.turns.one_more.Goals as goal

pub returns-then-design-at : goal.returns-then-design-at
returns-then-design-at c = turn-short _ _ _ _ c.if-design-at.true

pub returns-then-not-line_stands : goal.returns-then-not-line_stands
returns-then-not-line_stands c = turn-line _ _ _ _ _ c.get_row-r.ensures c.line_stands.ensures (not-true _ c.if-not-line_stands.true-raw)

pub counted-requires : goal.counted-requires
counted-requires c =
    let pre = c.requires in
    let args = c.args in
    let get-row = c.get_row-r in
    let used-from = c.used_from-used in
    let statement-at = c.statement_at in record {
      ready = pre.ready;
      told = turn-told (part_tables args.design.now.names.now args.design.now.strings.now args.design.now.bits.now args.design.now.wires.now)
          args.design.now.rows.now args.behind.place args.behind.sums get-row.result get-row.ensures (used_of used-from.result)
          used-from.ensures statement-at.result statement-at.ensures _ c.in_ok-found.was;
      indexed = pre.indexed;
    }

pub returns : goal.returns
returns c =
    let if1 = c.if-design-at in
    let get-row = c.get_row-r in
    let line-stands = c.line_stands in
    let step_of_lem = c.step_of in
    let if2 = c.if-not-line_stands in
    let used-from = c.used_from-used in
    let statement-at = c.statement_at in
    turn-counted _ _ _ _ _ get-row.ensures _ used-from.ensures _ statement-at.ensures _ c.in_ok-found.was
    if1.false line-stands.ensures (not-false _ if2.false-raw) _ step_of_lem.ensures _ (c.counted.ensures _ _ _)

pub returns-in_err-found : goal.returns-in_err-found
returns-in_err-found c = rw c.from_residual.ensures (turn-not _ _ c.args.behind.place c.args.behind.sums _ c.get_row-r.ensures _ c.used_from-used.ensures _ c.statement_at.ensures c.in_err-found.was)
