-- `index_line` meets its contract.
-- Assumes nothing.
use mathlib.Core.Path.{◌∙◌, ap}
use native.Mathlib.Omega.{arith}
use Rattle.wires.specs.Rows.{name_of}
use Rattle.name_index.specs.HashLaws.{hash-less}
use Rattle.name_index.specs.Index.{hash_of, wire_key}
use Rattle.name_index.specs.LineLaws.{row_fits, line_row, wire-fits, line-wire, line_plain, line-declared}
use Rattle.name_index.proofs.index_line.Goals as goal

-- src/lib.rt:154:5
pub put-requires : goal.put-requires
put-requires c =
    let pre = c.requires in
    let row-key = c.row_key-key in
    (row_fits _ _ _ _ _ _ _ pre.lines_indexed _ row-key.ensures, omega (arith, pre.lines_indexed.chain-long, pre.row_lt_row_room.0))

-- src/lib.rt:156:9
pub returns-then-kind-ne-WIRE_KIND : goal.returns-then-kind-ne-WIRE_KIND
returns-then-kind-ne-WIRE_KIND c =
    let pre = c.requires in
    let row-key = c.row_key-key in
    let put = c.put in
    line_plain _ _ c.if-kind-ne-WIRE_KIND.true
    (line_row _ _ _ _ _ _ _ pre.lines_indexed _ row-key.ensures pre.row_lt_row_room.0 _ _ put.ensures.0 put.ensures.1)

-- src/lib.rt:159:36
pub overflow_add-g : goal.overflow_add-g
overflow_add-g c = omega (arith, c.hash-g.ensures, hash-less c.bytes_at.result.now)

-- src/lib.rt:159:5
pub put-requires-2 : goal.put-requires-2
unfolding wire_key name_of
put-requires-2 c =
    let pre = c.requires in
    let row-key = c.row_key-key in
    let put = c.put in
    let bytes-at = c.bytes_at in
    let hash = c.hash-g in (
      wire-fits _ _ _ _ _ _ _
          (line_row _ _ _ _ _ _ _ pre.lines_indexed _ row-key.ensures pre.row_lt_row_room.0 _ _ put.ensures.0 put.ensures.1) _
          (hash.ensures ∙ ap hash_of bytes-at.ensures),
      omega
          (arith, (line_row _ _ _ _ _ _ _ pre.lines_indexed _ row-key.ensures pre.row_lt_row_room.0 _ _ put.ensures.0 put.ensures.1).chain-long, pre.row_lt_row_room.0),
    )

-- src/lib.rt:139:1
pub returns : goal.returns
unfolding wire_key name_of
returns c =
    let pre = c.requires in
    let row-key = c.row_key-key in
    let put = c.put in
    let if1 = c.if-kind-ne-WIRE_KIND in
    let bytes-at = c.bytes_at in
    let hash = c.hash-g in
    let put2 = c.put-2 in
    line-declared _ _ if1.false
    (line-wire _ _ _ _ _ _ _
    (line_row _ _ _ _ _ _ _ pre.lines_indexed _ row-key.ensures pre.row_lt_row_room.0 _ _ put.ensures.0 put.ensures.1) _
    (hash.ensures ∙ ap hash_of bytes-at.ensures) (omega (arith, pre.row_lt_row_room.0)) pre.row_lt_row_room.1 _ _ put2.ensures.0
    put2.ensures.1)
