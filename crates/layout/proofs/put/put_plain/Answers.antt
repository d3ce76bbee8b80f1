-- By the kind.
use native.Mathlib.Omega.{arith}
use Rattle.layout.proofs.Stored.{autoidx-room, end-room, wire-room, memory-room, cell_room, cell-connection-room, connection-room, autoidx-put, end-put, wire-puts, memory-put, cell-put, cell-connection-put, connection-put}
use Rattle.layout.proofs.put.put_plain.Goals as goal

pub put_columns-requires : goal.put_columns-requires
put_columns-requires c =
    let args = c.args in
    let pre = c.requires in
    autoidx-room args.f.now args.scratch.now args.statement args.u args.names.now
    args.bits.now args.wires.now args.rows.now pre _ c.in-Autoidx.is

pub put_wire-requires : goal.put_wire-requires
put_wire-requires c =
    let args = c.args in
    let pre = c.requires in
    let whole = wire-room args.f.now args.scratch.now args.statement args.u args.names.now args.bits.now
    args.wires.now args.rows.now pre _ _ _ _ _ c.in-Wire.is in
    record {
      fits = whole.0;
      wires_in_bounds = whole.1.0;
      rows_in_bounds = whole.1.1;
    }

pub put_memory-requires : goal.put_memory-requires
put_memory-requires c =
    let args = c.args in
    let pre = c.requires in
    let whole = memory-room args.f.now args.scratch.now args.statement args.u args.names.now
    args.bits.now args.wires.now args.rows.now pre _ _ _ _ c.in-Memory.is in
    record {
      fits = whole.0;
      rows_in_bounds = whole.1;
    }

pub put_cell-requires : goal.put_cell-requires
put_cell-requires c =
    let args = c.args in
    let pre = c.requires in
    let whole = cell_room args.f.now args.scratch.now args.statement args.u args.names.now args.bits.now
    args.wires.now args.rows.now pre _ _ c.in-Cell.is in
    record {
      fits = whole.0;
      rows_in_bounds = whole.1;
    }

pub put_cell_connection-requires : goal.put_cell_connection-requires
put_cell_connection-requires c =
    let args = c.args in
    let pre = c.requires in
    let whole = cell-connection-room args.f.now args.scratch.now args.statement args.u args.names.now
    args.bits.now args.wires.now args.rows.now pre _ _ _ c.in-CellConnection.is in
    record {
      fits = whole.0;
      width_in_bounds = whole.1.0;
      fits_2 = whole.1.1.0;
      rows_in_bounds = whole.1.1.1;
    }

pub put_connection-requires : goal.put_connection-requires
put_connection-requires c =
    let args = c.args in
    let pre = c.requires in
    let whole = connection-room args.f.now args.scratch.now args.statement args.u args.names.now
    args.bits.now args.wires.now args.rows.now pre _ _ _ c.in-Connection.is in
    record {
      left_le_most_width = whole.0;
      fits = whole.1.0;
      rows_in_bounds = whole.1.1;
    }

pub put_columns-requires-in-End : goal.put_columns-requires-in-End
put_columns-requires-in-End c =
    let args = c.args in
    let pre = c.requires in
    end-room args.f.now args.scratch.now args.statement args.u args.names.now args.bits.now
    args.wires.now args.rows.now pre c.in-End.is

pub returns-in-Autoidx : goal.returns-in-Autoidx
returns-in-Autoidx c =
    let args = c.args in
    let put-columns = c.put_columns in
    autoidx-put args.f.now args.scratch.now args.statement args.u _ _ _ _ _ _
    (omega arith) c.in-Autoidx.is put-columns.ensures

pub returns-in-Wire : goal.returns-in-Wire
returns-in-Wire c =
    let args = c.args in
    let pre = c.requires in
    let put-wire = c.put_wire in
    wire-puts args.f.now args.scratch.now args.statement args.u _ _ _ _ _ _ _ _ _ _ _ _
    (omega arith) c.in-Wire.is pre.sound put-wire.ensures

pub returns-in-Memory : goal.returns-in-Memory
returns-in-Memory c =
    let args = c.args in
    let put-memory = c.put_memory in
    memory-put args.f.now args.scratch.now args.statement args.u _ _ _ _ _ _ _ _ _ _
    (omega arith) c.in-Memory.is put-memory.ensures.names_after put-memory.ensures.rows_after

pub returns-in-Cell : goal.returns-in-Cell
returns-in-Cell c =
    let args = c.args in
    let put-cell = c.put_cell in
    cell-put args.f.now args.scratch.now args.statement args.u _ _ _ _ _ _ _ _ c.in-Cell.is
    put-cell.ensures.names_after put-cell.ensures.rows_after

pub returns-in-CellConnection : goal.returns-in-CellConnection
returns-in-CellConnection c =
    let args = c.args in
    let put-cell-connection = c.put_cell_connection in
    cell-connection-put args.f.now args.scratch.now args.statement args.u _ _ _ _ _ _ _ _ _ _
    c.in-CellConnection.is put-cell-connection.ensures.names_after put-cell-connection.ensures.bits_after
    put-cell-connection.ensures.rows_after

pub returns-in-Connection : goal.returns-in-Connection
returns-in-Connection c =
    let args = c.args in
    let put-connection = c.put_connection in
    connection-put args.f.now args.scratch.now args.statement args.u _ _ _ _ _ _ _ _ _
    c.in-Connection.is put-connection.ensures.bits_after put-connection.ensures.rows_after

pub returns-in-End : goal.returns-in-End
returns-in-End c =
    let args = c.args in
    let put-columns2 = c.put_columns-in-End in
    end-put args.f.now args.scratch.now args.statement args.u _ _ _ _ _ c.in-End.is
    put-columns2.ensures
