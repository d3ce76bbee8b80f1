use mathlib.Core.Path.{ap}
use native.Mathlib.Omega.{arith}
use Rattle.std.specs.Result.{is_ok}
use Rattle.session.proofs.CallLaws.{rename-refused, rename-fits, rename-done}
use Rattle.session.proofs.rename_open.Goals as goal

pub returns-in-Err : goal.returns-in-Err
returns-in-Err c =
    rename-refused c.requires (record { module_number = c.args.m.0; wire_number = c.args.w.0; new_name = c.args.new.now }) _
    c.judge_rename.ensures _ c.in-Err.is

pub overflow_add-place : goal.overflow_add-place
overflow_add-place c =
    let f = rename-fits c.requires (record { module_number = c.args.m.0; wire_number = c.args.w.0; new_name = c.args.new.now }) _
    c.judge_rename.ensures (ap is_ok c.in_default.is) in
    omega arith

pub put_rename-requires : goal.put_rename-requires
put_rename-requires c =
    let f = rename-fits c.requires (record { module_number = c.args.m.0; wire_number = c.args.w.0; new_name = c.args.new.now }) _
    c.judge_rename.ensures (ap is_ok c.in_default.is) in
    (omega arith, omega arith, omega arith)

pub overflow_add-result : goal.overflow_add-result
overflow_add-result c =
    let f = rename-fits c.requires (record { module_number = c.args.m.0; wire_number = c.args.w.0; new_name = c.args.new.now }) _
    c.judge_rename.ensures (ap is_ok c.in_default.is) in
    omega arith

pub overflow_cast-result : goal.overflow_cast-result
overflow_cast-result c =
    let f = rename-fits c.requires (record { module_number = c.args.m.0; wire_number = c.args.w.0; new_name = c.args.new.now }) _
    c.judge_rename.ensures (ap is_ok c.in_default.is) in
    omega arith

pub overflow_add-result-2 : goal.overflow_add-result-2
overflow_add-result-2 c =
    let f = rename-fits c.requires (record { module_number = c.args.m.0; wire_number = c.args.w.0; new_name = c.args.new.now }) _
    c.judge_rename.ensures (ap is_ok c.in_default.is) in
    omega arith

pub returns : goal.returns
returns c =
    rename-done c.requires (record { module_number = c.args.m.0; wire_number = c.args.w.0; new_name = c.args.new.now }) _
    c.judge_rename.ensures (ap is_ok c.in_default.is) _ _ c.put_rename.ensures.names_after c.put_rename.ensures.rows_after
