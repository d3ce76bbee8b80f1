use native.Mathlib.Omega.{arith}
use Rattle.session.proofs.CallLaws.{undo-refused, undo-fits, undo-done}
use Rattle.session.proofs.undo_open.Goals as goal

pub returns-then-renames-eq0 : goal.returns-then-renames-eq0
returns-then-renames-eq0 c = undo-refused c.requires c.if-renames-eq0.true

pub overflow_add-place : goal.overflow_add-place
overflow_add-place c = let f = undo-fits c.requires c.if-renames-eq0.false in omega arith

pub take_rename-start-requires : goal.take_rename-start-requires
take_rename-start-requires c = let f = undo-fits c.requires c.if-renames-eq0.false in (f.2, f.3, f.4)

pub returns : goal.returns
returns c =
    let pre = c.requires in
    let if1 = c.if-renames-eq0 in
    let take-rename = c.take_rename-start in
    undo-done pre if1.false _ _ _ take-rename.ensures.r_value take-rename.ensures.names_after
    take-rename.ensures.rows_after
