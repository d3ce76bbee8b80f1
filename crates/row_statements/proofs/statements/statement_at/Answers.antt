-- By the row's kind.
-- Assumes nothing.
use Rattle.row_statements.specs.Reads.{statement_by}
use Rattle.row_statements.proofs.KindLaws.{by_kind, other-kind, attribute-told, module-told, process-told}
use Rattle.row_statements.proofs.statements.statement_at.Goals as goal

pub returns-in-1 : goal.returns-in-1
unfolding statement_by
returns-in-1 c = by_kind _ _ _ _ _ 1 c.in-1.is (c.autoidx_at.ensures _ _)

pub returns-in-2 : goal.returns-in-2
unfolding statement_by
returns-in-2 c = by_kind _ _ _ _ _ 2 c.in-2.is (attribute-told _ _ _ _ _ _ c.valued.ensures _ _)

pub returns-in-3 : goal.returns-in-3
unfolding statement_by
returns-in-3 c = by_kind _ _ _ _ _ 3 c.in-3.is (module-told _ _ _ _ c.named.ensures _ _ _ _)

pub returns-in-4 : goal.returns-in-4
unfolding statement_by
returns-in-4 c = by_kind _ _ _ _ _ 4 c.in-4.is (c.parameter_at.ensures _ _)

pub returns-in-5 : goal.returns-in-5
unfolding statement_by
returns-in-5 c = by_kind _ _ _ _ _ 5 c.in-5.is (c.wire_at.ensures _ _)

pub returns-in-6 : goal.returns-in-6
unfolding statement_by
returns-in-6 c = by_kind _ _ _ _ _ 6 c.in-6.is (c.memory_at.ensures _ _ _ _)

pub returns-in-7 : goal.returns-in-7
unfolding statement_by
returns-in-7 c = by_kind _ _ _ _ _ 7 c.in-7.is (c.cell_at.ensures _ _ _ _)

pub returns-in-8 : goal.returns-in-8
unfolding statement_by
returns-in-8 c = by_kind _ _ _ _ _ 8 c.in-8.is (c.cell_parameter_at.ensures _ _)

pub returns-in-9 : goal.returns-in-9
unfolding statement_by
returns-in-9 c = by_kind _ _ _ _ _ 9 c.in-9.is (c.cell_connection_at.ensures _)

pub returns-in-10 : goal.returns-in-10
unfolding statement_by
returns-in-10 c = by_kind _ _ _ _ _ 10 c.in-10.is (c.connection_at.ensures _ _)

pub returns-in-11 : goal.returns-in-11
unfolding statement_by
returns-in-11 c = by_kind _ _ _ _ _ 11 c.in-11.is (process-told _ _ _ _ c.named-in-11.ensures _ _ _ _)

pub returns-in-13 : goal.returns-in-13
unfolding statement_by
returns-in-13 c = by_kind _ _ _ _ _ 13 c.in-13.is (c.step_at.ensures _ _)

pub returns-in_default : goal.returns-in_default
returns-in_default c = other-kind _ _ _ _ _ c.in_default.in_default-own.rest.0.0.0.0.0.0.0.0.0.0.0.1 c.in_default.in_default-own.rest.0.0.0.0.0.0.0.0.0.0.1 c.in_default.in_default-own.rest.0.0.0.0.0.0.0.0.0.1 c.in_default.in_default-own.rest.0.0.0.0.0.0.0.0.1 c.in_default.in_default-own.rest.0.0.0.0.0.0.0.1 c.in_default.in_default-own.rest.0.0.0.0.0.0.1 c.in_default.in_default-own.rest.0.0.0.0.0.1 c.in_default.in_default-own.rest.0.0.0.0.1 c.in_default.in_default-own.rest.0.0.0.1 c.in_default.in_default-own.rest.0.0.1 c.in_default.in_default-own.rest.0.1 c.in_default.in_default-own.rest.1 (c.end_at.ensures _ _)
