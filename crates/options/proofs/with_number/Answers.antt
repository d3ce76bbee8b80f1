-- One number changes, no flag does.
-- Assumes nothing.
use native.Mathlib.Omega.{arith}
use Rattle.options.proofs.Held.{took_number, took_other}
use Rattle.options.proofs.with_number.Goals as goal

pub returns-in-7 : goal.returns-in-7
returns-in-7 c f = took_number f _ _ _ _ c.requires c.twice.ensures 7 c.in-7.is

pub returns-in-8 : goal.returns-in-8
returns-in-8 c f = took_number f _ _ _ _ c.requires c.twice.ensures 8 c.in-8.is

pub returns-in-15 : goal.returns-in-15
returns-in-15 c f = took_number f _ _ _ _ c.requires c.twice.ensures 15 c.in-15.is

pub returns-in-9 : goal.returns-in-9
returns-in-9 c f = took_number f _ _ _ _ c.requires c.twice.ensures 9 c.in-9.is

pub returns-in-10 : goal.returns-in-10
returns-in-10 c f = took_number f _ _ _ _ c.requires c.twice.ensures 10 c.in-10.is

pub returns-in-11 : goal.returns-in-11
returns-in-11 c f = took_number f _ _ _ _ c.requires c.twice.ensures 11 c.in-11.is

pub returns-in_default : goal.returns-in_default
returns-in_default c f = took_other f _ _ _ _ c.requires c.twice.ensures (omega arith) (omega arith) (omega arith) (omega arith) (omega arith) (omega arith)
