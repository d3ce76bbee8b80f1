-- `classes` meets its contract: one test that computes, over all entries of the table.
-- Assumes nothing.
use mathlib.Core.Path.{refl}
use Rattle.rules.specs.Bytes.{bytes_open}
use Rattle.scanner.specs.Class.{class_open}
use Rattle.scanner.proofs.class.classes.Goals as goal

pub returns : goal.returns
unfolding class_open bytes_open
returns c = refl
