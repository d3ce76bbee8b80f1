-- By the token: the row is its words.
use native.Mathlib.Omega.{arith}
use Rattle.tokens.specs.Rows.{row_words}
use Rattle.tokens.proofs.put_token.Goals as goal

pub put_row-requires : goal.put_row-requires
put_row-requires c = let s = rw c.in-Name.is at c.requires.1 in (c.requires.0, s.0, s.1, omega arith)

pub put_row-requires-in-Word : goal.put_row-requires-in-Word
put_row-requires-in-Word c = let s = rw c.in-Word.is at c.requires.1 in (c.requires.0, s, omega arith, omega arith)

pub put_constant-requires : goal.put_constant-requires
put_constant-requires c = (c.requires.0, rw c.in-Constant.is at c.requires.1)

pub put_row-requires-in-Mark : goal.put_row-requires-in-Mark
put_row-requires-in-Mark c = let s = rw c.in-Mark.is at c.requires.1 in (c.requires.0, s, omega arith, omega arith)

pub returns-in-Name : goal.returns-in-Name
unfolding row_words
returns-in-Name c = rw c.in-Name.is c.put_row.ensures

pub returns-in-Word : goal.returns-in-Word
unfolding row_words
returns-in-Word c = rw c.in-Word.is c.put_row-in-Word.ensures

pub returns-in-Constant : goal.returns-in-Constant
unfolding row_words
returns-in-Constant c = rw c.in-Constant.is c.put_constant.ensures

pub returns-in-Mark : goal.returns-in-Mark
unfolding row_words
returns-in-Mark c = rw c.in-Mark.is c.put_row-in-Mark.ensures

pub returns-in-End : goal.returns-in-End
unfolding row_words
returns-in-End c = rw c.in-End.is c.put_row-in-End.ensures
