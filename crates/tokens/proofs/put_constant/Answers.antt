-- By the constant: the row is its words.
use native.Mathlib.Omega.{arith}
use Rattle.tokens.specs.Rows.{constant_words, sign_word}
use Rattle.tokens.proofs.put_constant.Goals as goal
use Rattle.tokens.proofs.put_constant.Goals.{else-z, then-z}

pub put_row-requires : goal.put_row-requires
put_row-requires c = let s = rw c.in-Integer.is at c.requires.1 in (c.requires.0, s.0, s.1, (elim c.if-z.branch [ then-z w ↦ omega arith | else-z w ↦ omega arith ]))

pub put_row-requires-in-Value : goal.put_row-requires-in-Value
put_row-requires-in-Value c = let s = rw c.in-Value.is at c.requires.1 in (c.requires.0, s.0, s.1, s.2)

pub put_row-requires-in-Text : goal.put_row-requires-in-Text
put_row-requires-in-Text c = let s = rw c.in-Text.is at c.requires.1 in (c.requires.0, s, omega arith, omega arith)

pub returns-after-z : goal.returns-after-z
unfolding constant_words sign_word
returns-after-z c = rw c.in-Integer.is ((elim c.if-z.branch [ then-z w ↦ rw w.if-z.true (rw w.sign-is at c.put_row.ensures) | else-z w ↦ rw w.if-z.false (rw w.sign-is at c.put_row.ensures) ]))

pub returns-in-Value : goal.returns-in-Value
unfolding constant_words
returns-in-Value c = rw c.in-Value.is c.put_row-in-Value.ensures

pub returns-in-Text : goal.returns-in-Text
unfolding constant_words
returns-in-Text c = rw c.in-Text.is c.put_row-in-Text.ensures
