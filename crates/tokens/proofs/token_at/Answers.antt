-- The four words are inside the table, and the tests of the first are those of `token_of`.
use Prim.Native.Nat.{◌+◌, ◌*◌}
use native.Mathlib.Omega.{arith}
use borrow.Author.Tests.{lt-ltb, le-ltb, eq-eqb, ne_eqb}
use Rattle.tokens.specs.Rows.{token_at, row_of, token_of}
use Rattle.tokens.proofs.token_at.Goals as goal

pub returns-then-tokens-i : goal.returns-then-tokens-i
unfolding token_at
returns-then-tokens-i c = rw (le-ltb _ _ c.if-tokens-i.true)

pub overflow_cast-k : goal.overflow_cast-k
overflow_cast-k c = omega (arith, c.type_inv.tokens (4 * c.args.i))

pub overflow_cast-a : goal.overflow_cast-a
overflow_cast-a c = omega (arith, c.type_inv.tokens (4 * c.args.i + 1))

pub overflow_cast-b : goal.overflow_cast-b
overflow_cast-b c = omega (arith, c.type_inv.tokens (4 * c.args.i + 2))

pub overflow_cast-c : goal.overflow_cast-c
overflow_cast-c c = omega (arith, c.type_inv.tokens (4 * c.args.i + 3))

pub returns-then-k-eq-NAME_READ : goal.returns-then-k-eq-NAME_READ
unfolding token_at row_of token_of
returns-then-k-eq-NAME_READ c = rw (lt-ltb _ _ c.if-tokens-i.false, eq-eqb _ _ c.if-k-eq-NAME_READ.true)

pub returns-then-k-eq-WORD_READ : goal.returns-then-k-eq-WORD_READ
unfolding token_at row_of token_of
returns-then-k-eq-WORD_READ c = rw (lt-ltb _ _ c.if-tokens-i.false, ne_eqb _ _ c.if-k-eq-NAME_READ.false, eq-eqb _ _ c.if-k-eq-WORD_READ.true)

pub returns-then-k-eq-INTEGER_READ : goal.returns-then-k-eq-INTEGER_READ
unfolding token_at row_of token_of
returns-then-k-eq-INTEGER_READ c = rw (lt-ltb _ _ c.if-tokens-i.false, ne_eqb _ _ c.if-k-eq-NAME_READ.false, ne_eqb _ _ c.if-k-eq-WORD_READ.false, eq-eqb _ _ c.if-k-eq-INTEGER_READ.true)

pub returns-then-k-eq-VALUE_READ : goal.returns-then-k-eq-VALUE_READ
unfolding token_at row_of token_of
returns-then-k-eq-VALUE_READ c = rw (lt-ltb _ _ c.if-tokens-i.false, ne_eqb _ _ c.if-k-eq-NAME_READ.false, ne_eqb _ _ c.if-k-eq-WORD_READ.false, ne_eqb _ _ c.if-k-eq-INTEGER_READ.false, eq-eqb _ _ c.if-k-eq-VALUE_READ.true)

pub returns-then-k-eq-TEXT_READ : goal.returns-then-k-eq-TEXT_READ
unfolding token_at row_of token_of
returns-then-k-eq-TEXT_READ c = rw (lt-ltb _ _ c.if-tokens-i.false, ne_eqb _ _ c.if-k-eq-NAME_READ.false, ne_eqb _ _ c.if-k-eq-WORD_READ.false, ne_eqb _ _ c.if-k-eq-INTEGER_READ.false, ne_eqb _ _ c.if-k-eq-VALUE_READ.false, eq-eqb _ _ c.if-k-eq-TEXT_READ.true)

pub returns : goal.returns
unfolding token_at row_of token_of
returns c = rw (lt-ltb _ _ c.if-tokens-i.false, ne_eqb _ _ c.if-k-eq-NAME_READ.false, ne_eqb _ _ c.if-k-eq-WORD_READ.false, ne_eqb _ _ c.if-k-eq-INTEGER_READ.false, ne_eqb _ _ c.if-k-eq-VALUE_READ.false, ne_eqb _ _ c.if-k-eq-TEXT_READ.false)
