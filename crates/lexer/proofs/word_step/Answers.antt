-- A run of lowercase letters, if it is a keyword.
use native.Mathlib.Omega.{arith}
use Rattle.lexer.proofs.Steps.{steps-by, ends, ends-past, word-token, word-wrong}
use Rattle.lexer.proofs.word_step.Goals as goal

pub slice_bounds-keyword-count : goal.slice_bounds-keyword-count
slice_bounds-keyword-count c = (ends _ _ _ _ _ c.run_end-e.ensures (omega (arith, c.requires.starts.inside))).0

pub slice_bounds-keyword-start : goal.slice_bounds-keyword-start
slice_bounds-keyword-start c = (ends _ _ _ _ _ c.run_end-e.ensures (omega (arith, c.requires.starts.inside))).0

pub slice_bounds-keyword-end : goal.slice_bounds-keyword-end
slice_bounds-keyword-end c = (ends _ _ _ _ _ c.run_end-e.ensures (omega (arith, c.requires.starts.inside))).1

pub separate-requires-clause-p_lt_e : goal.separate-requires-clause-p_lt_e
separate-requires-clause-p_lt_e c = let b = ends-past _ _ 13 14 13 14 _ c.requires.starts (omega arith) (omega arith) c.run_end-e.ensures in (b.0, b.1, c.if-k-ge-NO_KEYWORD.false)

pub returns : goal.returns
returns c = steps-by _ _ _ _ _ (word-token _ _ _ c.requires.starts c.run_end-e.ensures _ c.keyword-k.ensures c.if-k-ge-NO_KEYWORD.false) c.separate.ensures

pub returns-then-k-ge-NO_KEYWORD : goal.returns-then-k-ge-NO_KEYWORD
returns-then-k-ge-NO_KEYWORD c = word-wrong _ _ _ c.requires.starts c.run_end-e.ensures _ c.keyword-k.ensures c.if-k-ge-NO_KEYWORD.true
