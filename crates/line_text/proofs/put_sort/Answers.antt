-- Each branch is one of the sorts.
-- Assumes nothing.
use Rattle.text.specs.Written.{written_none}
use borrow.Author.Tests.{ne_eqb}
use Rattle.rules.specs.Text.{sort_tokens, word_token, token_text, tight, behind}
use Rattle.numbers.specs.Kinds.{sort_of}
use Rattle.netlist.specs.Statements.{sort_at}
use Rattle.signal_text.specs.Pieces.{spread}
use Rattle.line_text.proofs.put_sort.Goals as goal

pub returns-then-sort-eq0 : goal.returns-then-sort-eq0
unfolding sort_at sort_of sort_tokens spread behind
returns-then-sort-eq0 c = rw (← c.column-sort.ensures, c.if-sort-eq0.true) (written_none c.args.at c.args.out.now c.requires.0)

pub returns-then-sort-eq-SORT_SIGNED : goal.returns-then-sort-eq-SORT_SIGNED
unfolding sort_at sort_of sort_tokens word_token spread behind tight token_text
returns-then-sort-eq-SORT_SIGNED c = rw (← c.column-sort.ensures, c.if-sort-eq-SORT_SIGNED.true) c.put_bytes.ensures

pub shape_of-out-then-sort-eq-SORT_SIGNED : goal.shape_of-out-then-sort-eq-SORT_SIGNED
shape_of-out-then-sort-eq-SORT_SIGNED c = (returns-then-sort-eq-SORT_SIGNED c).kept

pub returns : goal.returns
unfolding sort_at sort_of sort_tokens word_token spread behind tight token_text
returns c =
    let column = c.column-sort in
    let if1 = c.if-sort-eq0 in
    let if2 = c.if-sort-eq-SORT_SIGNED in
    let put-bytes2 = c.put_bytes-2 in
    rw (← column.ensures, ne_eqb _ _ if1.false, ne_eqb _ _ if2.false) put-bytes2.ensures

pub shape_of-out : goal.shape_of-out
shape_of-out c = (returns c).kept
